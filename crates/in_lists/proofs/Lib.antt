pub mod Calls
pub mod Chains
mod Crosses
pub mod Cutting
pub mod Emptied
pub mod Keeping
pub mod Laws
pub mod Links
pub mod Putting
pub mod Reading
mod Memory
mod Written
