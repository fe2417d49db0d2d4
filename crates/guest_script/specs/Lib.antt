pub mod Script
pub mod Told
pub mod Legs
pub mod Laws
pub mod Rows
