pub mod Laws
pub mod Merge
pub mod Moves
pub mod Places
pub mod Rule
pub mod Seats
pub mod Stages
pub mod Steps
