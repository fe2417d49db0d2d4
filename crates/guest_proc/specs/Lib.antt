pub mod Fresh
pub mod Process
pub mod Begun
pub mod Kept
pub mod Called
pub mod Started
pub mod Maps
