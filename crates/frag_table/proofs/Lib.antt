pub mod Maps
pub mod Positions
