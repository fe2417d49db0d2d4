pub mod Leading
pub mod Pairs
