pub mod Going
pub mod Ages
pub mod Rows
