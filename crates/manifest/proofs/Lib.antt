pub mod Counting
pub mod Faults
pub mod Distinct
pub mod Named
pub mod Walking
pub mod Putting
pub mod Whole
mod Utf8
