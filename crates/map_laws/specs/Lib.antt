pub mod Came
pub mod Own
pub mod Room
pub mod Whole
pub mod Laws
