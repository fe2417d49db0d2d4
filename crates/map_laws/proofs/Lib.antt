pub mod Answering
pub mod Calling
pub mod Stopping
pub mod Roomy
pub mod Whole
