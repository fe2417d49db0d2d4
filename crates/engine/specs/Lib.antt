pub mod Words
pub mod Seeing
pub mod Standing
pub mod Runs
