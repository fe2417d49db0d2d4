pub mod Plain
pub mod Known
pub mod Answer
pub mod Runs
pub mod Ready
pub mod Places
pub mod Steps
