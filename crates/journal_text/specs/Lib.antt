pub mod Journal
pub mod Shut
