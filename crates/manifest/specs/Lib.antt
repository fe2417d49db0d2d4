pub mod Names
pub mod Entries
pub mod Keys
pub mod Manifest
