pub mod Maps
pub mod Lists
pub mod Marking
pub mod Removing
pub mod Members
