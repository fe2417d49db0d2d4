pub mod Least
pub mod Values
pub mod Alike
pub mod Places
pub mod Testing
