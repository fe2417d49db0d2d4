pub mod Ended
pub mod Guest
pub mod Run
