pub mod Visiting
pub mod Behind
pub mod Starting
pub mod Telling
pub mod Ending
pub mod Changing
