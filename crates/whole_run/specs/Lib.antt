pub mod Job
pub mod Shelf
pub mod Whole
pub mod Start
pub mod Crew
pub mod Code
