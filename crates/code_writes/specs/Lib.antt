pub mod Block
pub mod Index
pub mod Meeting
pub mod Pages
