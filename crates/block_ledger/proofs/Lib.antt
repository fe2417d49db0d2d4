pub mod Gets
pub mod Views
pub mod Room
pub mod Rows
pub mod RunRows
