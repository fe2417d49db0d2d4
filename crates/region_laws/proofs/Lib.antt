pub mod Regions
pub mod HeapMoves
pub mod Replies
pub mod Placing
