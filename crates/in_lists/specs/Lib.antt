pub mod Block
pub mod Full
pub mod Linked
pub mod Lists
pub mod Nodes
pub mod View
