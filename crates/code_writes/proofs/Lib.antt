pub mod Indexing
pub mod Lists
pub mod Maps
pub mod Paging
pub mod Searching
