pub mod Lists
pub mod Hosting
pub mod Coming
pub mod Going
