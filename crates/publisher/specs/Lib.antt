pub mod Loads
pub mod Serving
pub mod Folder
pub mod Leg
pub mod Areas
pub mod Going
pub mod Laws
