pub mod Tables
pub mod Keeping
pub mod Book
pub mod Whole
pub mod Regions
pub mod Own
pub mod View
pub mod Laws
