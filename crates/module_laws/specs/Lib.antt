pub mod Hosted
pub mod Laws
