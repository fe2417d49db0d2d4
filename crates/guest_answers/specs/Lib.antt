pub mod Plan
pub mod Desk
pub mod Makes
pub mod Room
pub mod Answer
pub mod Laws
pub mod Begin
pub mod Entries
