pub mod Words
pub mod Outcome
pub mod Answer
pub mod Seen
pub mod Reading
pub mod Ended
pub mod Prepared
pub mod Run
