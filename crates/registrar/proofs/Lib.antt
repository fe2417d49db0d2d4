pub mod Counts
pub mod Alone
pub mod Results
