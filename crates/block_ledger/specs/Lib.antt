pub mod Ledger
pub mod Requests
pub mod Traced
pub mod Laws
