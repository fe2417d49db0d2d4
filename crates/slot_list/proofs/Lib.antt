pub mod Places
pub mod Uses
pub mod Numbers
pub mod Names
