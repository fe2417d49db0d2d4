mod Steps
pub mod Faulty
pub mod Oracles
pub mod Told
pub mod Sources
pub mod Programs
pub mod Refusing
pub mod Telling
pub mod Fitting
