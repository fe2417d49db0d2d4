pub mod Leads
pub mod Linked
pub mod View
