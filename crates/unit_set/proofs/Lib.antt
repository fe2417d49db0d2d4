pub mod SlotText
pub mod SlotFields
pub mod SlotLaws
pub mod Unions
pub mod Merging
