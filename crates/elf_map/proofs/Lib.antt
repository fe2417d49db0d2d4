pub mod NumberLemmas
pub mod HeaderLemmas
pub mod RuleLemmas
pub mod SpanLemmas
