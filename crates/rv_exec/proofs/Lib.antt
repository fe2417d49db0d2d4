pub mod AluLemmas
