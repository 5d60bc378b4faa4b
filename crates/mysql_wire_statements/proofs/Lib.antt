pub mod ColumnLemmas
pub mod TextReads
mod WrittenBackLemmas
