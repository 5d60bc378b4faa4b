pub mod ColumnLemmas
pub mod RowLemmas
pub mod SkipLemmas
pub mod TextReads
