pub mod ConvertedLemmas
pub mod RowLemmas
