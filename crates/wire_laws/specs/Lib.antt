pub mod PayloadsBack
pub mod RowsBack
