pub mod Columns
pub mod Payloads
pub mod RowValues
pub mod ShortestRows
pub mod TextValues
pub mod RowPlaces
