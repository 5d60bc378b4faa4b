pub mod Backslashes
pub mod Digits
pub mod Fields
pub mod FieldTables
pub mod Parts
pub mod Plain
pub mod Stops
