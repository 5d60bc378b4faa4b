pub mod Converted
pub mod Borrowed
pub mod Rows
