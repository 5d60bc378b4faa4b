pub mod Elements
pub mod Payloads
