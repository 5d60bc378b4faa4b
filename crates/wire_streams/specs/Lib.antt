pub mod Streams
pub mod Varlen
pub mod Version
