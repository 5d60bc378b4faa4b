pub mod Handshakes
pub mod Responses
