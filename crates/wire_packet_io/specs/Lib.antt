pub mod PacketIo
pub mod Lending
pub mod Bounds
pub mod Skips
pub mod Copying
pub mod Relaying
pub mod Whole
