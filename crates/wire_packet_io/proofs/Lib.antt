mod PacketIoLemmas
mod BoundLemmas
mod SkipLemmas
pub mod CopyLemmas
pub mod RelayLemmas
mod WholeLemmas
mod LendingLemmas
mod PlaceLemmas
mod RoomLemmas
mod ReadingLemmas
