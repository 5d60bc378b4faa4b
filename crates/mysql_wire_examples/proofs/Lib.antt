pub mod CallerLemmas
pub mod ValueLemmas
pub mod ConnectionLemmas
pub mod TallyLemmas
mod AccountLemmas
mod RelayedLemmas
mod MeasuredLemmas
pub mod SessionLemmas
pub mod BothEndsLemmas
pub mod LongPacketLemmas
mod OkPacketLemmas
mod TextListLemmas
mod KeyedLemmas
pub mod PutLemmas
