pub mod RenumberLemmas
pub mod SpanLemmas
pub mod MixLemmas
pub mod FrameLemmas
pub mod PartLemmas
pub mod PassingLemmas
pub mod VisitLemmas
