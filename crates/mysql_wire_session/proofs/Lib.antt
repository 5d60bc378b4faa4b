pub mod FrontLemmas
pub mod OpeningLemmas
pub mod AnswerLemmas
pub mod ReportLemmas
pub mod PacketLemmas
