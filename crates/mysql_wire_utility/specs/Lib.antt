pub mod Changes
pub mod LongTexts
pub mod Replicas
