pub mod AsBox
pub mod SessionLemmas
