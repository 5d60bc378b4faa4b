pub mod Copies
pub mod ElementLaws
pub mod Numbers
pub mod Counted
