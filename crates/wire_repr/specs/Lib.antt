pub mod Law
pub mod Numbers
pub mod SignedNumbers
pub mod Texts
