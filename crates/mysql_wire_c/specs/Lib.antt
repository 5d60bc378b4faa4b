pub mod Numbers
pub mod Calls
pub mod Owned
pub mod Lent
