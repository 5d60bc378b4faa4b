pub mod ClientSteps
pub mod ServerSteps
pub mod Answers
pub mod Rows
