pub mod Folding
pub mod Answers
pub mod Logs
