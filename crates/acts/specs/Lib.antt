pub mod Works
pub mod Answers
