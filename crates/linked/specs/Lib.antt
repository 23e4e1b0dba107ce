pub mod Told
pub mod Links
pub mod Answers
