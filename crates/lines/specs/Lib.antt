pub mod Script
pub mod Kinds
pub mod Answers
pub mod Examples
