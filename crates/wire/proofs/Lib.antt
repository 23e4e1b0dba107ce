pub mod Reading
pub mod Statements
