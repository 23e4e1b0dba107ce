pub mod Statements
pub mod Ranks
