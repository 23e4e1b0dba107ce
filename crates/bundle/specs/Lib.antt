pub mod Writing
pub mod Meaning
pub mod Examples
