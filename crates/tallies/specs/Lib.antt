pub mod Values
pub mod Meaning
