pub mod Fields
pub mod Meaning
