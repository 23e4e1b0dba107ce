pub mod Slips
pub mod Meaning
pub mod Examples
