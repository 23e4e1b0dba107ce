pub mod Choose
pub mod Meaning
pub mod Examples
