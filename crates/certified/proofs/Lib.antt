pub mod Kept
pub mod Called
