pub mod Entries
pub mod Heads
pub mod Meaning
