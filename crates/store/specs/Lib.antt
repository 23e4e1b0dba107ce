pub mod Layout
pub mod Decode
pub mod Meaning
pub mod Searches
