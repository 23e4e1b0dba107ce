pub mod Lookups
pub mod Finds
