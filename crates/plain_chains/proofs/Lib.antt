pub mod Parts
pub mod Walks
pub mod Merges
pub mod Joins
