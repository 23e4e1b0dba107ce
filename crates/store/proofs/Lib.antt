pub mod Values
pub mod Loaded
pub mod Rows
pub mod Kept
pub mod Tables
pub mod Forms
pub mod Counts
pub mod Searches
