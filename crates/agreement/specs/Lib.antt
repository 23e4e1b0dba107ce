pub mod Schedule
pub mod Checks
pub mod Examples
