pub mod Places
pub mod Tallies
pub mod Joining
