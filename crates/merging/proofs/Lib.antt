pub mod Places
pub mod Joining
