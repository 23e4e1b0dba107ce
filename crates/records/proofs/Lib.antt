pub mod Places
pub mod Writes
pub mod Changes
pub mod Entered
pub mod Sized
