pub mod Places
pub mod Rooms
pub mod Writing
