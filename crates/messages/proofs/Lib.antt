pub mod Handling
pub mod Rooms
