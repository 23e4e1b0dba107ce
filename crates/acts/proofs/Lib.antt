pub mod Stores
pub mod Works
pub mod Rooms
pub mod Answers
pub mod Blames
pub mod Places
pub mod Votes
pub mod Statements
