pub mod Messages
pub mod Replies
pub mod Room
pub mod TwoWords
