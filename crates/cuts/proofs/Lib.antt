pub mod Stored
pub mod Tries
pub mod Replays
pub mod Cuts
pub mod Resumed
