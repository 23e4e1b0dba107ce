pub mod Disk
pub mod After
pub mod Resumed
