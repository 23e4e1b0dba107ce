pub mod Pairs
pub mod Seeks
pub mod Turns
pub mod Marks
