pub mod Order
pub mod Pigeon
pub mod Telling
pub mod Course
pub mod Quiet
pub mod Ticks
