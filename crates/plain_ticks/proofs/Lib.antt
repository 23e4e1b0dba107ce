pub mod Turning
pub mod Ticking
