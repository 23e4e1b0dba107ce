pub mod Heard
pub mod Run
