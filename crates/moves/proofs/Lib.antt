pub mod Clocks
pub mod Gaining
pub mod Turns
pub mod Calming
