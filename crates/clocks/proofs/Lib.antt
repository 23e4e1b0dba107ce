pub mod Tables
pub mod Blind
pub mod Ticks
pub mod Forgets
pub mod Joins
pub mod Calls
pub mod First
pub mod Examples
