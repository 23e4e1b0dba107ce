pub mod Offers
pub mod Steps
pub mod Ticks
