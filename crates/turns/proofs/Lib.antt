pub mod Parts
pub mod Leading
pub mod Entering
pub mod Ballots
pub mod Arriving
pub mod Room
