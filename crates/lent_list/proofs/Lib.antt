pub mod Lengths
pub mod Placed
pub mod Made
pub mod Standing
pub mod Kept
pub mod Rooms
