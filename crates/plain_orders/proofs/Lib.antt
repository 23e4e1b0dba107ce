pub mod Keeping
pub mod Inserting
pub mod Picking
