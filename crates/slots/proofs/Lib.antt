pub mod Inputs
pub mod Records
