pub mod Chains
pub mod Called
