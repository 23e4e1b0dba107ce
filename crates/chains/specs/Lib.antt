pub mod Chains
