pub mod Bench
pub mod DisplayBench
