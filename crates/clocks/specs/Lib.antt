pub mod Forget
pub mod Runs
