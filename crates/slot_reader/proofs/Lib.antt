pub mod Judging
pub mod OneForm
