pub mod Handed
pub mod Fold
pub mod Meaning
