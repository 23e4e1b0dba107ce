pub mod Moments
pub mod Sizes
