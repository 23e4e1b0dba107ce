pub mod Pieces
pub mod Encoded
pub mod ReadBack
pub mod Decoded
pub mod Held
pub mod Fitting
pub mod OneForm
