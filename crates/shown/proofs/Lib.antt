pub mod Passing
pub mod Showing
pub mod Accepted
pub mod OneForm
