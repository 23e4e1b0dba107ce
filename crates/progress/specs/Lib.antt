pub mod Progress
pub mod Examples
