pub mod Reaching
pub mod Places
pub mod Walks
