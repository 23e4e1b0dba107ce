pub mod Walks
pub mod Forms
