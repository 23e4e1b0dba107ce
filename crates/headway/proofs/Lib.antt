pub mod Headway
pub mod Examples
