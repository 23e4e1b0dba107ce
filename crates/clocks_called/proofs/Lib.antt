pub mod Alike
pub mod First
