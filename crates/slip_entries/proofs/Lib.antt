pub mod Reading
pub mod Parents
