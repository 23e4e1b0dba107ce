pub mod Items
pub mod Reading
pub mod Meaning
