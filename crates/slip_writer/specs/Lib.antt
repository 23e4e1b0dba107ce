pub mod Writer
pub mod Called
