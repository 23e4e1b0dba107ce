mod Reading
pub mod Grammar
mod Openings
