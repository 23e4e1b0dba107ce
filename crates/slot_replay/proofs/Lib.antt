pub mod Untaken
pub mod Turns
