pub mod Heard
pub mod Carried
pub mod Wellness
pub mod Promises
pub mod Until
pub mod Examples
