pub mod Listing
pub mod Answers
pub mod Laws
pub mod Examples
