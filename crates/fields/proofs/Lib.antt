pub mod Laws
pub mod Lists
pub mod Records
pub mod Differ
pub mod Names
