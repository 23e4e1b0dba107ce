pub mod Lists
pub mod Plain
pub mod Meaning
pub mod Numbers
