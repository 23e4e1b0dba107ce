pub mod Statements
pub mod Searches
pub mod Tops
pub mod Pairs
