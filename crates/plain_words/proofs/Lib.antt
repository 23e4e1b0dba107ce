pub mod Statements
pub mod Firsts
pub mod Searches
pub mod Tables
