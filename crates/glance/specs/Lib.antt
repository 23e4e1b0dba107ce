pub mod Votes
pub mod Looks
pub mod Tables
