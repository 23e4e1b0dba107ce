pub mod Readers
pub mod Telling
pub mod Viewing
pub mod Voting
pub mod Looking
pub mod Seeing
pub mod Tables
