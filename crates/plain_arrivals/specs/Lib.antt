pub mod Votable
