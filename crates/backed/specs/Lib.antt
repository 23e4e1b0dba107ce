pub mod Backed
