pub mod Hanging
