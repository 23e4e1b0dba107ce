pub mod Mixes
pub mod Firsts
pub mod Walks
pub mod Apart
