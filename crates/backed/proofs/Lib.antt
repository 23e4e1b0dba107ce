mod Parts
pub mod Keys
