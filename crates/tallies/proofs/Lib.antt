pub mod Values
pub mod OneByOne
