pub mod Totals
pub mod Written
pub mod Answers
pub mod Laws
pub mod Again
