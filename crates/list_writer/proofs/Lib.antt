mod Adding
mod Entering
