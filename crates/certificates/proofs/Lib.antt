mod Openings
mod Ranks
mod Masks
