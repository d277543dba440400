mod Alone
pub mod Inputs
pub mod Spellings
mod StandardFacts
pub mod Steps
pub mod Writing
