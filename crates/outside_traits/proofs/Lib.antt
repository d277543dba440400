mod Cutting
mod Filling
mod Giving
pub mod LineLemmas
pub mod LinesSoFar
mod Lying
mod Reading
mod Refilling
mod Retrying
mod StandardFacts
mod Writing
