pub mod Kept
pub mod Siblings
pub mod Covers
pub mod Upgrades
pub mod Honest
pub mod StandardFacts
