pub mod Ranges
pub mod Counts
pub mod Bytes
mod Views
mod Kept
mod Masks
mod Parts
mod WordSearch
mod WordCounts
mod WordBytes
mod StandardFacts
