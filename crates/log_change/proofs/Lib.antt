pub mod Applied
pub mod History
pub mod Named
pub mod Rooted
pub mod Forks
pub mod Grown
pub mod InOrder
pub mod Reading
pub mod KeptRoots
mod StandardFacts
