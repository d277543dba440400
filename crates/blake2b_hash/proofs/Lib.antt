pub mod StandardFacts
pub mod Rounds
pub mod Pieces
pub mod Hashes
