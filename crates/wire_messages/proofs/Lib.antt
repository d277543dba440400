pub mod PassLaws
pub mod AgainLaws
pub mod TypeLaws
pub mod Sizes
mod StandardFacts
