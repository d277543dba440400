pub mod FieldLaws
mod FlagLaws
pub mod ProofLaws
pub mod RequestLaws
pub mod TwigLaws
mod TwigLoop
mod StandardFacts
