pub mod StandardFacts
pub mod NumberLemmas
pub mod RootLemmas
pub mod OverLemmas
pub mod CoverLemmas
