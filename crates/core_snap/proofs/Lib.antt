pub mod StandardFacts
pub mod FoldLemmas
pub mod WayLemmas
pub mod SameLemmas
