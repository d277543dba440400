mod StandardFacts
pub mod FrontLemmas
pub mod FrameLemmas
pub mod TakenLemmas
pub mod PieceLemmas
pub mod SpellingLemmas
