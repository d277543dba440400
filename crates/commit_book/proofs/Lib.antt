pub mod PrefixLemmas
pub mod HistoryLemmas
pub mod StandardFacts
pub mod Moves
pub mod Marks
