pub mod StandardFacts
pub mod RootLists
