pub mod Climb
pub mod FullRoots
pub mod Held
pub mod HonestLemmas
pub mod Levels
pub mod LogNodes
pub mod Made
pub mod NodeLists
pub mod Pushing
mod StandardFacts
pub mod TrailSteps
