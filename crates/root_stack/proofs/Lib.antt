pub mod BecomesFull
pub mod Climb
pub mod CoverParts
pub mod Covering
pub mod FullRoots
pub mod Levels
pub mod NodeLists
mod StandardFacts
pub mod TwigValues
