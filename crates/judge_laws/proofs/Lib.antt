pub mod KeptRoots
pub mod Reorganised
pub mod Admitted
pub mod Histories
pub mod TrueValues
pub mod Covering
pub mod Made
mod StandardFacts
