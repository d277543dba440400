pub mod Gives
pub mod Siblings
pub mod Stored
pub mod Fitting
pub mod Making
pub mod Deciding
pub mod Honest
