pub mod Reorganise
pub mod Refusals
pub mod Truncations
