pub mod Requests
pub mod Plan
pub mod Runs
