pub mod Batch
pub mod Growth
pub mod Honest
pub mod Kept
pub mod Limits
