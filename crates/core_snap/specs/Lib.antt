pub mod Reads
pub mod Causes
pub mod Ways
