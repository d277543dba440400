pub mod Events
pub mod States
pub mod Refusals
pub mod Next
pub mod Acts
pub mod Logs
pub mod Memory
pub mod MemoryParts
