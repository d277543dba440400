pub mod Links
pub mod LinkCalls
pub mod Dials
pub mod Memory
pub mod Standard
