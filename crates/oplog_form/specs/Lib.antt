pub mod Form
pub mod Heads
pub mod Nodes
pub mod Commits
pub mod Records
pub mod Headers
pub mod Entries
