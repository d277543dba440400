pub mod Finding
pub mod Laying
pub mod LeftSums
pub mod Spots
pub mod StoredNodes
