pub mod Views
pub mod Overlays
pub mod Walks
