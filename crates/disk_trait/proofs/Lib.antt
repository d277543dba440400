mod Calls
mod CrashImages
mod Fuses
mod Histories
mod Overlays
mod Replays
mod Rows
pub mod Runs
