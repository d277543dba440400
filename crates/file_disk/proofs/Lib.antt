mod Counting
mod Fronts
pub mod Parts
mod Reading
mod Retrying
mod StepLemmas
mod Writing
