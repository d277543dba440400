pub mod EventLemmas
mod Closing
mod Finding
mod Moves
