pub mod History
pub mod Prefix
pub mod States
pub mod Rule
pub mod Seats
