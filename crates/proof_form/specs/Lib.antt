pub mod Flags
pub mod Form
pub mod Requests
pub mod Twigs
pub mod Proofs
