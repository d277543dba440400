pub mod Made
pub mod Stack
