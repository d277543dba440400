pub mod LogChange
pub mod Calls
