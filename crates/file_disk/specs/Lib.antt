pub mod Disk
pub mod Files
pub mod Laws
pub mod Memory
pub mod Names
pub mod Standard
