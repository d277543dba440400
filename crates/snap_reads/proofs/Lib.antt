pub mod OneBlock
pub mod Trails
pub mod Shown
pub mod UnderSnapshot
