pub mod Frames
pub mod Framing
pub mod Pieces
pub mod Filling
pub mod Stages
pub mod Lending
