pub mod Block
pub mod Frames
