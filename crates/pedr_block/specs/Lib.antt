pub mod Frames
pub mod Block
