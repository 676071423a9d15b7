pub mod Shots
pub mod Flags
pub mod Frame
