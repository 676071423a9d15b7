pub mod Turns
pub mod Ladders
