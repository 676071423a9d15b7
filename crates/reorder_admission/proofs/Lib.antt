pub mod Handed
pub mod Ladders
