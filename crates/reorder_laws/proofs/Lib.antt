pub mod Kept
pub mod Pieces
pub mod Drains
pub mod Bytes
pub mod Again
