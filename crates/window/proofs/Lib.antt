pub mod Held
pub mod Furthest
