pub mod Time
pub mod Fields
