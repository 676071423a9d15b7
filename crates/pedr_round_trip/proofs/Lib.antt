pub mod WriteBack
pub mod ReadBack
pub mod Bounds
