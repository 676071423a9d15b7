pub mod ReadAs
pub mod WriteBack
pub mod ReadBack
pub mod Typed
