pub mod Whole
pub mod Store
