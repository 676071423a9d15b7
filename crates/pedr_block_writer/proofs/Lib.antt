pub mod Stores
pub mod Fits
