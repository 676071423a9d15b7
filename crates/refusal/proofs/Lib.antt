pub mod Said
pub mod Differ
