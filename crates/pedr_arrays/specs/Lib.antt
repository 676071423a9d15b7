pub mod Arrays
pub mod Uninterpreted
