pub mod Zeros
pub mod Classes
pub mod Refused
pub mod Back
