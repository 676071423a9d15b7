pub mod Refused
pub mod Numbers
pub mod Back
