pub mod Bits
pub mod Integers
pub mod Ranges
pub mod Given
