pub mod Quality
pub mod Encoder
pub mod Descriptor
