pub mod Shots
pub mod Descriptor
pub mod Codes
pub mod DescriptorRead
