pub mod Quality
pub mod Descriptor
pub mod Class
pub mod Encoder
pub mod Shot
