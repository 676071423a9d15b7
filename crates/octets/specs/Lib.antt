pub mod Bytes
pub mod Refusal
pub mod Table
pub mod Word
