pub mod Stored
pub mod Running
pub mod Reading
pub mod Waits
