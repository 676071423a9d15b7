pub mod Keeps
pub mod Serves
pub mod Held
pub mod Room
pub mod RefusalNumbers
