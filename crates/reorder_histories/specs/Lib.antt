pub mod History
pub mod Histories
pub mod Drained
pub mod Made
