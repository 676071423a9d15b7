pub mod Listed
pub mod Told
