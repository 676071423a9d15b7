pub mod Runs
pub mod Carried
