pub mod Each
pub mod Proper
