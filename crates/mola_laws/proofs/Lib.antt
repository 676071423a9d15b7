pub mod Lies
pub mod NeverSaid
pub mod Lowered
pub mod LoweredStructs
pub mod LoweredRecords
pub mod LoweredSession
