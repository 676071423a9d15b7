pub mod Between
pub mod Buffer
pub mod Link
pub mod Offers
pub mod Theorem
pub mod Waiting
pub mod Made
