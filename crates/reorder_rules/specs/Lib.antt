pub mod Sizes
pub mod Outcome
pub mod Buffer
pub mod Offer
pub mod Turn
pub mod Serve
pub mod Pass
pub mod Promises
