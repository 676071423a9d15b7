pub mod Histogram
pub mod Unsummed
pub mod Accept
