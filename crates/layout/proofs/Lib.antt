pub mod Cover
pub mod Store
pub mod Values
pub mod Row
