pub mod Layout
pub mod Header
pub mod SumWord
pub mod Cover
