pub mod Digits
pub mod Texts
pub mod Pieces
pub mod Reports
pub mod Whole
