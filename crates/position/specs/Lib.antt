pub mod Position
pub mod Rule
