pub mod Said
pub mod Admitting
pub mod Taken
pub mod Free
pub mod Ready
pub mod Turns
pub mod Keeps
pub mod Numbered
