pub mod ClassRefusal
pub mod Laid
pub mod Layout
pub mod RecordLayout
pub mod BlockFrame
