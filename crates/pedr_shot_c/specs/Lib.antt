pub mod Shot
