pub mod Typed
pub mod RoundTrip
