pub mod Kinds
pub mod Layout
pub mod Tests
pub mod Writing
pub mod Reading
pub mod RoundTrip
