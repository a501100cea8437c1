pub mod Asking
pub mod Records
pub mod Trace
pub mod Reading
