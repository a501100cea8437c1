pub mod Ticking
pub mod Ticks
