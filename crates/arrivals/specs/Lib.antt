pub mod Finding
pub mod Replying
pub mod Data
pub mod Arriving
