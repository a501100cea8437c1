pub mod Acks
pub mod Stated
