pub mod Configuring
pub mod Seeing
