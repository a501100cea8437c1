pub mod Asked
pub mod Receiving
