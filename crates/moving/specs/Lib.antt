pub mod Refiling
