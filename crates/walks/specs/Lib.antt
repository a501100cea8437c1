pub mod Fold
pub mod Sweep
pub mod Serving
