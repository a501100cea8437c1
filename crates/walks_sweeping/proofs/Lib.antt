pub mod Fold
pub mod Sweep
pub mod Afresh
pub mod Sweeping
pub mod Making
pub mod Testing
pub mod First
