pub mod Sorting
pub mod Moving
pub mod Data
pub mod Taking
