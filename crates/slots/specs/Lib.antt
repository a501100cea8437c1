pub mod Ring
pub mod Packed
pub mod Marks
pub mod Slots
pub mod Units
