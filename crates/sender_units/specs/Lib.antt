pub mod Transfer
pub mod Reclaiming
