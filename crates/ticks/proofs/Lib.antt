pub mod TickLaws
pub mod SweepLaws
pub mod Turns
