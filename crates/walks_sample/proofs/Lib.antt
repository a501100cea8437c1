pub mod Types
pub mod Low
