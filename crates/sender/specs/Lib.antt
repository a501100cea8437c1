pub mod Directives
pub mod Ticking
