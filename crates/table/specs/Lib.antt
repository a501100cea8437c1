pub mod Waiting
pub mod Looking
pub mod Lent
pub mod Serving
pub mod Surveying
