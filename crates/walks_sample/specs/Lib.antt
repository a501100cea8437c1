pub mod Surveying
pub mod Serving
pub mod Ticking
pub mod Configuring
pub mod Saying
