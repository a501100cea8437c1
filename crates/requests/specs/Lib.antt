pub mod Requests
pub mod Handing
