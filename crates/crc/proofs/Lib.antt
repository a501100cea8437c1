pub mod Eight
pub mod Falls
pub mod Over
pub mod Table
pub mod Words
pub mod Xor
