pub mod Chosen
pub mod Moving
pub mod Ticking
pub mod Standing
pub mod Fair
pub mod Ends
pub mod Order
