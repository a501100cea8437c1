-- The laws of the protocol.
pub mod Distances
pub mod Cutting
pub mod Small
pub mod Moves
pub mod Invariant
pub mod SenderSteps
pub mod ReceiverSteps
pub mod Delivered
pub mod Unfinished
pub mod Sample
