-- Demand 3 of the real calls: `Delivery` is the statement, `Calls` and `History` are what it is said with. `Readable` and `Held` stand beside it.
pub mod Calls
pub mod History
pub mod Delivery
pub mod Readable
pub mod Held
