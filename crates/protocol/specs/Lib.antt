-- One opening of a channel as a protocol engineer draws it on a board: what a reader must believe of demand 3. `Delivery` is the statement.
pub mod Numbers
pub mod Units
pub mod Ends
pub mod Sending
pub mod Receiving
pub mod History
pub mod Delivery
pub mod Windows
