-- Where Flow Control is used and the link keeps order, Data finds a slot: `Room` is the statement, `Order` is what keeping order means.
pub mod Order
pub mod Room
