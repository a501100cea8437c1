-- The laws of the segment at a place, and of segments that lie one after another round the ring, beside the protocol's lists of segments.
pub mod Runs
pub mod Lying
pub mod Sends
pub mod SenderControl
pub mod SenderPlaces
pub mod Handing
pub mod Cuts
pub mod Transfers
pub mod SenderHeld
pub mod Reclaims
pub mod Advances
pub mod SenderAcks
-- What a receiving record means in the protocol, and what each step of it means there.
pub mod Wholes
pub mod ReceiverPlaces
pub mod Receives
pub mod Leaving
pub mod ReceiverControl
pub mod Filing
pub mod Moving
pub mod ReceiverData
pub mod Near
pub mod Taking
pub mod ReceiverHeld
-- What means nothing in the protocol, at either end: the pulse.
pub mod Pulses
-- The units that a record holds stay as they are.
pub mod UnitsStay
pub mod PulseMoves
pub mod FlowPlaces
