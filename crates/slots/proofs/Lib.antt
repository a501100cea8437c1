pub mod RingLaws
pub mod PackedLaws
pub mod SlotLaws
pub mod Units
