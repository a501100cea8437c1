-- Laws of the slot of a place: all that is known of it.
-- Assumes nothing.
use Rattle.std.proofs.Common.{◌≡◌, ℕ, ◌<◌}
use Rattle.slots.specs.Slots.{Slotted}
use Rattle.channel.specs.declared.record.Limits.{Limits}
use Rattle.channel.specs.Places.{slot_in}

pub slot_bound : (l : Limits) (place : ℕ) → place < l.slots → slot_in l place < l.slots
unfolding slot_in
slot_bound l place h = h

pub slot_apart : (l : Limits) (p q : ℕ) → slot_in l p ≡ slot_in l q → p ≡ q
unfolding slot_in
slot_apart l p q e = e

pub slotted : (l : Limits) → Slotted (slot_in l) l.slots l.slots
slotted l = record { bound = slot_bound l; apart = λ p q h k e. slot_apart l p q e }
