-- The slot of a place. Marks, acks, timers and resends go by the place on the ring, octets and lengths by the slot in memory.
use Rattle.std.specs.Prelude.{ℕ}
use Rattle.channel.specs.declared.record.Limits.{Limits}
use Rattle.channel.specs.declared.record.Channel.{Channel}

-- A memory of one channel alone has a slot for each place, with the place's number. It has a name because the two are not one thing: channels
-- that share a memory have their slots wherever there was one free. Nothing but its laws (`slot_bound`, `slot_apart`) knows which slot it is
unfoldable pub slot_in : Limits → ℕ → ℕ
slot_in l place = place

-- of a channel: by the part of its record that knows
abbrev pub slot_of : Channel → ℕ → ℕ
slot_of c = slot_in c.limits
