-- The units that a channel holds, read from its record, its lengths and its memory (document 01, A channel's record and memory).
use Rattle.std.specs.Prelude.{ℕ, zero, suc, ◌+◌, List, [], ◌∷◌, ◌++◌, get_or, if◌then◌else◌}
use Rattle.slots.specs.Ring.{round_of}
use Rattle.slots.specs.Marks.{ends}
use Rattle.slots.specs.Slots.{segment_in}
use Rattle.channel.specs.Places.{slot_of}
use Rattle.channel.specs.declared.record.Channel.{Channel}
use Rattle.channel.specs.Record.{held_in}
use Rattle.channel.specs.Standing.{oldest_of}

-- the octets of the segment at a place
abbrev pub octets_at : Channel → List ℕ → List ℕ → ℕ → List ℕ
octets_at c mem lens place = segment_in c.limits.payload mem lens (slot_of c place)

-- of n segments from a place on, round the ring, the units that end there; `part` is what comes before them of the first
unfoldable pub units_in : Channel → List ℕ → List ℕ → List ℕ → ℕ → ℕ → List (List ℕ)
units_in c mem lens part zero from = []
units_in c mem lens part (suc n) from =
    if ends (get_or c.marks from 0)
    then (part ++ octets_at c mem lens from) ∷ units_in c mem lens [] n (round_of c.limits.slots (from + 1))
    else units_in c mem lens (part ++ octets_at c mem lens from) n (round_of c.limits.slots (from + 1))

-- The complete units among all segments held: of a sender those neither confirmed nor reclaimed, of a receiver those that wait to be taken. A
-- unit that has not ended is not shown.
abbrev pub units_held : Channel → List ℕ → List ℕ → List (List ℕ)
units_held c mem lens = units_in c mem lens [] (held_in c.window) (oldest_of c.limits.slots c.window)
