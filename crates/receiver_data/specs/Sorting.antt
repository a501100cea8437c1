-- Where the number of an arriving Data packet lies (document 01, Receiving; 000, 4.5.3.4 (1)).
use Rattle.std.specs.Prelude.{ℕ, ◌+◌, ◌-◌, ◌%◌, Bool, false, not, List, ◌==◌, nat_le, nat_lt, slice_index, if◌then◌else◌}
use Rattle.slots.specs.Ring.{round_of}
use Rattle.channel.specs.declared.record.Limits.{Limits}
use Rattle.channel.specs.declared.record.Window.{Window}
use Rattle.receiver_data.specs.declared.sorting.Sort.{Sort}
use Rattle.receiver_data.specs.declared.sorting.Sort.TheVariants.{New, Held, Behind, Other}

-- a number less the window start, taken round modulo 256
abbrev pub distance : ℕ → ℕ → ℕ
distance number start = (number + 256 - start) % 256

-- the place of the d-th number of the window
abbrev pub place_at : Limits → Window → ℕ → ℕ
place_at l w d = round_of l.slots (w.place + d)

-- house: the segment lies as many slots or more past the oldest segment not yet taken
abbrev pub no_room : Limits → Window → ℕ → Bool
no_room l w d = nat_le l.slots (w.behind + d)

-- already held. A place with no room is another, older segment's, whatever its mark says
unfoldable pub is_held : Limits → Window → List ℕ → ℕ → Bool
is_held l w marks d = if no_room l w d then false else not (slice_index marks (place_at l w d) == 0)

-- d < k: new, or held already; d at least 256 - k: behind; any other d
unfoldable pub sort_at : Limits → Window → List ℕ → ℕ → Sort
sort_at l w marks d =
    if nat_lt d l.window then (if is_held l w marks d then Held else New)
    else if nat_le (256 - l.window) d then Behind
    else Other
