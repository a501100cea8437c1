-- How a unit is cut into segments (document 01, Sending): all but the last have P octets, and an empty unit is one whole segment of 0 octets.
use Rattle.std.specs.Prelude.{ℕ, zero, suc, ◌+◌, ◌-◌, ◌*◌, ◌/◌, List, [], ◌++◌, take, drop, eqb, if◌then◌else◌}

-- how many segments of at most `most` octets a unit of n octets has
abbrev pub segments_of : ℕ → ℕ → ℕ
segments_of most n = if eqb n 0 then 1 else (n - 1) / most + 1

-- the octets of the unit u's i-th segment, from 0
abbrev pub segment_cut : ℕ → List ℕ → ℕ → List ℕ
segment_cut most u i = take most (drop (i * most) u)

-- the sequence flags of the i-th of `count` segments: 11 whole, 01 first, 10 last, 00 continuation
abbrev pub flags_of : ℕ → ℕ → ℕ
flags_of count i = if eqb count 1 then 3 else if eqb i 0 then 1 else if eqb (i + 1) count then 2 else 0

-- the octets of n segments from the i-th on, one after another
unfoldable pub joined : ℕ → List ℕ → ℕ → ℕ → List ℕ
joined most u zero i = []
joined most u (suc n) i = segment_cut most u i ++ joined most u n (i + 1)
