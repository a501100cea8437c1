-- The mark of a slot: 0 for a slot not in use, else its segment's sequence flags and 1 more (document 01, A channel's record and memory;
-- 000, Table 4-1).
use Rattle.std.specs.Prelude.{ℕ, ◌+◌, ◌%◌, Bool, leb, eqb}

abbrev pub mark_of : ℕ → ℕ
mark_of flags = flags + 1

-- the segment begins a unit: flags 01 or 11
abbrev pub begins : ℕ → Bool
begins mark = eqb (mark % 2) 0

-- the segment ends a unit: flags 10 or 11
abbrev pub ends : ℕ → Bool
ends mark = leb 3 mark
