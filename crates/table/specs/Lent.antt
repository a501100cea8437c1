-- The lent table, memory, lengths and lines (document 01, A channel's record and memory): 'A node's memories lie one after another in table order'.
use Rattle.std.specs.Prelude.{ℕ, ◌+◌, ◌*◌, Bool, true, ◌&&◌, List, [], ◌∷◌, leb, eqb, length, take, drop}
use Rattle.channel.specs.declared.record.Limits.{Limits}
use Rattle.channel.specs.declared.record.Channel.{Channel}
use Rattle.channel.specs.Tables.{most_records}
use Rattle.lines.specs.Fit.{fit_lines}
use Rattle.channel.specs.Standing.{standing}

-- ---- sizes

abbrev pub area_of : Limits → ℕ
area_of l = l.slots * l.payload

-- the slots and the octets of all records together
unfoldable pub all_slots : List Channel → ℕ
all_slots [] = 0
all_slots (c ∷ t) = c.limits.slots + all_slots t

unfoldable pub all_octets : List Channel → ℕ
all_octets [] = 0
all_octets (c ∷ t) = area_of c.limits + all_octets t

-- ---- a channel's own part

-- n elements from a place on
abbrev pub part_of : ℕ → ℕ → List ℕ → List ℕ
part_of from n l = take n (drop from l)

-- where the lengths and the octets of the record at index i begin: behind those before it
abbrev pub slot_at : List Channel → ℕ → ℕ
slot_at t i = all_slots (take i t)

abbrev pub octet_at : List Channel → ℕ → ℕ
octet_at t i = all_octets (take i t)

-- ---- the test for 13

-- each record stands with its own lengths
unfoldable pub each_stands : List Channel → List ℕ → Bool
each_stands [] lens = true
each_stands (c ∷ t) lens = standing c (take c.limits.slots lens) && each_stands t (drop c.limits.slots lens)

-- 1 to 16 records, lengths and memory of their size to the last, and no record that lacks its condition
unfoldable pub lawful : List Channel → List ℕ → List ℕ → Bool
lawful t mem lens =
    leb 1 (length t)
    && leb (length t) most_records
    && eqb (length lens) (all_slots t)
    && eqb (length mem) (all_octets t)
    && each_stands t lens

-- and lines of such a table (document 02, A4)
unfoldable pub passes : List Channel → List ℕ → List ℕ → List ℕ → Bool
passes t mem lens lines = lawful t mem lens && fit_lines (length t) lines
