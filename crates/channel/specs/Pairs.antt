-- Pairs of routes (document 02, A13): a sender may name its spare, which carries on with its units. On a pair a unit has a leading octet, 0 as it was
-- transferred, 1 (may repeat) once it was moved; it is part of what is filed.
use Rattle.std.specs.Prelude.{ℕ, zero, suc, ◌+◌, ◌-◌, Bool, true, false, not, ◌&&◌, ◌||◌, List, ◌∷◌, map, length, drop, ◌==◌, nat_le, slice_index, if◌then◌else◌}
use Rattle.channel.specs.declared.record.Limits.{Limits}
use Rattle.channel.specs.declared.record.Settings.{Settings}
use Rattle.channel.specs.Record.{sends}

-- ---- the leading octet

-- on a pair
abbrev pub led : Limits → Bool
led l = not (l.lead == 0)

-- what is filed of a unit that is transferred, and how many octets that is
abbrev pub filed : Limits → List ℕ → List ℕ
filed l u = if led l then 0 ∷ u else u

abbrev pub filed_count : Limits → ℕ → ℕ
filed_count l n = if led l then n + 1 else n

-- what is filed of a unit that is moved
abbrev pub again : List ℕ → List ℕ
again u = 1 ∷ drop 1 u

-- ---- the pairs of a table of n records: by index its spares (0 for none, else an index and 1 more), its leads and its directions

-- the spare of the i-th is another sending record of the table, and the i-th sends
unfoldable pub spare_fits : List ℕ → List ℕ → ℕ → ℕ → Bool
spare_fits spares ways n i =
    (slice_index spares i == 0)
    || (nat_le (slice_index spares i) n
    && not (slice_index spares i == i + 1)
    && slice_index ways i == sends
    && slice_index ways (slice_index spares i - 1) == sends)

-- one of the m from the j-th on names the i-th
unfoldable pub is_named : List ℕ → ℕ → ℕ → ℕ → Bool
is_named spares i zero j = false
is_named spares i (suc m) j = slice_index spares j == i + 1 || is_named spares i m (j + 1)

-- the i-th is on a pair: it names a spare, or is named as one. There, and nowhere else, a unit has a leading octet
abbrev pub lead_for : List ℕ → ℕ → ℕ → ℕ
lead_for spares n i = if not (slice_index spares i == 0) || is_named spares i n 0 then 1 else 0

unfoldable pub pair_fits : List ℕ → List ℕ → List ℕ → ℕ → ℕ → Bool
pair_fits spares leads ways n i = spare_fits spares ways n i && slice_index leads i == lead_for spares n i

-- the m from the i-th on
unfoldable pub pairs_from : List ℕ → List ℕ → List ℕ → ℕ → ℕ → ℕ → Bool
pairs_from spares leads ways n zero i = true
pairs_from spares leads ways n (suc m) i = pair_fits spares leads ways n i && pairs_from spares leads ways n m (i + 1)

abbrev pub spares_of : List Settings → List ℕ
spares_of s = map (λ x. x.limits.spare) s

abbrev pub leads_of : List Settings → List ℕ
leads_of s = map (λ x. x.limits.lead) s

abbrev pub ways_of : List Settings → List ℕ
ways_of s = map (λ x. x.addresses.direction) s

abbrev pub pairs_fit : List Settings → Bool
pairs_fit s = pairs_from (spares_of s) (leads_of s) (ways_of s) (length s) (length s) 0
