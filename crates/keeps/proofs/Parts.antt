-- The parts of the channels of one table lie one after another.
-- Assumes nothing.
use mathlib.Core.List.{List, [], ◌∷◌}
use Prim.Native.Nat.{ℕ, zero, suc, ◌+◌, ◌≤◌, ◌<◌}
use native.Mathlib.Nat.{not-suc-le-zero, le_of_suc-le-suc}
use native.Mathlib.Omega.{arith}
use lib.ListN.{length, get_or, take}
use Rattle.channel.specs.declared.record.Channel.{Channel}
use Rattle.table.specs.Lent.{area_of, all_slots, all_octets}
use Rattle.table.specs.Serving.{blank}

pub slots_order : (t : List Channel) (i j : ℕ) → i < j → i < length t → all_slots (take i t) + (get_or t i blank).limits.slots ≤ all_slots (take j t)
unfolding all_slots
slots_order [] i j less below = absurd (not-suc-le-zero below)
slots_order (c ∷ t) i zero less below = absurd (not-suc-le-zero less)
slots_order (c ∷ t) zero (suc j) less below = omega arith
slots_order (c ∷ t) (suc i) (suc j) less below = omega (arith, slots_order t i j (le_of_suc-le-suc less) (le_of_suc-le-suc below))

pub octets_order : (t : List Channel) (i j : ℕ) → i < j → i < length t → all_octets (take i t) + area_of (get_or t i blank).limits ≤ all_octets (take j t)
unfolding all_octets
octets_order [] i j less below = absurd (not-suc-le-zero below)
octets_order (c ∷ t) i zero less below = absurd (not-suc-le-zero less)
octets_order (c ∷ t) zero (suc j) less below = omega arith
octets_order (c ∷ t) (suc i) (suc j) less below = omega (arith, octets_order t i j (le_of_suc-le-suc less) (le_of_suc-le-suc below))
