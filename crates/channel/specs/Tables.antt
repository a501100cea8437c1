-- Settings for a whole table at once (document 01, A channel's record and memory): 1 to 16 of them, each fit, and no two with equal channel number,
-- remote address and remote prefix; and spares that fit (document 02, A13). All others are refused with 13.
use Rattle.std.specs.Prelude.{ℕ, Bool, true, false, not, ◌&&◌, ◌||◌, List, [], ◌∷◌, length, nat_le}
use Rattle.channel.specs.declared.record.Addresses.{Addresses}
use Rattle.channel.specs.declared.record.Settings.{Settings}
use Rattle.channel.specs.Settings.{fit, clash}
use Rattle.channel.specs.Pairs.{pairs_fit}

-- the most records of a table
abbrev pub most_records : ℕ
most_records = 16

-- some of these have such addresses
unfoldable pub clashes : Addresses → List Settings → Bool
clashes a [] = false
clashes a (s ∷ l) = clash a s.addresses || clashes a l

unfoldable pub each_fit : List Settings → Bool
each_fit [] = true
each_fit (s ∷ l) = fit s && not (clashes s.addresses l) && each_fit l

unfoldable pub fit_table : List Settings → Bool
fit_table l = nat_le 1 (length l) && nat_le (length l) most_records && each_fit l && pairs_fit l
