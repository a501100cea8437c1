-- `crc::by_joins` meets its contract. The invariant: the word, going on over what is left, gives the check sum of the whole.
use Prim.Native.Nat.{◌*◌}
use mathlib.Core.Path.{◌≡◌}
use mathlib.Core.List.{[], ◌∷◌}
use lib.ListN.{drop}
use Rattle.crc.specs.Crc.{crc_from, crc_of}
use Rattle.crc.specs.Words.{words_into}
use Rattle.crc.proofs.by_joins.Given as goal

abbrev pub invariant-loop-k : goal.invariant-loop-k
invariant-loop-k l = crc_from (words_into 0 (l.word ∷ [])) (drop (8 * l.k) l.s) ≡ crc_of l.s
