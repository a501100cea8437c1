-- `crc::by_falls` meets its contract. The invariant: the four words, going on over what is left, give the check sum of the whole.
use Prim.Native.Nat.{◌*◌}
use mathlib.Core.Path.{◌≡◌}
use mathlib.Core.List.{[], ◌∷◌}
use lib.ListN.{drop}
use Rattle.crc.specs.Crc.{crc_from, crc_of}
use Rattle.crc.specs.Words.{words_into}
use Rattle.crc.proofs.by_falls.Given as goal

abbrev pub invariant-loop-k : goal.invariant-loop-k
invariant-loop-k l = crc_from (words_into 0 (l.four.a ∷ l.four.b ∷ l.four.c ∷ l.four.d ∷ [])) (drop (8 * l.k) l.s) ≡ crc_of l.s
