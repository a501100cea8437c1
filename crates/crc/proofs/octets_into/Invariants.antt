-- `crc::octets_into` meets its contract. The invariant: the register, going on over what is left, gives the sum of all.
use Prim.Native.Nat.{◌*◌}
use mathlib.Core.Path.{◌≡◌}
use lib.ListN.{drop}
use Rattle.crc.specs.Crc.{crc_from}
use Rattle.crc.proofs.octets_into.Given as goal

abbrev pub invariant-loop-k : goal.invariant-loop-k
invariant-loop-k l = crc_from l.r (drop (2 * l.k) l.s) ≡ crc_from l.register l.s
