-- `crc::octet_into` meets its contract: eight bits shifted are the lower octet moved up, and the table's number at the upper.
use Prim.Native.Nat.{ℕ, ◌<◌, ◌*◌, ◌%◌, ◌^◌}
use mathlib.Core.Path.{ap, ◌∙◌}
use native.Mathlib.Omega.{arith}
use lib.Bits.{bit_xor, xor_lt}
use Rattle.crc.specs.Crc.{octet_into}
use Rattle.crc.proofs.Table.{table_octet}
use Rattle.crc.proofs.octet_into.Goals as goal

-- the register with the octet at its top
added : (r b : ℕ) → r < 2 ^ 16 → b < 2 ^ 8 → bit_xor r (b * 2 ^ 8) < 2 ^ 16
added r b hr hb = xor_lt 16 r (b * 2 ^ 8) hr (omega arith)

pub returns : goal.returns
unfolding octet_into
returns c =
    let r = c.args.register in
    let b = c.args.octet in
    let y = bit_xor r (b * 2 ^ 8) in
    ap (bit_xor (y * 2 ^ 8 % 2 ^ 16)) c.entry.ensures ∙ table_octet y (added r b c.ranges.register.fits c.ranges.octet.fits)
