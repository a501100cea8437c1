-- `crc::fall` meets its contract: the law of the fall by four words.
use mathlib.Core.Path.{sym}
use Prim.Native.Nat.{◌^◌, ◌<◌}
use native.Mathlib.Omega.{arith}
use Rattle.crc.proofs.Falls.{fall_four_lem}
use Rattle.crc.proofs.fall.Goals as goal

pub returns : goal.returns
returns c =
    let at = c in
    let f = at.args.f in
    let l : f.a < 2 ^ 64 = omega arith in
    sym (fall_four_lem f.a f.b f.c f.d at.args.word l)
