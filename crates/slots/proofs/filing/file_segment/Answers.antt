-- `slots::filing::file_segment` meets its contract: the slot ends within the memory, and the part copied to its front is laid there.
use Prim.Native.Nat.{◌*◌}
use mathlib.Core.Path.{refl}
use native.Mathlib.Omega.{arith}
use Rattle.slots.proofs.SlotLaws.{placed}
use Rattle.slots.proofs.filing.file_segment.Goals as goal

pub returns : goal.returns
returns c =
    let a = c.args in
    (placed a.mem.now (a.slot * a.most) _ a.part.now _ c.copy_from_slice.ensures.after (omega arith), refl)
