-- `slots::filing::file_led` meets its contract: the slot ends within the memory; the octet written to its front and the part copied behind it are
-- laid there together.
use Prim.Native.Nat.{◌+◌, ◌*◌}
use mathlib.Core.Path.{ap, ◌∙◌}
use native.Mathlib.Numerals.{add-one}
use native.Mathlib.Omega.{arith}
use lib.ListN.{length, set}
use Rattle.slots.proofs.SlotLaws.{slot_in_lem, placed, laid_led}
use Rattle.slots.proofs.filing.file_led.Goals as goal

pub returns : goal.returns
returns c =
    let a = c.args in
    let at = a.slot * a.most in
    let room = slot_in_lem a.slot a.slots a.most (omega arith) in (
      placed (set a.mem.now at a.lead) (at + 1) _ a.part.now _ c.copy_from_slice.ensures.after (omega arith)
          ∙ laid_led a.mem.now at a.lead a.part.now (omega (arith, room)),
      ap (set a.lens.now a.slot) (add-one (length a.part.now)),
    )
