-- `slots::packed::eight_at` meets its contract.
use mathlib.Core.Path.{sym, ◌∙◌}
use Rattle.slots.proofs.PackedLaws.{word_loaded}
use Rattle.slots.proofs.packed.eight_at.Goals as goal

pub returns : goal.returns
returns c = c.from_le_bytes.ensures ∙ sym (word_loaded c.args.marks.now c.args.s)
