-- `slots::filing::read_segment` meets its contract: the slot ends within the memory, and its octets copied to `out` are laid there.
use Prim.Native.Nat.{ℕ, ◌+◌, ◌-◌, ◌*◌}
use mathlib.Core.Path.{◌≡◌, ap, ◌∙◌}
use native.Mathlib.Omega.{arith}
use lib.ListN.{length, take, drop, get_or, length-take, length-drop}
use Rattle.slots.specs.Slots.{segment_in}
use Rattle.slots.proofs.SlotLaws.{slot_in_lem, placed}
use Rattle.slots.proofs.filing.read_segment.Goals as goal

pub returns : goal.returns
returns c =
    let a = c.args in
    let from = a.slot * a.most in
    let n = get_or a.lens.now a.slot 0 in
    let room = slot_in_lem a.slot a.slots a.most (omega arith) in
    let e : from + n - from ≡ n = omega arith in
    let long : length (segment_in a.most a.mem.now a.lens.now a.slot) ≡ n = simp (length-take, length-drop) (omega (arith, room)) in
    placed
    a.out.now
    a.at
    _
    (segment_in a.most a.mem.now a.lens.now a.slot)
    _
    (c.copy_from_slice.ensures.after ∙ ap (λ (k : ℕ). take k (drop from a.mem.now)) e)
    (omega (arith, long))
