-- `moving::fetching::read_part` meets its contract: what is copied is what is left of the slot, as far as there is room.
use Prim.Native.Nat.{ℕ, ◌+◌, ◌-◌, ◌*◌}
use mathlib.Core.Path.{◌≡◌, sym, ap, ◌∙◌}
use native.Mathlib.Omega.{arith}
use lib.ListN.{length, take, drop, length-drop}
use lib.Seq.{length-take-le}
use Rattle.slots.specs.Slots.{laid, segment_in}
use Rattle.slots.proofs.SlotLaws.{placed, laid_none}
use Rattle.moving.proofs.FetchLaws.{read_none, read_ends, read_some}
use Rattle.moving.proofs.fetching.read_part.Goals as goal

pub returns-then-n-skip : goal.returns-then-n-skip
returns-then-n-skip c =
    let a = c.args in
    let pre = c.requires in
    let none = read_none a.slots a.most a.mem.now a.lens.now a.slot a.skip (length a.out.now - a.at) pre.sized pre.slot_lt_slots.0 pre.slot_lt_slots.1 (omega arith) in
    (sym (ap length none), sym (ap (laid a.out.now a.at) none ∙ laid_none a.out.now a.at))

pub returns : goal.returns
returns c =
    let a = c.args in
    let pre = c.requires in
    let from = a.slot * a.most + a.skip in
    let least = c.min-count.ensures in
    let count = c.min-count.result in
    let e : from + count - from ≡ count = omega arith in
    let some = read_some a.slots a.most a.mem.now a.lens.now a.slot a.skip (length a.out.now - a.at) pre.sized pre.slot_lt_slots.0 pre.slot_lt_slots.1 count least (omega arith) in
    let long : length (take count (drop from a.mem.now)) ≡ count =
    length-take-le count (drop from a.mem.now) (omega (arith, length-drop from a.mem.now, read_ends a.slots a.most a.mem.now a.lens.now a.slot a.skip (length a.out.now - a.at) pre.sized pre.slot_lt_slots.0 pre.slot_lt_slots.1 count least (omega arith))) in (
      sym long ∙ ap length some,
      placed
          a.out.now
          a.at
          _
          (take (length a.out.now - a.at) (drop a.skip (segment_in a.most a.mem.now a.lens.now a.slot)))
          _
          (c.copy_from_slice.ensures.after ∙ ap (λ (k : ℕ). take k (drop from a.mem.now)) e ∙ some)
          (omega (arith, long, ap length some)),
    )
