-- `slots::packed::eight_from` meets its contract: where fewer than eight marks are left, those before them fall out at the bottom, and 0 comes in.
use Prim.Native.Nat.{ℕ, ◌+◌, ◌-◌, ◌*◌, ◌/◌, ◌^◌}
use mathlib.Core.Path.{◌≡◌, ap, ◌∙◌}
use native.Mathlib.Omega.{arith}
use lib.ListN.{length}
use Rattle.slots.specs.Packed.{word_of}
use Rattle.slots.proofs.PackedLaws.{word_last}
use Rattle.slots.proofs.packed.eight_from.Goals as goal

pub returns : goal.returns
returns c =
    let known = c in
    let a = known.args in
    let l = a.marks.now in
    let last = length l - 8 in
    let e : last + (a.s - last) ≡ a.s = omega arith in
    ap (λ (x : ℕ). x / 2 ^ (8 * (a.s - last))) c.eight_at-2.ensures
    ∙ word_last l (λ k. (known.type_inv.marks k).fits) last (a.s - last) (omega arith) (omega arith)
    ∙ ap (λ (k : ℕ). word_of l k 8) e
