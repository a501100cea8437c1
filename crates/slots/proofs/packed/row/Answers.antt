-- `slots::packed::row` meets its contract. The invariant: all marks that were passed are set.
use Prim.Native.Nat.{ℕ, ◌+◌, ◌/◌}
use mathlib.Core.List.{List}
use mathlib.Core.Path.{◌≡◌, refl, sym, ap, ◌∙◌}
use native.Mathlib.Omega.{arith}
use lib.Count.{count_trailing_zeros, trailing_le}
use Rattle.laws.specs.Octets.{Octets}
use Rattle.slots.specs.Packed.{row_of, word_of}
use Rattle.slots.proofs.PackedLaws.{row_on, row_all, row_ends, unset_of, counted}
use Rattle.slots.proofs.packed.row.Goals as goal

-- what is counted in the word of eight marks from a place on
marks_set : (l : List ℕ) → Octets l → (s w : ℕ) → w ≡ word_of l s 8 → count_trailing_zeros 64 (unset_of 8 w) / 8 ≡ row_of l 8 s
marks_set l o s w e = ap (λ (x : ℕ). count_trailing_zeros 64 (unset_of 8 x) / 8) e ∙ counted l o 8 s

pub loop-count-init : goal.loop-count-init
unfolding row_of
loop-count-init c = refl

pub returns-then-k-lt8 : goal.returns-then-k-lt8
returns-then-k-lt8 c =
    let known = c in
    let a = known.args in
    let count = c.loop-count.count in
    let e = marks_set a.marks.now (λ k. (known.type_inv.marks k).fits) (a.from + count) c.eight_from-w.result c.eight_from-w.ensures in
    c.min.ensures ∙ row_ends a.marks.now count a.n 8 a.from _ (omega arith) c.loop-count.invariant e (omega arith)

pub loop-count-preserved : goal.loop-count-preserved
loop-count-preserved c =
    let known = c in
    let a = known.args in
    let w = c.eight_from-w.result in
    let count = c.loop-count.count in
    let e = marks_set a.marks.now (λ k. (known.type_inv.marks k).fits) (a.from + count) w c.eight_from-w.ensures in
    omega (arith, e, trailing_le 64 (unset_of 8 w), row_on a.marks.now count 8 a.from c.loop-count.invariant)

pub returns : goal.returns
returns c =
    let a = c.args in
    sym (row_all a.marks.now a.n c.loop-count.count a.from (omega arith))

-- eight more are set, and so many are not left
pub returns-else-k-lt8 : goal.returns-else-k-lt8
returns-else-k-lt8 c =
    let known = c in
    let a = known.args in
    let w = c.eight_from-w.result in
    let count = c.loop-count.count in
    let e = marks_set a.marks.now (λ k. (known.type_inv.marks k).fits) (a.from + count) w c.eight_from-w.ensures in
    let on = row_on a.marks.now count 8 a.from c.loop-count.invariant in
    sym (row_all a.marks.now a.n (count + 8) a.from (omega (arith, e, trailing_le 64 (unset_of 8 w), on)))
