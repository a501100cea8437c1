-- `slots::ring::run` meets its contract. The invariant: what was passed and the run from here on make the whole run.
use Prim.Native.Nat.{ℕ, ◌-◌, ◌+◌}
use mathlib.Core.Path.{◌≡◌, ap}
use native.Mathlib.Omega.{arith}
use Rattle.slots.specs.Ring.{round_of, run_of}
use Rattle.slots.proofs.RingLaws.{round_lt, run_none}
use Rattle.slots.proofs.PackedLaws.{row_all, run_ends_in, run_goes_on}
use Rattle.slots.proofs.ring.run.Goals as goal

pub returns-then-k-span : goal.returns-then-k-span
returns-then-k-span c =
    let at = c.loop-count in
    let a = c.args in
    let span = c.min-span.result in
    omega
    (arith, c.row-k.ensures, run_ends_in a.marks.now a.slots span (a.n - at.count) at.s (omega arith) (omega arith) (omega arith))

pub loop-count-preserved : goal.loop-count-preserved
loop-count-preserved c =
    let at = c.loop-count in
    let a = c.args in
    let span = c.min-span.result in
    let all = row_all a.marks.now span span at.s (omega arith) in
    let on = run_goes_on a.marks.now a.slots span (a.n - at.count) at.s (omega arith) (omega arith) (omega arith) all in
    let e : a.n - at.count - span ≡ a.n - (at.count + span) = omega arith in
    let f = ap (λ (k : ℕ). run_of a.marks.now a.slots k (round_of a.slots (at.s + span))) e in
    (omega arith, rw c.round-s.ensures (round_lt _ _ (omega arith)), rw c.round-s.ensures (omega arith))

pub returns : goal.returns
returns c =
    let at = c.loop-count in
    let a = c.args in
    omega (arith, run_none a.marks.now a.slots a.n at.count at.s c.loop-count-test.false)
