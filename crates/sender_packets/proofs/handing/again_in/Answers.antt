-- `sender_packets::handing::again_in` meets its contract: the invariant: what was passed and what is left to pass make the whole.
use Rattle.std.proofs.Common.{◌≡◌, ap, Bool, ◌-◌, ◌≤◌, true, false, ◌&&◌, eqb, get_or, sym, ◌∙◌, ap₂, arith, eq-eqb, ne_eqb}
use mathlib.Core.Bool.{false≢true}
use lib.ListN.{get_or-eq_default}
use Rattle.sender_packets.proofs.HandLaws.{again_stop, again_more, again_none}
use Rattle.sender_packets.proofs.handing.again_in.Goals.{then-s-ge128-via-then-s-ge128, then-s-ge128-via-else-s-ge128+then-left-s-eq0, then-acked-s-eq0, else-acked-s-eq0}
use Rattle.sender_packets.proofs.handing.again_in.Goals as goal

pub returns-then-s-ge128 : goal.returns-then-s-ge128
returns-then-s-ge128 c =
    let a = c.args in
    let at = c.loop-i in
    let found : (eqb (get_or a.acked.now at.s 0) 0 && eqb (get_or a.left.now at.s 0) 0) ≡ true =
    elim c.then-s-ge128.branch [
      | then-s-ge128-via-then-s-ge128 w ↦
          let past : 128 ≤ at.s = w.if-s-ge128.true in
          ap₂ ◌&&◌
          (eq-eqb (get_or a.acked.now at.s 0) 0 (get_or-eq_default a.acked.now 0 {n = at.s} (omega (arith, c.told-acked, past))))
          (eq-eqb (get_or a.left.now at.s 0) 0 (get_or-eq_default a.left.now 0 {n = at.s} (omega (arith, c.told-left, past))))
      | then-s-ge128-via-else-s-ge128+then-left-s-eq0 w ↦
          elim w.if-acked-s-eq0.branch [
            | then-acked-s-eq0 v ↦ ap₂ ◌&&◌ (eq-eqb (get_or a.acked.now at.s 0) 0 v.if-acked-s-eq0.true) (sym v.value-is ∙ w.if-left-s-eq0.true)
            | else-acked-s-eq0 v ↦ absurd (false≢true (sym (ne_eqb (get_or a.acked.now at.s 0) 0 v.if-acked-s-eq0.false) ∙ sym v.value-is ∙ w.if-left-s-eq0.true))
          ]
    ] in
    omega (arith, at.invariant, again_stop a.acked.now a.left.now a.slots (a.n - at.i) at.s found)

pub loop-i-preserved : goal.loop-i-preserved
loop-i-preserved c =
    let a = c.args in
    let at = c.loop-i in
    let passed : (eqb (get_or a.acked.now at.s 0) 0 && eqb (get_or a.left.now at.s 0) 0) ≡ false =
    elim c.if-acked-s-eq0.branch [
      | then-acked-s-eq0 v ↦ ap₂ ◌&&◌ (eq-eqb (get_or a.acked.now at.s 0) 0 v.if-acked-s-eq0.true) (sym v.value-is ∙ c.if-left-s-eq0.false)
      | else-acked-s-eq0 v ↦ ap (λ (b : Bool). b && eqb (get_or a.left.now at.s 0) 0) (ne_eqb (get_or a.acked.now at.s 0) 0 v.if-acked-s-eq0.false)
    ] in
    let more = again_more a.acked.now a.left.now a.slots a.n at.i at.s c.loop-i-test.true passed in
    rw c.round-s.ensures (omega (arith, at.invariant, more))

pub returns : goal.returns
returns c =
    let a = c.args in
    let at = c.loop-i in
    omega (arith, at.invariant, c.loop-i-test.false, at.auto.i-end, again_none a.acked.now a.left.now a.slots a.n at.i at.s c.loop-i-test.false)
