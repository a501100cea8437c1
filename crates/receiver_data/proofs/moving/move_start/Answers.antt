-- `receiver_data::moving::move_start` meets its contract: the run of marks from here on, and the move from here on, are what is left of the whole.
use Rattle.std.proofs.Common.{◌≡◌, ℕ, suc, ◌+◌, ◌-◌, get_or, sym, ap, ◌∙◌, arith}
use Rattle.slots.proofs.RingLaws.{round_lt}
use Rattle.receiver_data.specs.Moving.{moved_by}
use Rattle.receiver_data.proofs.MoveLaws.{move_break, move_step, run_here, run_room, run_next, run_over, way_le}
use Rattle.receiver_data.proofs.moving.move_start.Goals as goal

pub returns-then-not-fits : goal.returns-then-not-fits
returns-then-not-fits c =
    let a = c.args in
    let v = c.loop-i in
    let n = c.run-n.result in
    let slots = a.l.slots in
    let w = v.at in
    let less = c.loop-i-test.true in
    let one : n - v._i ≡ suc (n - (v._i + 1)) = omega (arith, less) in
    let on = v.invariant.5 ∙ one in
    let room = run_room slots a.l.segments a.marks w.behind w.place (n - (v._i + 1)) on in
    let held = run_here slots a.l.segments a.marks (slots - w.behind) w.place (n - (v._i + 1)) on in
    let m = slots - (w.behind + 1) in
    let e : slots - w.behind ≡ suc m = omega (arith, room) in
    let f = sym c.fits.ensures ∙ c.if-not-fits.true in
    sym (move_break slots a.l.segments a.marks w m held f)
    ∙ ap (λ (k : ℕ). moved_by slots a.l.segments a.marks k w) (sym e)
    ∙ v.invariant.6

pub loop-i-preserved : goal.loop-i-preserved
loop-i-preserved c =
    let a = c.args in
    let v = c.loop-i in
    let n = c.run-n.result in
    let slots = a.l.slots in
    let w = v.at in
    let less = c.loop-i-test.true in
    let one : n - v._i ≡ suc (n - (v._i + 1)) = omega (arith, less) in
    let on = v.invariant.5 ∙ one in
    let room = run_room slots a.l.segments a.marks w.behind w.place (n - (v._i + 1)) on in
    let held = run_here slots a.l.segments a.marks (slots - w.behind) w.place (n - (v._i + 1)) on in
    let m = slots - (w.behind + 1) in
    let e : slots - w.behind ≡ suc m = omega (arith, room) in
    let f = sym c.fits.ensures ∙ c.if-not-fits.false in
    let mark = get_or a.marks w.place 0 in
    let step = move_step slots a.l.segments a.marks w m held f in
    rw c.pass-at.ensures (
      v.invariant.0,
      round_lt slots (w.place + 1) (omega (arith, v.invariant.1)),
      omega (arith, room),
      omega (arith, way_le w.way mark, v.invariant.3),
      omega (arith, less),
      run_next slots a.l.segments a.marks w.behind w.place (n - (v._i + 1)) on,
      sym step ∙ ap (λ (k : ℕ). moved_by slots a.l.segments a.marks k w) (sym e) ∙ v.invariant.6,
    )

pub returns : goal.returns
returns c =
    let a = c.args in
    let v = c.loop-i in
    let n = c.run-n.result in
    let none : n - v._i ≡ 0 = omega (arith, c.loop-i-test.false) in
    sym (run_over a.l.slots a.l.segments a.marks (a.l.slots - v.at.behind) v.at (v.invariant.5 ∙ none)) ∙ v.invariant.6
