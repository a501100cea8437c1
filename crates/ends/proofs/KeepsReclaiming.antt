-- A unit reclaimed keeps the standing condition.
-- Assumes nothing.
use mathlib.Core.Path.{◌≡◌, refl, sym, ap, ◌∙◌}
use mathlib.Core.List.{List}
use Prim.Native.Nat.{ℕ, ◌+◌, ◌≤◌, ◌<◌}
use native.Mathlib.Omega.{arith}
use lib.Dec.{eqb}
use lib.ListN.{get_or}
use Rattle.slots.specs.Ring.{round_of, back_of, cleared}
use Rattle.slots.proofs.RingLaws.{round_lt, round_add, cleared_out}
use Rattle.store.proofs.Laws.{unit_le}
use Rattle.channel.specs.declared.record.Channel.{Channel}
use Rattle.channel.specs.Record.{sends, opened}
use Rattle.channel.specs.Places.{slot_of}
use Rattle.channel.specs.Standing.{Standing}
use Rattle.channel.proofs.StandingLaws.{counted_is, named_is, rested_on}
use Rattle.sender_units.specs.Reclaiming.{unit_at, dropped, reclaim_step}
use Rattle.channel.specs.declared.step.Stepped.{Stepped}
use Rattle.ends.proofs.SenderCases.{reclaim_cases}
use Rattle.ends.proofs.SenderKeeps.{sided_way, sided_still, still_sided, stand, back_none, cleared_fit}

-- the oldest n segments are gone
dropped_stands : (c : Channel) (lens : List ℕ) → Standing c lens → c.addresses.direction ≡ sends → (c.phase.state ≡ opened → ⊥)
    → (n : ℕ) → n ≤ c.window.ahead → Standing (dropped c n) lens
dropped_stands c lens h s shut n l =
    let w = c.window in
    let slots = c.limits.slots in
    let small = named_is c h.named in
    let k = counted_is c.limits w h.ring h.flight in
    let z = sided_way c.addresses.direction c.phase.state w s h.sided in
    let still = sided_still c.addresses.direction c.phase.state w s shut h.sided in
    let from = round_of slots (w.place + n) in
    let f : from < slots = round_lt slots (w.place + n) (omega (arith, k.place, k.held)) in
    let old : back_of slots w.place w.behind ≡ w.place = ap (back_of slots w.place) still.0 ∙ back_none slots w.place k.place in
    let new : back_of slots from w.behind ≡ from = ap (back_of slots from) still.0 ∙ back_none slots from f in
    stand (dropped c n) lens h.fit h.count
    (record { addresses = small.addresses; state = small.state; reason = small.reason; kept = small.kept; accepted = small.accepted; control = small.control; pulse = small.pulse })
    (record {
      place = f;
      held = omega (arith, k.held);
      flight = omega (arith, still.1);
      window = k.window;
      way = k.way;
      unit = k.unit;
    })
    (still_sided c.addresses.direction c.phase.state (dropped c n).window s z still.0 still.1)
    (rested_on c.addresses.direction c.phase c.phase refl (λ q. q) w (dropped c n).window refl refl h.rested)
    (λ i less q.
    let far : n + i < slots = omega (arith, still.0, k.held) in
    let on : round_of slots (from + i) ≡ round_of slots (w.place + (n + i)) = round_add slots w.place n i (omega (arith, k.place)) in
    let m = cleared c.marks slots n w.place in
    h.held (n + i) (omega (arith, still.0))
    (ap (λ (p : ℕ). get_or c.marks (round_of slots (p + (n + i))) 0) old
    ∙ sym (cleared_out c.marks slots n w.place (n + i) k.place far (omega arith))
    ∙ ap (λ (p : ℕ). get_or m p 0) (sym on)
    ∙ ap (λ (p : ℕ). get_or m (round_of slots (p + i)) 0) (sym new)
    ∙ q))
    (cleared_fit (slot_of c) (eqb c.addresses.direction sends) c.limits.payload c.marks lens slots n w.place k.place h.slots)

pub reclaim_stands : (c : Channel) (lens : List ℕ) (n : ℕ) → Standing c lens → c.addresses.direction ≡ sends
    → Standing (reclaim_step c lens n).channel lens
reclaim_stands c lens n h s =
    reclaim_cases c (λ (s : Stepped). Standing s.channel lens) lens n h h h
    (λ is some. dropped_stands c lens h s (λ o. omega arith) (unit_at c) (unit_le c.marks c.limits.slots c.window.ahead c.window.place))
