-- A unit reclaimed at the record is the protocol's: the oldest one held.
-- Assumes nothing.
use mathlib.Core.Path.{◌≡◌, refl, sym, ap, ◌∙◌, subst, subst₂}
use mathlib.Core.List.{List, [], ◌∷◌}
use mathlib.Core.Logic.{⊎_elim}
use mathlib.Core.Option.{some}
use Prim.Native.Nat.{ℕ, ◌+◌, ◌-◌, ◌≤◌, ◌<◌}
use native.Mathlib.Nat.{pos_of_ne-zero}
use native.Mathlib.Omega.{arith}
use lib.ListN.{length, drop, get_or}
use lib.Seq.{get_or-drop}
use Rattle.slots.specs.Ring.{round_of, back_of, cleared}
use Rattle.slots.proofs.RingLaws.{round_lt, round_add, cleared_out, cleared_length}
use Rattle.channel.specs.Places.{slot_of}
use Rattle.channel.proofs.PlaceLaws.{slotted}
use Rattle.store.specs.Store.{unit_of, octets_in}
use Rattle.store.proofs.Laws.{unit_le, octets_length}
use Rattle.channel.specs.declared.record.Channel.{Channel}
use Rattle.channel.specs.declared.step.Stepped.{Stepped}
use Rattle.channel.specs.Answers.{number_of}
use Rattle.channel.specs.Record.{sends}
use Rattle.channel.specs.Record as record_of
use Rattle.channel.specs.Standing.{oldest_of}
use Rattle.channel.specs.Asked.{Asked}
use Rattle.channel.proofs.StandingLaws.{counted_is}
use Rattle.sender_units.specs.Reclaiming.{unit_at, size_at, dropped, reclaim_step}
use Rattle.sender_units.proofs.UnitLaws.{unit_fits}
use Rattle.ends.proofs.SenderKeeps.{sided_still, back_none}
use Rattle.protocol.specs.Units.{DataUnit, Segment, blank, units, first_unit}
use Rattle.protocol.specs.Ends.{Phase, shut, rank, Answer}
use Rattle.protocol.specs.Sending as sending
use Rattle.protocol.specs.Sending.{Sender, reclaiming, reclaim, sender_step}
use Rattle.means.specs.Meaning.{limits_of, lying}
use Rattle.means.proofs.Runs.{Lies, run_first}
use Rattle.means.proofs.Sends.{held_at, Holds, Sends, not_fresh, state_closed}
use Rattle.ends.proofs.SenderCases.{reclaim_cases}
use Rattle.means.proofs.Lying.{lying_same}
use Rattle.means.proofs.SenderHeld.{held_length, held_lies, Complete, complete, phase_cases}

-- ---- what a reclaim that is answered with 0 has shown

given : (c : Channel) (lens : List ℕ) (n : ℕ) → number_of (reclaim_step c lens n).answer ≡ 0
    → (c.phase.state ≡ record_of.closed) × (c.window.ahead ≡ 0 → ⊥) × ((reclaim_step c lens n).channel ≡ dropped c (unit_at c))
given c lens n =
    reclaim_cases c
    (λ (x : Stepped). number_of x.answer ≡ 0
    → (c.phase.state ≡ record_of.closed) × (c.window.ahead ≡ 0 → ⊥) × (x.channel ≡ dropped c (unit_at c))) lens n
    (λ e. absurd (omega arith)) (λ e. absurd (omega arith)) (λ e. absurd (omega arith)) (λ is some e. (is, some, refl))

-- ---- the oldest segments are gone

module _ (c : Channel) (mem lens : List ℕ) (a : Asked c mem lens) (line : List Segment) (oldest : ℕ) (x : Holds c mem lens line oldest)
    (still : c.window.behind ≡ 0) where
  -- nothing lies behind the start
  pub oldest_at : oldest_of c.limits.slots c.window ≡ c.window.place
  oldest_at =
      let n = counted_is c.limits c.window a.standing.ring a.standing.flight in
      ap (back_of c.limits.slots c.window.place) still ∙ back_none c.limits.slots c.window.place n.place

  dropped_holds : (m : ℕ) → m ≤ c.window.ahead → Holds (dropped c m) mem lens line (oldest + m)
  dropped_holds m l =
      let n = counted_is c.limits c.window a.standing.ring a.standing.flight in
      let slots = c.limits.slots in
      let place = c.window.place in
      let from = round_of slots (place + m) in
      let in_ring_lem : from < slots = round_lt slots (place + m) (omega (arith, n.place, n.held)) in
      let marks = cleared c.marks slots m place in
      let at : (j : ℕ) → m + j < slots → held_at (dropped c m) j ≡ round_of slots (place + (m + j))
      = λ j h.
      ap (λ (b : ℕ). round_of slots (back_of slots from b + j)) still
      ∙ ap (λ (p : ℕ). round_of slots (p + j)) (back_none slots from in_ring_lem)
      ∙ round_add slots place m j (omega (arith, n.place))
      in
      record {
        count = omega (arith, x.count);
        each = λ j h.
            let far : m + j < slots = omega (arith, n.held) in
            let index : oldest + (m + j) ≡ oldest + m + j = omega arith in
            let here = round_of slots (place + (m + j)) in
            ap (lying (dropped c m) mem lens) (at j far)
            ∙ lying_same c (dropped c m) mem lens mem lens here (cleared_out c.marks slots m place (m + j) n.place far (omega arith)) (λ used. refl)
            ∙ ap (λ (p : ℕ). lying c mem lens (round_of slots (p + (m + j)))) (sym oldest_at)
            ∙ x.each (m + j) (omega arith)
            ∙ ap (λ (i : ℕ). some (get_or line i blank)) index;
        whole = x.whole;
        marks = cleared_length c.marks slots m place ∙ x.marks;
        acks = x.acks;
      }

  -- ---- the oldest unit: the last segment held ends a unit, so one is complete

  -- its octets, as the record writes them
  abbrev written : DataUnit
  written = octets_in (slot_of c) c.limits.payload mem lens c.limits.slots (unit_at c) c.window.place

  written_length : size_at c lens ≡ length written
  written_length =
      let n = counted_is c.limits c.window a.standing.ring a.standing.flight in
      let few = unit_le c.marks c.limits.slots c.window.ahead c.window.place in
      sym (octets_length (slot_of c) c.limits.slots c.limits.payload mem lens c.limits.slots (unit_at c) c.window.place
      (slotted c.limits) a.sized n.place (omega (arith, few, n.held)) (unit_fits c mem lens a (unit_at c) few))

  last_ends : 1 ≤ c.window.ahead → Complete [] (drop oldest line)
  last_ends some-held =
      let len = held_length c mem lens line oldest x in
      let l = drop oldest line in
      let k = length l - 1 in
      complete l [] k (omega (arith, len))
      (ap (λ (g : Segment). g.last) (get_or-drop oldest line k blank) ∙ x.whole (oldest + k) (omega (arith, len, x.count)))

  lies_at : Lies c mem lens c.window.place (drop oldest line)
  lies_at = subst (λ (p : ℕ). Lies c mem lens p (drop oldest line)) oldest_at (held_lies c mem lens line oldest x)

  first_unit_lem : (u : DataUnit) (us : List DataUnit) → units [] (drop oldest line) ≡ u ∷ us
      → (unit_at c ≡ first_unit (drop oldest line)) × (u ≡ written)
  first_unit_lem u us e =
      let n = counted_is c.limits c.window a.standing.ring a.standing.flight in
      let len = held_length c mem lens line oldest x in
      let f = run_first c mem lens (drop oldest line) [] c.window.place u us n.place (omega (arith, len, n.held)) lies_at e in
      let ahead : length (drop oldest line) ≡ c.window.ahead = omega arith in
      let count : unit_at c ≡ first_unit (drop oldest line)
      = ap (λ (m : ℕ). unit_of c.marks c.limits.slots m c.window.place) (sym ahead) ∙ f.count
      in (
        count,
        sym f.octets
            ∙ ap (λ (m : ℕ). octets_in (slot_of c) c.limits.payload mem lens c.limits.slots m c.window.place) (sym count),
      )

-- ---- the theorem

module _ (c : Channel) (mem lens : List ℕ) (s : Sender) (a : Asked c mem lens) (d : c.addresses.direction ≡ sends) (r : Sends c mem lens s)
    (n : ℕ) where
  -- the step of the record is this of the protocol
  abbrev Same : Sender × Answer → Type 0
  Same y =
      Sends (reclaim_step c lens n).channel mem lens y.0
      × (y.1.number ≡ 0)
      × (y.1.unit ≡ octets_in (slot_of c) c.limits.payload mem lens c.limits.slots (unit_at c) c.window.place)
      × (size_at c lens ≡ length y.1.unit)

  not_begun : (c.window.ahead ≡ 0 → ⊥) → 1 ≤ rank s.phase
  not_begun held = ⊎_elim (λ f. absurd (held (omega (arith, (r.before f).empty)))) (λ h. h) (phase_cases s.phase)

  module _ (end : s.phase ≡ shut) (is : (reclaim_step c lens n).channel ≡ dropped c (unit_at c)) (x : Holds c mem lens s.line s.oldest)
      (still : c.window.behind ≡ 0) where
    given_back : (u : DataUnit) (us : List DataUnit) → units [] (drop s.oldest s.line) ≡ u ∷ us → Same (reclaiming shut (u ∷ us) s)
    given_back u us e =
        let late : rank s.phase ≡ 4 = ap rank end in
        let f = first_unit_lem c mem lens a s.line s.oldest x still u us e in (
          subst (λ (y : Channel). Sends y mem lens (reclaiming shut (u ∷ us) s).0) (sym is)
              (record {
                state = r.state;
                before = λ y. absurd (not_fresh s.phase (omega arith) y);
                held = λ _.
                    subst (λ (m : ℕ). Holds (dropped c (unit_at c)) mem lens s.line (s.oldest + m)) f.0
                    (dropped_holds c mem lens a s.line s.oldest x still (unit_at c)
                    (unit_le c.marks c.limits.slots c.window.ahead c.window.place));
                window = λ _ y. absurd (omega arith);
              }),
          refl,
          f.1,
          written_length c mem lens a s.line s.oldest x still ∙ ap length (sym f.1),
        )

    is_given : 1 ≤ c.window.ahead → Same (reclaiming s.phase (sending.held s) s)
    is_given least =
        let one = last_ends c mem lens a s.line s.oldest x still least in
        subst₂ (λ (p : Phase) (us : List DataUnit). Same (reclaiming p us s)) (sym end) (sym one.is) (given_back one.unit one.more one.is)

  pub reclaim_sends : number_of (reclaim_step c lens n).answer ≡ 0
      → Sends (reclaim_step c lens n).channel mem lens (sender_step (limits_of c.limits) s reclaim).0
      × ((sender_step (limits_of c.limits) s reclaim).1.number ≡ 0)
      × ((sender_step (limits_of c.limits) s reclaim).1.unit
      ≡ octets_in (slot_of c) c.limits.payload mem lens c.limits.slots (unit_at c) c.window.place)
      × (size_at c lens ≡ length (sender_step (limits_of c.limits) s reclaim).1.unit)
  reclaim_sends e =
      let g = given c lens n e in
      let later = not_begun g.1 in
      let still = sided_still c.addresses.direction c.phase.state c.window d (λ o. omega (arith, g.0)) a.standing.sided in
      is_given (state_closed s.phase (sym r.state ∙ g.0) later) g.2 (r.held later) still.0 (pos_of_ne-zero g.1)
