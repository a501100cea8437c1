-- The Open directive, Control packets and ticks of a receiving record are, in the protocol, moves to a later phase or nothing.
-- Assumes nothing.
use mathlib.Core.Path.{◌≡◌, refl, sym, ap, ◌∙◌, subst}
use mathlib.Core.Bool.{Bool, true, false}
use mathlib.Core.List.{List, []}
use mathlib.Core.Option.{Option, none}
use Prim.Native.Nat.{ℕ, zero, suc, ◌+◌, ◌-◌, ◌≤◌, ◌<◌}
use native.Mathlib.Nat.{le_refl}
use native.Mathlib.Omega.{arith}
use borrow.Author.Tests.{lt-ltb, le-ltb, leb-true, leb-false, eqb-true, eqb-false}
use lib.Dec.{ltb, leb, eqb}
use lib.ListN.{get_or, replicate, length-replicate}
use Rattle.slots.specs.Ring.{round_of}
use Rattle.channel.specs.declared.record.Channel.{Channel}
use Rattle.channel.specs.declared.record.Timers.{Timers}
use Rattle.channel.specs.declared.record.Pulse.{Pulse}
use Rattle.channel.specs.declared.lone.Fallen.{Fallen}
use Rattle.channel.specs.declared.pulse.Beaten.{Beaten}
use Rattle.channel.specs.declared.step.Stepped.{Stepped}
use Rattle.channel.specs.declared.step.Ticked.{Ticked}
use Rattle.channel.specs.Record as record_of
use Rattle.channel.specs.Record.{receives, held_in, no_lone, with_state, with_pulse, with_timers, late_open, control_number, retries_out, unanswered}
use Rattle.channel.specs.Lone.{fallen}
use Rattle.channel.specs.Pulse.{started_pulse, beaten}
use Rattle.channel.specs.Flow.{lowered_flow}
use Rattle.channel.specs.Steps.{enabled_of}
use Rattle.channel.specs.Standing.{oldest_of}
use Rattle.channel.specs.Answers.{number_of}
use Rattle.channel.specs.Asked.{Asked}
use Rattle.receiver.specs.Receiving.{leaving, shut_for, with_closing, open_step, control_step, close_tick, beat_tick, flow_tick, tick_step}
use Rattle.receiver.proofs.StepLaws as law
use Rattle.ends.proofs.Receivers.{receives_is}
use Rattle.protocol.specs.Numbers.{number_at}
use Rattle.protocol.specs.Units.{Segment}
use Rattle.protocol.specs.Ends.{Phase, fresh, enabled, opened, closing, shut, rank}
use Rattle.protocol.specs.Receiving.{Receiver, controlled}
use Rattle.protocol.proofs.Small.{none_some}
use Rattle.means.specs.Meaning.{state_of}
use Rattle.means.proofs.Lying.{lying_none}
use Rattle.means.proofs.Receives.{Within, Whole, Receives}
use Rattle.means.proofs.Pulses.{pulse_receives}
use Rattle.means.proofs.Leaving.{Turned, receives_whole, left, shut_left, after_state, within_state}

-- from c to k the record makes a move to a phase, where it is a later one, and else none; never out of the phase before the Open directive
pub record Moves (c k : Channel) (mem lens : List ℕ) (r : Receiver) : Type 0 where
  pub phase : Phase
  pub related : Receives k mem lens (controlled (ltb (rank r.phase) (rank phase)) r phase).0
  pub waits : r.phase ≡ fresh → phase ≡ fresh

-- the Open directive is what makes that move
pub record Opens (c k : Channel) (mem lens : List ℕ) (r : Receiver) : Type 0 where
  pub phase : Phase
  pub related : Receives k mem lens (controlled (ltb (rank r.phase) (rank phase)) r phase).0

-- a receiver in another phase
abbrev pub in_phase : Receiver → Phase → Receiver
in_phase r p = record { phase = p; passed = r.passed; oldest = r.oldest; filed = r.filed }

module _ (k : Channel) (mem lens : List ℕ) (r : Receiver) where
  stays : Receives k mem lens r → Receives k mem lens (controlled (ltb (rank r.phase) (rank r.phase)) r r.phase).0
  stays t =
      subst (λ (b : Bool). Receives k mem lens (controlled b r r.phase).0) (sym (le-ltb (rank r.phase) (rank r.phase) (le_refl (rank r.phase)))) t

  later : (p : Phase) → rank r.phase < rank p → Receives k mem lens (in_phase r p)
      → Receives k mem lens (controlled (ltb (rank r.phase) (rank p)) r p).0
  later p h t = subst (λ (b : Bool). Receives k mem lens (controlled b r p).0) (sym (lt-ltb (rank r.phase) (rank p) h)) t

-- numbers of the ring
pub turned : (c : Channel) (mem lens : List ℕ) → Asked c mem lens → c.addresses.direction ≡ receives → Turned c.limits.slots c.window
turned c mem lens asked receiving =
    let k = (receives_is c lens receiving asked.standing).window in
    record { place = k.place; behind = k.behind; way = k.way }

-- ---- the Open directive: an opening begins

no_mark : (n i z : ℕ) → get_or (replicate n z) i z ≡ z
no_mark zero i z = refl
no_mark (suc n) zero z = refl
no_mark (suc n) (suc i) z = no_mark n i z

begun : (c : Channel) (mem lens : List ℕ) (f : ℕ → Option Segment) → ((i : ℕ) → f i ≡ none) → Within (enabled_of c no_lone) mem lens 0 [] f
unfolding number_at
begun c mem lens f empty =
    record {
      start = refl;
      behind = refl;
      way = refl;
      view = λ j h.
          lying_none (enabled_of c no_lone) mem lens (round_of c.limits.slots (oldest_of c.limits.slots record_of.fresh_window + j))
          (no_mark 128 (round_of c.limits.slots (oldest_of c.limits.slots record_of.fresh_window + j)) 0)
          ∙ sym (empty (0 + j));
      room = λ i g e. absurd (none_some (empty i) e);
      near = λ i g e. absurd (none_some (empty i) e);
      known = λ i h. absurd (omega arith);
      count = length-replicate {A = ℕ} 128 0;
    }

module _ (c : Channel) (mem lens : List ℕ) (r : Receiver) (asked : Asked c mem lens) (receiving : c.addresses.direction ≡ receives) (t : Receives c mem lens r) where
  ring : Turned c.limits.slots c.window
  ring = turned c mem lens asked receiving

  idle : Moves c c mem lens r
  idle = record { phase = r.phase; related = stays c mem lens r t; waits = λ e. e }

  stands : Opens c c mem lens r
  stands = record { phase = r.phase; related = stays c mem lens r t }

  opening : r.phase ≡ fresh → Opens c (enabled_of c no_lone) mem lens r
  opening e =
      let b = t.before (ap rank e) in
      record {
        phase = enabled;
        related =
            later (enabled_of c no_lone) mem lens r enabled (omega (arith, ap rank e))
            (record {
              state = refl;
              before = λ z. absurd (omega arith);
              within = λ p q.
                  subst (λ (n : ℕ). Within (enabled_of c no_lone) mem lens n r.passed r.filed) (sym b.oldest)
                  (subst (λ (l : List Segment). Within (enabled_of c no_lone) mem lens 0 l r.filed) (sym b.passed) (begun c mem lens r.filed b.filed));
              after = λ p. absurd (omega arith);
            });
      }

  pub open_receives : (number_of (open_step c).answer ≡ 0 → r.phase ≡ fresh) → Opens c (open_step c).channel mem lens r
  open_receives first = by (eqb c.phase.state record_of.closed) refl (eqb (held_in c.window) 0) refl
    where
      by : (b : Bool) → eqb c.phase.state record_of.closed ≡ b → (u : Bool) → eqb (held_in c.window) 0 ≡ u → Opens c (open_step c).channel mem lens r
      by false e u z = subst (λ (s : Stepped). Opens c s.channel mem lens r) (sym (law.open_state c (eqb-false _ _ e))) stands
      by true e false z = subst (λ (s : Stepped). Opens c s.channel mem lens r) (sym (law.open_untaken c (eqb-true _ _ e) (eqb-false _ _ z))) stands
      by true e true z =
          let done = law.open_done c (eqb-true _ _ e) (eqb-true _ _ z) in
          subst (λ (s : Stepped). Opens c s.channel mem lens r) (sym done) (opening (first (ap (λ (s : Stepped). number_of s.answer) done)))

  -- ---- to a later phase

  moves : (k : Channel) (p : Phase) → 1 ≤ rank r.phase → rank r.phase < rank p → Receives k mem lens (in_phase r p) → Moves c k mem lens r
  moves k p was less q =
      record { phase = p; related = later k mem lens r p less q; waits = λ e. absurd (omega (arith, ap rank e)) }

  whole : 1 ≤ rank r.phase → Whole c mem lens r.oldest r.passed
  whole = receives_whole c mem lens r ring t

  shuts : (why : ℕ) → 1 ≤ rank r.phase → rank r.phase < 4 → Moves c (shut_for c why) mem lens r
  unfolding leaving
  shuts why was less =
      moves (shut_for c why) shut was less
      (record {
        state = refl;
        before = λ z. absurd (omega arith);
        within = λ p q. absurd (omega arith);
        after = λ p. shut_left c mem lens r.oldest r.passed ring (whole was) why;
      })

  leaves : (ticks : ℕ) → 1 ≤ rank r.phase → rank r.phase < 3 → Moves c (leaving c record_of.closing ticks) mem lens r
  unfolding leaving
  leaves ticks was less =
      moves (leaving c record_of.closing ticks) closing was less
      (record {
        state = refl;
        before = λ z. absurd (omega arith);
        within = λ p q. absurd (omega arith);
        after = λ p. left c mem lens r.oldest r.passed ring (whole was) record_of.closing ticks;
      })

  opens_now : r.phase ≡ enabled → Moves c (with_pulse (with_state c record_of.opened) (started_pulse c.limits)) mem lens r
  opens_now e =
      let was : rank r.phase ≡ 1 = ap rank e in
      moves (with_pulse (with_state c record_of.opened) (started_pulse c.limits)) opened (omega arith) (omega arith)
      (pulse_receives (with_state c record_of.opened) mem lens (in_phase r opened) (started_pulse c.limits)
      (record {
        state = refl;
        before = λ z. absurd (omega arith);
        within = λ p q. within_state c mem lens r.oldest r.passed r.filed record_of.opened (t.within (omega arith) (omega arith));
        after = λ p. absurd (omega arith);
      }))

  -- ---- Control packets, phase by phase

  module _ (opens : Bool) (number : ℕ) where
    abbrev Goal : Stepped → Type 0
    Goal s = Moves c s.channel mem lens r

    state_is : (p : Phase) → r.phase ≡ p → c.phase.state ≡ state_of p
    state_is p e = t.state ∙ ap state_of e

    -- a number other than 0
    numbered : 1 ≤ rank r.phase → rank r.phase < 4 → (c.phase.state ≡ record_of.closed → ⊥)
        → (number ≡ 0 → (b : Bool) → opens ≡ b → Goal (control_step c opens number))
        → Goal (control_step c opens number)
    numbered was less up rest = by (eqb number 0) refl
      where
        by : (b : Bool) → eqb number 0 ≡ b → Goal (control_step c opens number)
        by true e = rest (eqb-true _ _ e) opens refl
        by false e = subst Goal (sym (law.control_number_lem c opens number up (eqb-false _ _ e))) (shuts control_number was less)

    control_by : (p : Phase) → r.phase ≡ p → Goal (control_step c opens number)
    control_by fresh e = subst Goal (sym (law.control_closed c opens number (state_is fresh e))) idle
    control_by shut e = subst Goal (sym (law.control_closed c opens number (state_is shut e))) idle
    control_by enabled e =
        let was : rank r.phase ≡ 1 = ap rank e in
        let now : c.phase.state ≡ 1 = state_is enabled e in
        let up : c.phase.state ≡ 0 → ⊥ = λ z. omega arith in
        numbered (omega arith) (omega arith) up
        (λ zero_is b. elim b as (λ b. opens ≡ b → Goal (control_step c opens number)) [
          | true ↦ λ q. subst Goal (sym (law.control_open c opens number up zero_is q ∙ law.open_opens c now)) (opens_now e)
          | false ↦ λ q. subst Goal (sym (law.control_close c opens number up zero_is q ∙ law.close_other c (λ z. omega arith) (λ z. omega arith))) idle
        ])
    control_by opened e =
        let was : rank r.phase ≡ 2 = ap rank e in
        let now : c.phase.state ≡ 2 = state_is opened e in
        let up : c.phase.state ≡ 0 → ⊥ = λ z. omega arith in
        let again = λ (b : Bool). elim b as (λ b. eqb c.phase.accepted 0 ≡ b → number ≡ 0 → opens ≡ true → Goal (control_step c opens number)) [
          | true ↦ λ a zero_is q.
              subst Goal (sym (law.control_open c opens number up zero_is q ∙ law.open_again c (λ z. omega arith) now (eqb-true _ _ a))) idle
          | false ↦ λ a zero_is q.
              subst Goal (sym (law.control_open c opens number up zero_is q ∙ law.open_late c (λ z. omega arith) now (eqb-false _ _ a)))
              (shuts late_open (omega arith) (omega arith))
        ]
        in
        numbered (omega arith) (omega arith) up
        (λ zero_is b. elim b as (λ b. opens ≡ b → Goal (control_step c opens number)) [
          | true ↦ λ q. again (eqb c.phase.accepted 0) refl zero_is q
          | false ↦ λ q.
              subst Goal (sym (law.control_close c opens number up zero_is q ∙ law.close_closes c now)) (leaves c.limits.closing (omega arith) (omega arith))
        ])
    control_by closing e =
        let was : rank r.phase ≡ 3 = ap rank e in
        let now : c.phase.state ≡ 3 = state_is closing e in
        let up : c.phase.state ≡ 0 → ⊥ = λ z. omega arith in
        numbered (omega arith) (omega arith) up
        (λ zero_is b. elim b as (λ b. opens ≡ b → Goal (control_step c opens number)) [
          | true ↦ λ q. subst Goal (sym (law.control_open c opens number up zero_is q ∙ law.open_other c (λ z. omega arith) (λ z. omega arith))) idle
          | false ↦ λ q. subst Goal (sym (law.control_close c opens number up zero_is q ∙ law.close_again c (λ z. omega arith) now)) idle
        ])

    pub control_receives : Moves c (control_step c opens number).channel mem lens r
    control_receives = control_by r.phase refl

  -- ---- a tick

  abbrev To : Ticked → Type 0
  To x = Moves c x.channel mem lens r

  -- the pulse alone moves
  paces : (p : Pulse) → Moves c (with_pulse c p) mem lens r
  paces p = record { phase = r.phase; related = stays (with_pulse c p) mem lens r (pulse_receives c mem lens r p t); waits = λ e. e }

  waits_on : (timers : Timers) → r.phase ≡ closing → Moves c (with_timers c timers) mem lens r
  waits_on timers e =
      let was : rank r.phase ≡ 3 = ap rank e in
      record {
        phase = r.phase;
        related =
            stays (with_timers c timers) mem lens r
            (record {
              state = t.state;
              before = λ z. absurd (omega arith);
              within = λ p q. absurd (omega arith);
              after = λ p. after_state c mem lens r.oldest r.passed c.phase.state timers (t.after p);
            });
        waits = λ z. z;
      }

  -- in OPEN Flow Control and the Heartbeat: that either got no answer makes the channel inactive
  tick_opened : r.phase ≡ opened → To (tick_step c)
  unfolding leaving
  tick_opened e = subst To (sym (law.tick_open c (t.state ∙ ap state_of e))) (flows f.spent refl)
    where
      f : Fallen
      f = fallen c.pulse.flow.packet

      p : Pulse
      p = lowered_flow c.pulse f.lone

      b : Beaten
      b = beaten c.limits p

      was : rank r.phase ≡ 2
      was = ap rank e

      by : (u : Bool) → b.spent ≡ u → To (beat_tick (with_pulse c p) b)
      by true z = subst To (sym (law.beat_spent (with_pulse c p) b z)) (shuts unanswered (omega (arith, was)) (omega (arith, was)))
      by false z = subst To (sym (law.beat_falls (with_pulse c p) b z)) (paces b.pulse)

      flows : (u : Bool) → f.spent ≡ u → To (flow_tick c f)
      flows true z = subst To (sym (law.flow_spent c f z)) (shuts retries_out (omega (arith, was)) (omega (arith, was)))
      flows false z = subst To (sym (law.flow_falls c f z)) (by b.spent refl)

  -- elsewhere, but in CLOSING, nothing
  tick_still : (p : Phase) → r.phase ≡ p → (state_of p ≡ record_of.opened → ⊥) → (state_of p ≡ record_of.closing → ⊥) → To (tick_step c)
  tick_still p e n m =
      let now = t.state ∙ ap state_of e in
      subst To (sym (law.tick_idle c (λ z. n (sym now ∙ z)) (λ z. m (sym now ∙ z)))) idle

  tick_by : (p : Phase) → r.phase ≡ p → To (tick_step c)
  tick_by fresh e = tick_still fresh e (λ z. omega arith) (λ z. omega arith)
  tick_by enabled e = tick_still enabled e (λ z. omega arith) (λ z. omega arith)
  tick_by opened e = tick_opened e
  tick_by shut e = tick_still shut e (λ z. omega arith) (λ z. omega arith)
  tick_by closing e = subst To (sym (law.tick_closing c (λ z. omega (arith, now)) now)) (by (leb 2 c.timers.closing) refl)
    where
      now : c.phase.state ≡ record_of.closing
      now = t.state ∙ ap state_of e

      was : rank r.phase ≡ 3
      was = ap rank e

      by : (b : Bool) → leb 2 c.timers.closing ≡ b → Moves c (close_tick c) mem lens r
      by true z =
          subst (λ (k : Channel). Moves c k mem lens r) (sym (law.close_falls c (leb-true _ _ z))) (waits_on (with_closing c.timers (c.timers.closing - 1)) e)
      by false z =
          subst (λ (k : Channel). Moves c k mem lens r) (sym (law.close_ends c (leb-false _ _ z)))
          (moves (with_state (with_timers c (with_closing c.timers 0)) record_of.closed) shut (omega (arith, was)) (omega (arith, was))
          (record {
            state = refl;
            before = λ y. absurd (omega arith);
            within = λ p q. absurd (omega arith);
            after = λ p.
                after_state c mem lens r.oldest r.passed record_of.closed (with_closing c.timers 0) (t.after (omega (arith, was)));
          }))

  pub tick_receives : Moves c (tick_step c).channel mem lens r
  tick_receives = tick_by r.phase refl
