-- Directives, Control Acks and ticks: each leaves the sender's phase or moves it on, and nothing else of it changes.
-- Assumes nothing.
use mathlib.Core.Path.{◌≡◌, refl, sym, ap, ◌∙◌, subst}
use mathlib.Core.Bool.{Bool, true}
use mathlib.Core.List.{List}
use Prim.Native.Nat.{ℕ, ◌+◌, ◌≤◌, ◌<◌}
use native.Mathlib.Nat.{le_refl}
use native.Mathlib.Omega.{arith}
use borrow.Author.Tests.{lt-ltb, le-ltb}
use lib.Dec.{ltb}
use lib.ListN.{length, length-replicate}
use Rattle.slots.specs.Ring.{round_of}
use Rattle.slots.proofs.RingLaws.{back_lt}
use Rattle.channel.specs.declared.record.Lone.{Lone}
use Rattle.channel.specs.declared.record.Timers.{Timers}
use Rattle.channel.specs.declared.record.Pulse.{Pulse}
use Rattle.channel.specs.declared.record.Channel.{Channel}
use Rattle.channel.specs.declared.step.Stepped.{Stepped}
use Rattle.channel.specs.Answers.{number_of}
use Rattle.channel.specs.Record.{sends, retries_out, unanswered, no_lone, with_state, with_reason, with_kept, with_control, with_pulse, with_timers}
use Rattle.channel.specs.Record as record_of
use Rattle.channel.specs.Lone.{ready_lone, fallen}
use Rattle.channel.specs.Pulse.{started_pulse, beaten}
use Rattle.channel.specs.Standing.{oldest_of}
use Rattle.channel.specs.Steps.{enabled_of}
use Rattle.channel.specs.Asked.{Asked}
use Rattle.channel.proofs.StandingLaws.{counted_is}
use Rattle.sender.specs.Directives.{parked, shut_for, open_step, close_step}
use Rattle.sender.specs.Ticking.{data_fallen, tick_step}
use Rattle.sender_acks.specs.Acks.{control_ack_step}
use Rattle.ends.proofs.SenderCases.{open_cases, close_cases, control_ack_cases, tick_cases}
use Rattle.ends.proofs.SenderKeeps.{back_none}
use Rattle.protocol.specs.Numbers.{number_at}
use Rattle.protocol.specs.Units.{Segment}
use Rattle.protocol.specs.Ends.{Phase, fresh, enabled, opened, closing, shut, rank}
use Rattle.protocol.specs.Sending.{Sender, controlled}
use Rattle.protocol.proofs.Small.{yes_no}
use Rattle.means.specs.Meaning.{state_of, lying}
use Rattle.means.proofs.Sends.{Holds, Sends, not_fresh, state_opened, state_enabled, state_closing}
use Rattle.means.proofs.Pulses.{pulse_sends}

-- the record k after a step on c: the protocol's sender moves to a phase, or stays; before the Open directive it stays
pub record Moves (c k : Channel) (mem lens : List ℕ) (s : Sender) : Type 0 where
  pub phase : Phase
  pub related : Sends k mem lens (controlled (ltb (rank s.phase) (rank phase)) s phase).0
  pub waits : s.phase ≡ fresh → phase ≡ fresh

-- the Open directive alone ends the time before it
pub record Opens (c k : Channel) (mem lens : List ℕ) (s : Sender) : Type 0 where
  pub phase : Phase
  pub related : Sends k mem lens (controlled (ltb (rank s.phase) (rank phase)) s phase).0

-- the sender in another phase
abbrev pub in_phase : Sender → Phase → Sender
in_phase s p = (controlled true s p).0

module _ (k : Channel) (mem lens : List ℕ) (s : Sender) where
  same_phase : Sends k mem lens s → Sends k mem lens (controlled (ltb (rank s.phase) (rank s.phase)) s s.phase).0
  same_phase r =
      subst (λ (b : Bool). Sends k mem lens (controlled b s s.phase).0)
      (sym (le-ltb (rank s.phase) (rank s.phase) (le_refl (rank s.phase))))
      r

  next_phase : (p : Phase) → rank s.phase < rank p → Sends k mem lens (in_phase s p)
      → Sends k mem lens (controlled (ltb (rank s.phase) (rank p)) s p).0
  next_phase p h r =
      subst (λ (b : Bool). Sends k mem lens (controlled b s p).0) (sym (lt-ltb (rank s.phase) (rank p) h)) r

  pub stays : (c : Channel) → Sends k mem lens s → Moves c k mem lens s
  stays c r = record { phase = s.phase; related = same_phase r; waits = λ e. e }

  -- from a phase that is not the first
  goes : (c : Channel) (p : Phase) → 1 ≤ rank s.phase → rank s.phase < rank p → Sends k mem lens (in_phase s p) → Moves c k mem lens s
  goes c p h l r = record { phase = p; related = next_phase p l r; waits = λ e. absurd (not_fresh s.phase h e) }

-- ---- what has no meaning in the protocol: the reason, a Close kept, the packet sent alone, timers

pub changed_sends : (c : Channel) (mem lens : List ℕ) (s : Sender) (reason kept : ℕ) (control : Lone) (timers : Timers) → Sends c mem lens s
    → Sends (with_timers (with_control (with_kept (with_reason c reason) kept) control) timers) mem lens s
unfolding lying
changed_sends c mem lens s reason kept control timers r =
    record {
      state = r.state;
      before = λ e.
          let b = r.before e in
          record { empty = b.empty; line = b.line; oldest = b.oldest; start = b.start; next = b.next; acked = b.acked };
      held = λ h. let x = r.held h in record { count = x.count; each = x.each; whole = x.whole; marks = x.marks; acks = x.acks };
      window = λ h k.
          let x = r.window h k in
          record { number = x.number; behind = x.behind; flight = x.flight; noted = x.noted; sent = x.sent };
    }

module _ (c : Channel) (mem lens : List ℕ) (s : Sender) (a : Asked c mem lens) (d : c.addresses.direction ≡ sends) (r : Sends c mem lens s) where
  -- ---- leaving OPEN: the segments held stay where they are, the oldest at the start

  parked_holds : (state : ℕ) (control : Lone) (line : List Segment) (oldest : ℕ) → Holds c mem lens line oldest
      → Holds (parked c state control) mem lens line oldest
  unfolding parked lying
  parked_holds state control line oldest x =
      let h = a.standing in
      let k = counted_is c.limits c.window h.ring h.flight in
      let slots = c.limits.slots in
      let o = oldest_of slots c.window in
      let same = back_none slots o (back_lt slots c.window.place c.window.behind k.place) in
      record {
        count = omega (arith, x.count);
        each = λ j l.
            ap (λ (p : ℕ). lying c mem lens (round_of slots (p + j))) same ∙ x.each j (omega arith);
        whole = x.whole;
        marks = x.marks;
        acks = x.acks;
      }

  leaves : (p : Phase) (state : ℕ) (control : Lone) → state ≡ state_of p → 3 ≤ rank p → 1 ≤ rank s.phase
      → Sends (parked c state control) mem lens (in_phase s p)
  unfolding parked
  leaves p state control e late h =
      record {
        state = e;
        before = λ q. absurd (not_fresh p (omega arith) q);
        held = λ _. parked_holds state control s.line s.oldest (r.held h);
        window = λ _ k. absurd (omega arith);
      }

  -- ---- the phase of a state

  is_opened : c.phase.state ≡ record_of.opened → rank s.phase ≡ 2
  is_opened e = ap rank (state_opened s.phase (sym r.state ∙ e))

  is_enabled : c.phase.state ≡ record_of.enabled → s.phase ≡ enabled
  is_enabled e = state_enabled s.phase (sym r.state ∙ e)

  is_closing : c.phase.state ≡ record_of.closing → rank s.phase ≡ 3
  is_closing e = ap rank (state_closing s.phase (sym r.state ∙ e))

  -- inactive, whatever the timers then are
  shuts : 1 ≤ rank s.phase → rank s.phase < 4 → (timers : Timers) (why : ℕ) → Moves c (shut_for (with_timers c timers) why) mem lens s
  unfolding parked
  shuts h l timers why =
      let q = parked c record_of.closed no_lone in
      goes (shut_for (with_timers c timers) why) mem lens s c shut h l
      (changed_sends q mem lens (in_phase s shut) why q.phase.kept q.phase.control timers (leaves shut record_of.closed no_lone refl (omega arith) h))

  -- the Open is acknowledged
  opens : s.phase ≡ enabled → Sends (with_control (with_state c record_of.opened) no_lone) mem lens (in_phase s opened)
  unfolding lying
  opens e =
      let z : rank s.phase ≡ 1 = ap rank e in
      let x = r.held (omega arith) in
      let w = r.window (omega arith) (omega arith) in
      record {
        state = refl;
        before = λ q. absurd (not_fresh opened (omega arith) q);
        held = λ _. record { count = x.count; each = x.each; whole = x.whole; marks = x.marks; acks = x.acks };
        window = λ _ _. record { number = w.number; behind = w.behind; flight = w.flight; noted = w.noted; sent = w.sent };
      }

  -- an opening begins
  begins : s.phase ≡ fresh → Sends (enabled_of c ready_lone) mem lens (in_phase s enabled)
  unfolding number_at
  begins e =
      let b = r.before e in
      record {
        state = refl;
        before = λ q. absurd (not_fresh enabled (omega arith) q);
        held = λ _.
            record {
              count = let z : length s.line ≡ 0 = ap length b.line in omega (arith, b.oldest);
              each = λ j l. absurd (omega arith);
              whole = λ i q. let z : length s.line ≡ 0 = ap length b.line in absurd (omega arith);
              marks = length-replicate {A = ℕ} 128 0;
              acks = length-replicate {A = ℕ} 128 0;
            };
        window = λ _ _.
            record {
              number = ap (λ (i : ℕ). number_at i) (sym b.start);
              behind = omega (arith, b.oldest, b.start);
              flight = omega (arith, b.start, b.next);
              noted = λ j l. absurd (omega arith);
              sent = λ i q. absurd (yes_no q (b.acked i));
            };
      }

  -- ---- the theorems

  abbrev Goes : Stepped → Type 0
  Goes x = Moves c x.channel mem lens s

  pub close_sends : Moves c (close_step c).channel mem lens s
  close_sends =
      close_cases c Goes (stays c mem lens s c r)
      (λ e.
      let z = is_opened e in
      goes (parked c record_of.closing ready_lone) mem lens s c closing (omega arith) (omega arith)
      (leaves closing record_of.closing ready_lone refl (omega arith) (omega arith)))
      (stays (with_kept c 1) mem lens s c (changed_sends c mem lens s c.phase.reason 1 c.phase.control c.timers r))

  pub control_ack_sends : (number : ℕ) → Moves c (control_ack_step c number).channel mem lens s
  control_ack_sends number =
      control_ack_cases c Goes number (stays c mem lens s c r) (stays c mem lens s c r)
      (λ e.
      let z = is_closing e in
      goes (parked c record_of.closed no_lone) mem lens s c shut (omega arith) (omega arith)
      (leaves shut record_of.closed no_lone refl (omega arith) (omega arith)))
      (λ e.
      let z : rank s.phase ≡ 1 = ap rank (is_enabled e) in
      let k = with_control (with_state c record_of.opened) no_lone in
      goes (with_pulse k (started_pulse c.limits)) mem lens s c opened (omega arith) (omega arith)
      (pulse_sends k mem lens (in_phase s opened) (started_pulse c.limits) (opens (is_enabled e))))
      (λ e.
      let z : rank s.phase ≡ 1 = ap rank (is_enabled e) in
      goes (parked c record_of.closing ready_lone) mem lens s c closing (omega arith) (omega arith)
      (leaves closing record_of.closing ready_lone refl (omega arith) (omega arith)))

  pub tick_sends : Moves c (tick_step c).channel mem lens s
  tick_sends =
      let down = data_fallen c in
      let p = (beaten c.limits c.pulse).pulse in
      tick_cases c (λ (k : Channel). Moves c k mem lens s)
      (λ e. let z = is_opened e in shuts (omega arith) (omega arith) c.timers retries_out)
      (λ e. let z : rank s.phase ≡ 1 = ap rank (is_enabled e) in shuts (omega arith) (omega arith) c.timers retries_out)
      (λ e. let z = is_closing e in shuts (omega arith) (omega arith) c.timers retries_out)
      (λ e. let z = is_opened e in shuts (omega arith) (omega arith) down.timers unanswered)
      (λ e.
      stays (with_pulse down p) mem lens s c
      (pulse_sends down mem lens s p (changed_sends c mem lens s c.phase.reason c.phase.kept c.phase.control down.timers r)))
      (λ left.
      stays (with_control c (fallen c.phase.control).lone) mem lens s c
      (changed_sends c mem lens s c.phase.reason c.phase.kept (fallen c.phase.control).lone c.timers r))
      (stays c mem lens s c r)

  pub open_sends : (number_of (open_step c).answer ≡ 0 → s.phase ≡ fresh) → Opens c (open_step c).channel mem lens s
  open_sends =
      open_cases c (λ (x : Stepped). (number_of x.answer ≡ 0 → s.phase ≡ fresh) → Opens c x.channel mem lens s) (λ f. still) (λ f. still)
      (λ f.
      let e = f refl in
      let z : rank s.phase ≡ 0 = ap rank e in
      record { phase = enabled; related = next_phase (enabled_of c ready_lone) mem lens s enabled (omega arith) (begins e) })
    where
      still : Opens c c mem lens s
      still = record { phase = s.phase; related = same_phase c mem lens s r }

-- what an Ack states moves the pulse besides, which the meaning does not look at
pub pulse_sender_moves : (c k : Channel) (mem lens : List ℕ) (s : Sender) (p : Pulse) → Moves c k mem lens s → Moves c (with_pulse k p) mem lens s
pulse_sender_moves c k mem lens s p m = record { phase = m.phase; related = pulse_sends k mem lens _ p m.related; waits = m.waits }
