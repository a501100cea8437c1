-- Directives, Control Acks and ticks keep the standing condition.
-- Assumes nothing.
use mathlib.Core.Path.{◌≡◌, refl, sym, ap, ◌∙◌}
use mathlib.Core.Bool.{Bool, true, false, not, true≢false}
use mathlib.Core.List.{List}
use Prim.Native.Nat.{ℕ, ◌+◌, ◌-◌, ◌≤◌}
use native.Mathlib.Omega.{arith}
use lib.Dec.{leb, eqb}
use lib.ListN.{get_or}
use Rattle.std.specs.Prelude.{if◌then◌else◌}
use Rattle.slots.specs.Ring.{round_of}
use Rattle.slots.proofs.RingLaws.{back_lt}
use Rattle.channel.specs.declared.record.Lone.{Lone}
use Rattle.channel.specs.declared.record.Timers.{Timers}
use Rattle.channel.specs.declared.record.Channel.{Channel}
use Rattle.channel.specs.declared.lone.Fallen.{Fallen}
use Rattle.channel.specs.Record.{sends, closed, enabled, opened, closing, retries_out, unanswered, lone_none, no_lone, fresh_phase, with_state, with_reason, with_kept, with_control, with_timers, with_acked}
use Rattle.channel.specs.Lone.{ready_lone, fallen}
use Rattle.channel.specs.Pulse.{started_pulse}
use Rattle.channel.specs.Standing.{named, asking, oldest_of, Standing}
use Rattle.channel.proofs.StandingLaws.{counted_is, named_is, is_named_lem, asking_has, asking_closed, rests, open_rests, rested_on}
use Rattle.channel.proofs.MadeLaws.{enabled_stands}
use Rattle.sender.specs.Directives.{parked, parked_window, shut_for, open_step, close_step}
use Rattle.sender_acks.specs.Acks.{control_ack_step}
use Rattle.sender.specs.Ticking.{data_fallen, tick_step}
use Rattle.channel.specs.declared.step.Stepped.{Stepped}
use Rattle.ends.proofs.KeepsPulse.{pulse_keeps, beaten_keeps}
use Rattle.ends.proofs.SenderCases.{open_cases, close_cases, control_ack_cases, tick_cases}
use Rattle.ends.proofs.SenderKeeps.{sided_way, still_sided, open_sided, stand, back_none}

module _ (c : Channel) (lens : List ℕ) (h : Standing c lens) where
  -- ---- it does not look at timers and acks, and at the small numbers only as far as they have a meaning; a control packet that is there stays

  pub changed_stands : (reason kept : ℕ) (control : Lone) (timers : Timers) (acked : List ℕ) → reason ≤ 6 → kept ≤ 1 → control.state ≤ 3
      → ((c.phase.control.state ≡ lone_none → ⊥) → control.state ≡ lone_none → ⊥)
      → Standing (with_acked (with_timers (with_control (with_kept (with_reason c reason) kept) control) timers) acked) lens
  changed_stands reason kept control timers acked r k l there =
      let n = named_is c h.named in
      record {
        fit = h.fit;
        count = h.count;
        named = is_named_lem (with_acked (with_timers (with_control (with_kept (with_reason c reason) kept) control) timers) acked)
            (record { addresses = n.addresses; state = n.state; reason = r; kept = k; accepted = n.accepted; control = l; pulse = n.pulse });
        ring = h.ring;
        flight = h.flight;
        sided = h.sided;
        rested = rested_on c.addresses.direction c.phase (with_control (with_kept (with_reason c reason) kept) control).phase refl there c.window c.window refl refl h.rested;
        held = h.held;
        slots = h.slots;
      }

  pub timers_stand : (t : Timers) → Standing (with_timers c t) lens
  timers_stand t =
      let n = named_is c h.named in
      changed_stands c.phase.reason c.phase.kept c.phase.control t c.acked n.reason n.kept n.control (λ q. q)

  pub acked_stand : (a : List ℕ) → Standing (with_acked c a) lens
  acked_stand a =
      let n = named_is c h.named in
      changed_stands c.phase.reason c.phase.kept c.phase.control c.timers a n.reason n.kept n.control (λ q. q)

  pub control_stands : (l : Lone) → l.state ≤ 3 → ((c.phase.control.state ≡ lone_none → ⊥) → l.state ≡ lone_none → ⊥) → Standing (with_control c l) lens
  control_stands l small there =
      let n = named_is c h.named in
      changed_stands c.phase.reason c.phase.kept l c.timers c.acked n.reason n.kept small there

  pub kept_stands : (k : ℕ) → k ≤ 1 → Standing (with_kept c k) lens
  kept_stands k small =
      let n = named_is c h.named in
      changed_stands c.phase.reason k c.phase.control c.timers c.acked n.reason small n.control (λ q. q)

  pub reason_stands : (why : ℕ) → why ≤ 6 → Standing (with_reason c why) lens
  reason_stands why small =
      let n = named_is c h.named in
      changed_stands why c.phase.kept c.phase.control c.timers c.acked small n.kept n.control (λ q. q)

  -- ---- leaving OPEN, and going to it

  module _ (s : c.addresses.direction ≡ sends) where
    -- CLOSED, or with a packet that is there
    pub parked_stands : (state : ℕ) (control : Lone) → state ≤ 3 → control.state ≤ 3 → asking c.addresses.direction (with_kept (with_control (with_state c state) control) 0).phase ≡ true
        → Standing (parked c state control) lens
    unfolding parked
    parked_stands state control small lone asks =
        let n = named_is c h.named in
        let k = counted_is c.limits c.window h.ring h.flight in
        let z = sided_way c.addresses.direction c.phase.state c.window s h.sided in
        let slots = c.limits.slots in
        let o = back_lt slots c.window.place c.window.behind k.place in
        stand (parked c state control) lens h.fit h.count
        (record { addresses = n.addresses; state = small; reason = n.reason; kept = omega arith; accepted = n.accepted; control = lone; pulse = record { beat = omega arith; flow = omega arith } })
        (record { place = o; held = omega (arith, k.held); flight = omega arith; window = omega arith; way = omega arith; unit = k.unit })
        (still_sided c.addresses.direction state (parked_window c.limits c.window) s z refl refl)
        (rests c.addresses.direction (with_kept (with_control (with_state c state) control) 0).phase (parked_window c.limits c.window) refl z asks)
        (λ i l q.
        h.held i (omega arith)
        (ap (λ (p : ℕ). get_or c.marks (round_of slots (p + i)) 0) (sym (back_none slots (oldest_of slots c.window) o)) ∙ q))
        h.slots

    pub opened_stands : Standing (with_control (with_state c opened) no_lone) lens
    opened_stands =
        let n = named_is c h.named in
        let k = counted_is c.limits c.window h.ring h.flight in
        let z = sided_way c.addresses.direction c.phase.state c.window s h.sided in
        stand (with_control (with_state c opened) no_lone) lens h.fit h.count
        (record { addresses = n.addresses; state = omega arith; reason = n.reason; kept = n.kept; accepted = n.accepted; control = omega arith; pulse = n.pulse })
        k
        (open_sided c.addresses.direction opened c.window s z refl)
        (open_rests c.addresses.direction (with_control (with_state c opened) no_lone).phase c.window refl)
        h.held
        h.slots

    pub closed_stands : Standing (parked c closed no_lone) lens
    closed_stands =
        parked_stands closed no_lone (omega arith) (omega arith)
        (asking_closed c.addresses.direction (with_kept (with_control (with_state c closed) no_lone) 0).phase refl)

    pub closing_stands : Standing (parked c closing ready_lone) lens
    closing_stands =
        parked_stands closing ready_lone (omega arith) (omega arith)
        (asking_has c.addresses.direction (with_kept (with_control (with_state c closing) ready_lone) 0).phase (λ z. omega arith))

-- inactive
pub shut_stands : (c : Channel) (lens : List ℕ) → Standing c lens → c.addresses.direction ≡ sends → (why : ℕ) → why ≤ 6 → Standing (shut_for c why) lens
shut_stands c lens h s why small =
    reason_stands (parked c closed no_lone) lens (closed_stands c lens h s) why small

-- ---- the theorems

pub open_stands : (c : Channel) (lens : List ℕ) → Standing c lens → Standing (open_step c).channel lens
open_stands c lens h = open_cases c (λ (s : Stepped). Standing s.channel lens) h h (enabled_stands c lens ready_lone (omega arith) (asking_has c.addresses.direction (fresh_phase enabled ready_lone) (λ z. omega arith)) h)

pub close_stands : (c : Channel) (lens : List ℕ) → Standing c lens → c.addresses.direction ≡ sends → Standing (close_step c).channel lens
close_stands c lens h s =
    close_cases c (λ (s : Stepped). Standing s.channel lens) h
    (λ e. closing_stands c lens h s)
    (kept_stands c lens h 1 (omega arith))

pub control_ack_stands : (c : Channel) (lens : List ℕ) (number : ℕ) → Standing c lens → c.addresses.direction ≡ sends
    → Standing (control_ack_step c number).channel lens
control_ack_stands c lens number h s =
    control_ack_cases c (λ (s : Stepped). Standing s.channel lens) number h h
    (λ e. closed_stands c lens h s)
    (λ e. pulse_keeps (with_control (with_state c opened) no_lone) lens (started_pulse c.limits) (omega arith) (opened_stands c lens h s))
    (λ e. closing_stands c lens h s)

-- a packet sent alone keeps a state that has a meaning, and is gone only when its retries are used up
fallen_state : (l : Lone) → l.state ≤ 3
    → ((fallen l).lone.state ≤ 3) × ((fallen l).spent ≡ false → (l.state ≡ lone_none → ⊥) → (fallen l).lone.state ≡ lone_none → ⊥)
unfolding fallen
fallen_state l small = go (eqb l.state 2) (leb 2 l.timer) (eqb l.tries 0)
  where
    by : Bool → Bool → Bool → Fallen
    by a b t =
        if not a then record { lone = l; spent = false }
        else if b then record { lone = record { state = 2; timer = l.timer - 1; tries = l.tries }; spent = false }
        else if t then record { lone = no_lone; spent = true }
        else record { lone = record { state = 3; timer = 0; tries = l.tries }; spent = false }

    go : (a b t : Bool)
        → ((by a b t).lone.state ≤ 3) × ((by a b t).spent ≡ false → (l.state ≡ lone_none → ⊥) → (by a b t).lone.state ≡ lone_none → ⊥)
    go false b t = (small, λ e q. q)
    go true true t = (omega arith, λ e q z. omega arith)
    go true false true = (omega arith, λ e. absurd (true≢false e))
    go true false false = (omega arith, λ e q z. omega arith)

pub tick_stands : (c : Channel) (lens : List ℕ) → Standing c lens → c.addresses.direction ≡ sends → Standing (tick_step c).channel lens
tick_stands c lens h s =
    let shut = shut_stands c lens h s retries_out (omega arith) in
    let falls = fallen_state c.phase.control (named_is c h.named).control in
    let down = timers_stand c lens h (data_fallen c).timers in
    tick_cases c (λ (k : Channel). Standing k lens) (λ e. shut) (λ e. shut) (λ e. shut)
    (λ e. shut_stands (data_fallen c) lens down s unanswered (omega arith))
    (λ e. beaten_keeps (data_fallen c) lens down c.limits)
    (λ left. control_stands c lens h (fallen c.phase.control).lone falls.0 (falls.1 left))
    h
