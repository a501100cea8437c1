-- The standing condition of a receiving record, as plain facts.
-- Assumes nothing.
use mathlib.Core.Path.{◌≡◌, sym, ap, ◌∙◌}
use mathlib.Core.Bool.{Bool, true, false}
use mathlib.Core.List.{List}
use Prim.Native.Nat.{ℕ, ◌+◌, ◌≤◌, ◌<◌}
use native.Mathlib.Omega.{arith}
use borrow.Author.Tests.{ne_eqb, eqb-true}
use lib.Dec.{eqb}
use lib.ListN.{length, get_or}
use Rattle.slots.specs.Ring.{round_of, back_of}
use Rattle.channel.specs.Places.{slot_in, slot_of}
use Rattle.channel.specs.declared.record.Limits.{Limits}
use Rattle.channel.specs.declared.record.Window.{Window}
use Rattle.channel.specs.declared.record.Channel.{Channel}
use Rattle.channel.specs.Record.{sends, receives}
use Rattle.channel.specs.Settings.{fit_limits}
use Rattle.channel.specs.Standing.{named, sided, rested, slot_fit, Standing, Counted}
use Rattle.channel.proofs.StandingLaws.{ring_is, counted_is, counted_ring, counted_flight, Named, named_is, is_named_lem}

-- a receiver's window: on the ring, nothing ahead, and the unit on the way among what is behind and within M
pub record Kept (l : Limits) (w : Window) : Type 0 where
  pub place : w.place < l.slots
  pub behind : w.behind ≤ l.slots
  pub ahead : w.ahead ≡ 0
  pub flight : w.flight ≡ 0
  pub way : w.way ≤ w.behind
  pub unit : w.way < l.segments

-- each segment kept lies in a marked slot
abbrev pub Marked : ℕ → Window → List ℕ → Type 0
Marked slots w marks =
    (i : ℕ) → i < w.behind → get_or marks (round_of slots (back_of slots w.place w.behind + i)) 0 ≡ 0 → ⊥

-- each slot fits
abbrev pub Fitting : Limits → List ℕ → List ℕ → Type 0
Fitting l marks lens = (i : ℕ) → i < l.slots → slot_fit false l.payload (get_or marks i 0) (get_or lens (slot_in l i) 0) ≡ true

pub record Receives (c : Channel) (lens : List ℕ) : Type 0 where
  pub fit : fit_limits c.limits ≡ true
  pub count : length lens ≡ c.limits.slots
  pub direction : c.addresses.direction ≡ receives
  pub small : Named c
  pub window : Kept c.limits c.window
  pub rested : rested c.addresses.direction c.phase c.window ≡ true
  pub held : Marked c.limits.slots c.window c.marks
  pub slots : Fitting c.limits c.marks lens

-- ---- from the condition to the facts

none_ahead : (direction state : ℕ) (w : Window) → direction ≡ receives → sided direction state w ≡ true → w.ahead ≡ 0
unfolding sided
none_ahead direction state w d e = eqb-true w.ahead 0 (simp (ne_eqb direction sends (λ z. omega arith)) at e)

not_sending : (c : Channel) → c.addresses.direction ≡ receives → eqb c.addresses.direction sends ≡ false
not_sending c d = ne_eqb c.addresses.direction sends (λ z. omega arith)

pub receives_is : (c : Channel) (lens : List ℕ) → c.addresses.direction ≡ receives → Standing c lens → Receives c lens
receives_is c lens d h =
    let n = counted_is c.limits c.window h.ring h.flight in
    let q = ring_is c.limits c.window h.ring in
    let a = none_ahead c.addresses.direction c.phase.state c.window d h.sided in
    record {
      fit = h.fit;
      count = h.count;
      direction = d;
      small = named_is c h.named;
      window = record { place = q.0; behind = q.1; ahead = a; flight = omega arith; way = n.way; unit = n.unit };
      rested = h.rested;
      held = λ i l. h.held i (omega arith);
      slots = λ i l. ap (λ (t : Bool). slot_fit t c.limits.payload (get_or c.marks i 0) (get_or lens (slot_of c i) 0)) (sym (not_sending c d)) ∙ h.slots i l;
    }

-- ---- and back

kept_counted : (l : Limits) (w : Window) → Kept l w → Counted l w
kept_counted l w k =
    record { place = k.place; held = omega (arith, k.behind, k.ahead); flight = omega (arith, k.flight); window = omega (arith, k.flight); way = k.way; unit = k.unit }

sided_true : (direction state : ℕ) (w : Window) → direction ≡ receives → w.ahead ≡ 0 → sided direction state w ≡ true
unfolding sided
sided_true direction state w d a = simp (ne_eqb direction sends (λ z. omega arith), a)

pub receives_stands : (c : Channel) (lens : List ℕ) → Receives c lens → Standing c lens
receives_stands c lens r =
    let n = kept_counted c.limits c.window r.window in
    record {
      fit = r.fit;
      count = r.count;
      named = is_named_lem c r.small;
      ring = counted_ring c.limits c.window n;
      flight = counted_flight c.limits c.window n;
      sided = sided_true c.addresses.direction c.phase.state c.window r.direction r.window.ahead;
      rested = r.rested;
      held = λ i l. r.held i (omega (arith, r.window.ahead));
      slots = λ i l. ap (λ (t : Bool). slot_fit t c.limits.payload (get_or c.marks i 0) (get_or lens (slot_of c i) 0)) (not_sending c r.direction) ∙ r.slots i l;
    }
