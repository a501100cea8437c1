-- What every theorem on the standing condition is made of: its parts as facts, and back; and places counted from another place.
-- Assumes nothing.
use mathlib.Core.Path.{◌≡◌, refl, sym, ap, ◌∙◌}
use mathlib.Core.Logic.{⊎_elim}
use mathlib.Core.Bool.{Bool, true, false}
use mathlib.Core.List.{List}
use Prim.Native.Nat.{ℕ, ◌+◌, ◌-◌, ◌<◌}
use native.Mathlib.Omega.{arith}
use borrow.Author.Tests.{eq-eqb, ne_eqb, ltb-true, ltb-false, eqb-true}
use lib.Dec.{ltb, eqb}
use lib.ListN.{length, get_or}
use Rattle.std.specs.Prelude.{if◌then◌else◌}
use Rattle.laws.proofs.Choice.{both, either}
use Rattle.laws.proofs.Numbers.{lt_cases}
use Rattle.slots.specs.Ring.{round_of, back_of, cleared}
use Rattle.slots.proofs.RingLaws.{round_in, round_out, cleared_in, cleared_out}
use Rattle.channel.specs.Places.{slot_of}
use Rattle.channel.specs.declared.record.Window.{Window}
use Rattle.channel.specs.declared.record.Channel.{Channel}
use Rattle.channel.specs.Record.{sends, opened, held_in}
use Rattle.channel.specs.Settings.{fit_limits}
use Rattle.channel.proofs.StandingLaws.{counted_ring, counted_flight, Named, is_named_lem}
use Rattle.channel.proofs.MadeLaws.{free_fits}
use Rattle.channel.specs.Standing.{named, sided, rested, oldest_of, slot_fit, Standing, Counted}

-- ---- the side: this end sends

module _ (direction state : ℕ) (w : Window) (s : direction ≡ sends) where
  pub sided_way : sided direction state w ≡ true → w.way ≡ 0
  unfolding sided
  sided_way e = eqb-true _ _ (both (eqb w.way 0) _ (rw (eq-eqb direction sends s) at e)).0

  pub sided_still : (state ≡ opened → ⊥) → sided direction state w ≡ true → (w.behind ≡ 0) × (w.flight ≡ 0)
  unfolding sided
  sided_still n e =
      let p = (both (eqb w.way 0) _ (rw (eq-eqb direction sends s) at e)).1 in
      let q = both (eqb w.behind 0) _ (rw (ne_eqb state opened n) at p) in
      (eqb-true _ _ q.0, eqb-true _ _ q.1)

  pub open_sided : w.way ≡ 0 → state ≡ opened → sided direction state w ≡ true
  unfolding sided
  open_sided z o = simp (eq-eqb direction sends s, eq-eqb w.way 0 z, eq-eqb state opened o)

  pub still_sided : w.way ≡ 0 → w.behind ≡ 0 → w.flight ≡ 0 → sided direction state w ≡ true
  unfolding sided
  still_sided z b f =
      simp (eq-eqb direction sends s, eq-eqb w.way 0 z, eq-eqb w.behind 0 b, eq-eqb w.flight 0 f) (either (λ (b : Bool). b ≡ true) (eqb state opened) true true refl refl)

-- ---- a channel that stands, from its parts

pub stand : (c : Channel) (lens : List ℕ) → fit_limits c.limits ≡ true → length lens ≡ c.limits.slots → Named c → Counted c.limits c.window
    → sided c.addresses.direction c.phase.state c.window ≡ true
    → rested c.addresses.direction c.phase c.window ≡ true
    → ((i : ℕ) → i < held_in c.window → get_or c.marks (round_of c.limits.slots (oldest_of c.limits.slots c.window + i)) 0 ≡ 0 → ⊥)
    → ((i : ℕ) → i < c.limits.slots → slot_fit (eqb c.addresses.direction sends) c.limits.payload (get_or c.marks i 0) (get_or lens (slot_of c i) 0) ≡ true)
    → Standing c lens
stand c lens f e n k s r held slots =
    record {
      fit = f;
      count = e;
      named = is_named_lem c n;
      ring = counted_ring c.limits c.window k;
      flight = counted_flight c.limits c.window k;
      sided = s;
      rested = r;
      held = held;
      slots = slots;
    }

-- ---- places

pub back_none : (slots place : ℕ) → place < slots → back_of slots place 0 ≡ place
unfolding back_of
back_none slots place p =
    let e : place + (slots - 0) ≡ slots + place = omega arith in
    ap (round_of slots) e ∙ round_out slots (slots + place) (omega arith) ∙ (omega arith)

-- how far a place lies from another
abbrev pub toward : ℕ → ℕ → ℕ → ℕ
toward slots from s = if ltb s from then s + slots - from else s - from

pub toward_is : (slots from s : ℕ) → from < slots → s < slots → (toward slots from s < slots) × (round_of slots (from + toward slots from s) ≡ s)
toward_is slots from s p q = by (ltb s from) refl
  where
    by : (t : Bool) → ltb s from ≡ t
        → ((if t then s + slots - from else s - from) < slots) × (round_of slots (from + (if t then s + slots - from else s - from)) ≡ s)
    by true e =
        let l = ltb-true s from e in
        let z : from + (s + slots - from) ≡ slots + s = omega arith in
        (omega arith, ap (round_of slots) z ∙ round_out slots (slots + s) (omega arith) ∙ (omega arith))
    by false e =
        let l = ltb-false s from e in
        let z : from + (s - from) ≡ s = omega arith in
        (omega arith, ap (round_of slots) z ∙ round_in slots s q)

-- ---- slots: all fit once some are freed

pub cleared_fit : (slot : ℕ → ℕ) (sending : Bool) (most : ℕ) (marks lens : List ℕ) (slots n from : ℕ) → from < slots
    → ((i : ℕ) → i < slots → slot_fit sending most (get_or marks i 0) (get_or lens (slot i) 0) ≡ true)
    → (i : ℕ) → i < slots → slot_fit sending most (get_or (cleared marks slots n from) i 0) (get_or lens (slot i) 0) ≡ true
cleared_fit slot sending most marks lens slots n from p old i h =
    let k = toward slots from i in
    let e = toward_is slots from i p h in
    let m = cleared marks slots n from in
    ⊎_elim
    (λ inside.
    ap (λ (x : ℕ). slot_fit sending most x (get_or lens (slot i) 0))
    (ap (λ (x : ℕ). get_or m x 0) (sym e.1) ∙ cleared_in marks slots n from k p e.0 inside)
    ∙ free_fits sending most (get_or lens (slot i) 0))
    (λ outside.
    ap (λ (x : ℕ). slot_fit sending most x (get_or lens (slot i) 0))
    (ap (λ (x : ℕ). get_or m x 0) (sym e.1)
    ∙ cleared_out marks slots n from k p e.0 outside
    ∙ ap (λ (x : ℕ). get_or marks x 0) e.1)
    ∙ old i h)
    (lt_cases k n)
