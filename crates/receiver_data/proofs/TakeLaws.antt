-- Laws of taking: what each case answers and writes, and that the lengths of what is taken fit their slots.
-- Assumes nothing.
use Rattle.std.proofs.Common.{◌≡◌, ℕ, ◌+◌, ◌-◌, ◌<◌, ◌≤◌, Bool, true, false, eqb, ltb, leb, List, length, get_or, ap, ◌∙◌, ap₂, le_of_eq, arith, le-ltb, lt-ltb, eq-eqb, ne_eqb, eqb-true, leb-true}
use mathlib.Core.Bool.{false≢true}
use Rattle.std.specs.Prelude.{if◌then◌else◌}
use Rattle.slots.specs.Ring.{round_of}
use Rattle.slots.proofs.RingLaws.{back_lt, round_lt}
use Rattle.slots.specs.Marks.{ends}
use Rattle.slots.specs.Slots.{laid}
use Rattle.channel.specs.Places.{slot_of}
use Rattle.store.specs.Store.{EachFits, unit_of, size_in, octets_in}
use Rattle.store.proofs.Laws.{unit_le}
use Rattle.channel.specs.declared.record.Channel.{Channel}
use Rattle.channel.specs.declared.answer.Refusal.TheVariants as refusal
use Rattle.channel.specs.Record.{sends}
use Rattle.channel.specs.Standing.{Standing, oldest_of, slot_fit}
use Rattle.channel.specs.Steps.{refusing, doing}
use Rattle.receiver_data.specs.Taking.{complete_in, unit_at, size_at, taken, take_step, take_out}
use Rattle.channel.proofs.StandingLaws.{ringed}

-- a slot in use has at most P octets
pub fit_length : (sending : Bool) (most mark len : ℕ) → slot_fit sending most mark len ≡ true → (mark ≡ 0 → ⊥) → len ≤ most
unfolding slot_fit
fit_length sending most mark len e n = large (ltb 4 mark) sending (ends mark) (simp (ne_eqb _ _ n) at e)
  where
    large : (t s u : Bool) → (if t then false else if s then (if u then leb len most else eqb len most) else leb len most) ≡ true → len ≤ most
    large true s u e = absurd (false≢true e)
    large false true true e = leb-true len most e
    large false true false e = le_of_eq (eqb-true len most e)
    large false false u e = leb-true len most e

module _ (c : Channel) (lens : List ℕ) where
  -- the oldest n segments
  pub each_fits : (n : ℕ) → Standing c lens → n ≤ c.window.behind
      → EachFits (slot_of c) c.limits.payload lens c.limits.slots n (oldest_of c.limits.slots c.window)
  each_fits n h l i less =
      let r = ringed c lens h in
      let from = oldest_of c.limits.slots c.window in
      let low : from < c.limits.slots = back_lt c.limits.slots c.window.place c.window.behind r.place in
      let on : round_of c.limits.slots (from + i) < c.limits.slots = round_lt c.limits.slots (from + i) (omega arith) in
      fit_length (eqb c.addresses.direction sends) c.limits.payload (get_or c.marks (round_of c.limits.slots (from + i)) 0)
      (get_or lens (slot_of c (round_of c.limits.slots (from + i))) 0) (h.slots (round_of c.limits.slots (from + i)) on) (h.held i (omega arith))

  module _ (n : ℕ) where
    pub take_nothing : complete_in c.window ≡ 0 → take_step c lens n ≡ refusing c refusal.Nothing
    unfolding take_step
    take_nothing a = simp (eq-eqb _ _ a)

    pub take_small : (complete_in c.window ≡ 0 → ⊥) → n < size_at c lens → take_step c lens n ≡ refusing c (refusal.Small (size_at c lens))
    unfolding take_step
    take_small a b = simp (ne_eqb _ _ a, lt-ltb _ _ b)

    pub take_done : (complete_in c.window ≡ 0 → ⊥) → size_at c lens ≤ n → take_step c lens n ≡ doing (taken c (unit_at c)) (size_at c lens)
    unfolding take_step
    take_done a b = simp (ne_eqb _ _ a, le-ltb _ _ b)

  module _ (mem out : List ℕ) where
    pub out_nothing : complete_in c.window ≡ 0 → take_out c lens mem out ≡ out
    unfolding take_out
    out_nothing a = simp (eq-eqb _ _ a)

    pub out_small : (complete_in c.window ≡ 0 → ⊥) → length out < size_at c lens → take_out c lens mem out ≡ out
    unfolding take_out
    out_small a b = simp (ne_eqb _ _ a, lt-ltb _ _ b)

    pub out_done : (complete_in c.window ≡ 0 → ⊥) → size_at c lens ≤ length out
        → take_out c lens mem out
        ≡ laid out 0 (octets_in (slot_of c) c.limits.payload mem lens c.limits.slots (unit_at c) (oldest_of c.limits.slots c.window))
    unfolding take_out
    out_done a b = simp (ne_eqb _ _ a, le-ltb _ _ b)

  -- the calls, one after the other: the place of the oldest segment, how many segments, how many octets
  module _ (from n size : ℕ) (ef : from ≡ oldest_of c.limits.slots c.window)
      (en : n ≡ unit_of c.marks c.limits.slots (complete_in c.window) from) (es : size ≡ size_in (slot_of c) lens c.limits.slots n from) where
    pub unit_is : n ≡ unit_at c
    unit_is = en ∙ ap (unit_of c.marks c.limits.slots (complete_in c.window)) ef

    pub size_is : size ≡ size_at c lens
    size_is = es ∙ ap₂ (size_in (slot_of c) lens c.limits.slots) unit_is ef

    pub octets_are : (mem : List ℕ) → octets_in (slot_of c) c.limits.payload mem lens c.limits.slots n from
        ≡ octets_in (slot_of c) c.limits.payload mem lens c.limits.slots (unit_at c) (oldest_of c.limits.slots c.window)
    octets_are mem = ap₂ (octets_in (slot_of c) c.limits.payload mem lens c.limits.slots) unit_is ef

-- a unit is among what is complete
pub unit_behind : (c : Channel) → unit_at c ≤ c.window.behind - c.window.way
unit_behind c = unit_le c.marks c.limits.slots (complete_in c.window) (oldest_of c.limits.slots c.window)
