-- What a record that stands has shown, as far as the steps ask it.
-- Assumes nothing.
use mathlib.Core.Path.{◌≡◌, refl, sym, ap, ◌∙◌, subst}
use mathlib.Core.Bool.{Bool, true, false, ◌&&◌, false≢true}
use mathlib.Core.List.{List}
use Prim.Native.Nat.{ℕ, ◌+◌, ◌≤◌, ◌<◌}
use native.Mathlib.Omega.{arith}
use borrow.Author.Tests.{eq-eqb, ne_eqb, leb-true, eqb-true, ltb-false}
use lib.Dec.{ltb, leb, eqb}
use lib.ListN.{get_or}
use Rattle.std.specs.Prelude.{if◌then◌else◌}
use Rattle.slots.specs.Ring.{round_of}
use Rattle.channel.specs.declared.record.Window.{Window}
use Rattle.channel.specs.declared.record.Channel.{Channel}
use Rattle.channel.specs.Record.{sends, opened}
use Rattle.channel.specs.Standing.{oldest_of, sided, slot_fit, Standing}
use Rattle.sender.specs.Directives.{place_at}
use Rattle.slots.proofs.RingLaws.{round_lt, round_add, back_lt, back_forth}
use Rattle.channel.specs.Places.{slot_of}
use Rattle.slots.specs.Marks.{ends}
use Rattle.channel.proofs.StandingLaws.{counted_is, ringed}

-- the start, or a place further on, counted from the oldest segment
pub from_oldest : (slots : ℕ) (w : Window) (i : ℕ) → w.place < slots → w.behind + i ≤ slots
    → round_of slots (oldest_of slots w + (w.behind + i)) ≡ round_of slots (w.place + i)
from_oldest slots w i p h =
    let o = back_lt slots w.place w.behind p in
    sym (round_add slots (oldest_of slots w) w.behind i (omega arith))
    ∙ ap (λ (k : ℕ). round_of slots (k + i)) (back_forth slots w.place w.behind p (omega arith))

-- a marked slot that fits has a mark up to 4, and at most P octets
pub slot_bounds : (sending : Bool) (most mark len : ℕ) → slot_fit sending most mark len ≡ true → (mark ≡ 0 → ⊥) → (mark ≤ 4) × (len ≤ most)
unfolding slot_fit
slot_bounds sending most mark len e n = go (ltb 4 mark) refl sending (ends mark) (rw (ne_eqb mark 0 n) at e)
  where
    go : (t : Bool) → ltb 4 mark ≡ t → (s u : Bool)
        → (if t then false else if s then (if u then leb len most else eqb len most) else leb len most) ≡ true
        → (mark ≤ 4) × (len ≤ most)
    go true p s u q = absurd (false≢true q)
    go false p true true q = (ltb-false _ _ p, leb-true _ _ q)
    go false p true false q = (ltb-false _ _ p, omega (arith, eqb-true len most q))
    go false p false u q = (ltb-false _ _ p, leb-true _ _ q)

-- of a sender: one that does not end its unit has P octets, and so is not empty
pub slot_ends : (most mark len : ℕ) → 1 ≤ most → slot_fit true most mark len ≡ true → (mark ≡ 0 → ⊥) → len ≡ 0 → 3 ≤ mark
unfolding slot_fit
slot_ends most mark len p e n z = go (ltb 4 mark) (ends mark) refl (rw (ne_eqb mark 0 n) at e)
  where
    go : (t u : Bool) → ends mark ≡ u → (if t then false else (if u then leb len most else eqb len most)) ≡ true → 3 ≤ mark
    go true u s q = absurd (false≢true q)
    go false true s q = leb-true 3 mark s
    go false false s q = absurd (omega (arith, eqb-true len most q))

-- a segment from the start on is held: it has a mark from 1 to 4, and at most P octets
module _ (c : Channel) (lens : List ℕ) (h : Standing c lens) (i : ℕ) (l : i < c.window.ahead) where
  pub place_lt : place_at c i < c.limits.slots
  place_lt = let r = ringed c lens h in round_lt c.limits.slots (c.window.place + i) (omega arith)

  pub mark_set : get_or c.marks (place_at c i) 0 ≡ 0 → ⊥
  mark_set z =
      let k = counted_is c.limits c.window h.ring h.flight in
      h.held (c.window.behind + i) (omega arith)
      (ap (λ (k : ℕ). get_or c.marks k 0) (from_oldest c.limits.slots c.window i k.place (omega arith)) ∙ z)

  -- a receiver has nothing ahead
  pub ahead_sends : c.addresses.direction ≡ sends
  unfolding sided
  ahead_sends = go (eqb c.addresses.direction sends) refl h.sided
    where
      go : (b : Bool) → eqb c.addresses.direction sends ≡ b
          → (if b then eqb c.window.way 0 && (if eqb c.phase.state opened then true else eqb c.window.behind 0 && eqb c.window.flight 0) else eqb c.window.ahead 0) ≡ true
          → c.addresses.direction ≡ sends
      go true e s = eqb-true _ _ e
      go false e s = absurd (omega (arith, eqb-true c.window.ahead 0 s))

  -- an empty one ends its unit
  pub mark_ends : get_or lens (slot_of c (place_at c i)) 0 ≡ 0 → 3 ≤ get_or c.marks (place_at c i) 0
  mark_ends =
      slot_ends c.limits.payload (get_or c.marks (place_at c i) 0) (get_or lens (slot_of c (place_at c i)) 0) (ringed c lens h).octet
      (subst (λ (b : Bool). slot_fit b c.limits.payload (get_or c.marks (place_at c i) 0) (get_or lens (slot_of c (place_at c i)) 0) ≡ true) (eq-eqb _ _ ahead_sends) (h.slots (place_at c i) place_lt))
      mark_set

  pub mark_fits : (get_or c.marks (place_at c i) 0 ≤ 4) × (get_or lens (slot_of c (place_at c i)) 0 ≤ c.limits.payload)
  mark_fits = slot_bounds (eqb c.addresses.direction sends) c.limits.payload (get_or c.marks (place_at c i) 0) (get_or lens (slot_of c (place_at c i)) 0) (h.slots (place_at c i) place_lt) mark_set
