-- Laws of units on the ring of slots: where they end, the octets of their segments, and a unit filed: its places hold it, and the others
-- what they held.
-- Assumes nothing.
use mathlib.Core.Path.{◌≡◌, refl, sym, ap, ap₂, ◌∙◌, subst}
use mathlib.Core.Bool.{Bool, true, false}
use mathlib.Core.List.{List, ◌∷◌, ◌++◌}
use Prim.Native.Nat.{ℕ, zero, suc, ◌+◌, ◌-◌, ◌*◌, ◌/◌, ◌≤◌, ◌<◌, zero-le}
use native.Mathlib.Nat.{zero-mul, one-mul, suc-mul, mul-le-mul_right, div-mul-le_self}
use native.Mathlib.Omega.{arith}
use lib.Dec.{eqb}
use lib.ListN.{length, get_or, set, take, drop, length-append, length-drop, length-set}
use lib.Seq.{length-take-le, get_or-set_same, get_or-set_other}
use Rattle.std.specs.Prelude.{if◌then◌else◌}
use Rattle.slots.specs.Ring.{round_of}
use Rattle.slots.proofs.RingLaws.{round_out, round_lt, round_add, round_apart, first_place, next_place}
use Rattle.slots.specs.Marks.{mark_of, ends}
use Rattle.slots.specs.Slots.{Sized, Slotted, laid, segment_in}
use Rattle.slots.specs.Units.{segments_of, segment_cut, flags_of, joined}
use Rattle.slots.proofs.SlotLaws.{slot_in_lem, laid_length, laid_on, laid_none, filed_same, filed_other}
use Rattle.slots.proofs.SlotLaws as one
use Rattle.slots.proofs.Units.{fits, rejoined, cut_first, cut_later}
use Rattle.channel.specs.declared.record.Limits.{Limits}
use Rattle.channel.specs.Pairs.{led, filed}
use Rattle.channel.proofs.PairLaws.{filed_plain, filed_led}
use Rattle.store.specs.Store.{unit_of, ends_in, last_with, last_end_in, EachFits, size_in, octets_in, filed_mem, filed_by, filed_lens, filed_marks}

-- ---- places: the first of n is the last of the others' turn

next_lt : (slots from : ℕ) → from < slots → round_of slots (from + 1) < slots
next_lt slots from p = round_lt slots (from + 1) (omega arith)

last_place : (slots from : ℕ) → from < slots → round_of slots (round_of slots (from + 1) + (slots - 1)) ≡ from
last_place slots from p =
    let e : from + (1 + (slots - 1)) ≡ slots + from = omega arith in
    round_add slots from 1 (slots - 1) (omega arith)
    ∙ ap (round_of slots) e
    ∙ round_out slots (slots + from) (omega arith)
    ∙ (omega arith)

later_place : (slots from i : ℕ) → from < slots → suc i < slots → round_of slots (from + suc i) ≡ from → ⊥
later_place slots from i p h q =
    let z : suc i ≡ 0 = round_apart slots from (suc i) 0 p h (omega arith) (q ∙ sym (first_place slots from p)) in
    omega arith

-- a place that comes later has another slot
later_slot : (slot : ℕ → ℕ) (slots total from i : ℕ) → Slotted slot slots total → from < slots → suc i < slots
    → slot (round_of slots (from + suc i)) ≡ slot from → ⊥
later_slot slot slots total from i map p h e =
    later_place slots from i p h (map.apart (round_of slots (from + suc i)) from (round_lt slots (from + suc i) (omega arith)) p e)

-- places themselves, as what goes by place has them
by_place : (slots : ℕ) → Slotted (λ (place : ℕ). place) slots slots
by_place slots = record { bound = λ p h. h; apart = λ p q h k e. e }

-- ---- up to the first end: at a segment that ends a unit, at one that does not, and where none is left

pub unit_stop : (marks : List ℕ) (slots n i s : ℕ) → i < n → ends (get_or marks s 0) ≡ true → unit_of marks slots (n - i) s ≡ 1
unfolding unit_of
unit_stop marks slots n i s l h = let e : n - i ≡ suc (n - (i + 1)) = omega arith in rw e (simp h)

pub unit_more : (marks : List ℕ) (slots n i s : ℕ) → i < n → ends (get_or marks s 0) ≡ false
    → unit_of marks slots (n - i) s ≡ suc (unit_of marks slots (n - (i + 1)) (round_of slots (s + 1)))
unfolding unit_of
unit_more marks slots n i s l h = let e : n - i ≡ suc (n - (i + 1)) = omega arith in rw e (simp h)

pub unit_none : (marks : List ℕ) (slots n i s : ℕ) → n ≤ i → unit_of marks slots (n - i) s ≡ 0
unfolding unit_of
unit_none marks slots n i s h = let e : n - i ≡ 0 = omega arith in rw e

pub unit_some : (marks : List ℕ) (slots n from : ℕ) → 1 ≤ n → 1 ≤ unit_of marks slots n from
unfolding unit_of
unit_some marks slots zero from h = h
unit_some marks slots (suc n) from h = by (ends (get_or marks from 0)) (unit_of marks slots n (round_of slots (from + 1)))
  where
    by : (t : Bool) (r : ℕ) → 1 ≤ (if t then 1 else suc r)
    by true r = omega arith
    by false r = omega arith

pub unit_le : (marks : List ℕ) (slots n from : ℕ) → unit_of marks slots n from ≤ n
unfolding unit_of
unit_le marks slots zero from = zero-le
unit_le marks slots (suc n) from =
    by (ends (get_or marks from 0)) (unit_of marks slots n (round_of slots (from + 1))) (unit_le marks slots n (round_of slots (from + 1)))
  where
    by : (t : Bool) (r : ℕ) → r ≤ n → (if t then 1 else suc r) ≤ suc n
    by true r h = omega arith
    by false r h = omega arith

-- ---- how many end a unit: one segment more, and none left

pub ends_here : (marks : List ℕ) (slots n i s : ℕ) → i < n → ends (get_or marks s 0) ≡ true
    → ends_in marks slots (n - i) s ≡ 1 + ends_in marks slots (n - (i + 1)) (round_of slots (s + 1))
unfolding ends_in
ends_here marks slots n i s l h = let e : n - i ≡ suc (n - (i + 1)) = omega arith in rw e (simp h)

pub ends_later : (marks : List ℕ) (slots n i s : ℕ) → i < n → ends (get_or marks s 0) ≡ false
    → ends_in marks slots (n - i) s ≡ ends_in marks slots (n - (i + 1)) (round_of slots (s + 1))
unfolding ends_in
ends_later marks slots n i s l h = let e : n - i ≡ suc (n - (i + 1)) = omega arith in rw e (simp h (omega arith))

pub ends_none : (marks : List ℕ) (slots n i s : ℕ) → n ≤ i → ends_in marks slots (n - i) s ≡ 0
unfolding ends_in
ends_none marks slots n i s h = let e : n - i ≡ 0 = omega arith in rw e

pub ends_one : (t : Bool) → (if t then 1 else 0) ≤ 1
ends_one true = omega arith
ends_one false = omega arith

pub ends_le : (marks : List ℕ) (slots n from : ℕ) → ends_in marks slots n from ≤ n
unfolding ends_in
ends_le marks slots zero from = zero-le
ends_le marks slots (suc n) from =
    omega (arith, ends_one (ends (get_or marks from 0)), ends_le marks slots n (round_of slots (from + 1)))

-- ---- up to the last end: i segments passed, of which the last end was the one with so many up to it, and r up to the last end of the rest

abbrev pub carried : ℕ → ℕ → ℕ → ℕ
carried last i zero = last
carried last i (suc r) = i + suc r

-- one segment more
carried_turn : (here : Bool) (last i r : ℕ) → carried last i (last_with here r) ≡ carried (if here then i + 1 else last) (i + 1) r
carried_turn true last i zero = refl
carried_turn false last i zero = refl
carried_turn true last i (suc r) = omega arith
carried_turn false last i (suc r) = omega arith

module _ (marks : List ℕ) (slots n i s last : ℕ) (l : i < n) where
  pub last_more : (here : Bool) → ends (get_or marks s 0) ≡ here
      → carried last i (last_end_in marks slots (n - i) s)
      ≡ carried (if here then i + 1 else last) (i + 1) (last_end_in marks slots (n - (i + 1)) (round_of slots (s + 1)))
  unfolding last_end_in
  last_more here h =
      let e : n - i ≡ suc (n - (i + 1)) = omega arith in
      rw (e, h) (carried_turn here last i (last_end_in marks slots (n - (i + 1)) (round_of slots (s + 1))))

  pub last_here : ends (get_or marks s 0) ≡ true
      → carried last i (last_end_in marks slots (n - i) s) ≡ carried (i + 1) (i + 1) (last_end_in marks slots (n - (i + 1)) (round_of slots (s + 1)))
  last_here = last_more true

  pub last_later : ends (get_or marks s 0) ≡ false
      → carried last i (last_end_in marks slots (n - i) s) ≡ carried last (i + 1) (last_end_in marks slots (n - (i + 1)) (round_of slots (s + 1)))
  last_later = last_more false

pub last_end : (marks : List ℕ) (slots n i s last : ℕ) → n ≤ i → carried last i (last_end_in marks slots (n - i) s) ≡ last
unfolding last_end_in
last_end marks slots n i s last h = let e : n - i ≡ 0 = omega arith in rw e

pub last_le : (marks : List ℕ) (slots n from : ℕ) → last_end_in marks slots n from ≤ n
unfolding last_end_in
last_le marks slots zero from = zero-le
last_le marks slots (suc n) from =
    by (ends (get_or marks from 0)) (last_end_in marks slots n (round_of slots (from + 1))) (last_le marks slots n (round_of slots (from + 1)))
  where
    by : (t : Bool) (r : ℕ) → r ≤ n → last_with t r ≤ suc n
    by true zero h = omega arith
    by false zero h = omega arith
    by t (suc r) h = omega arith

-- no last end: none ends a unit
pub last_none : (marks : List ℕ) (slots n from : ℕ) → last_end_in marks slots n from ≡ 0 → ends_in marks slots n from ≡ 0
unfolding last_end_in ends_in
last_none marks slots zero from h = refl
last_none marks slots (suc n) from h =
    let next = round_of slots (from + 1) in
    by (ends (get_or marks from 0)) (last_end_in marks slots n next) (ends_in marks slots n next) (last_none marks slots n next) h
  where
    by : (t : Bool) (r k : ℕ) → (r ≡ 0 → k ≡ 0) → last_with t r ≡ 0
        → (if t then 1 else 0) + k ≡ 0
    by true zero k f h = absurd (omega arith)
    by false zero k f h = omega (arith, f refl)
    by t (suc r) k f h = absurd (omega arith)

-- and conversely
pub none_last : (marks : List ℕ) (slots n from : ℕ) → ends_in marks slots n from ≡ 0 → last_end_in marks slots n from ≡ 0
unfolding last_end_in ends_in
none_last marks slots zero from h = refl
none_last marks slots (suc n) from h =
    let next = round_of slots (from + 1) in
    by (ends (get_or marks from 0)) (last_end_in marks slots n next) (ends_in marks slots n next) (none_last marks slots n next) h
  where
    by : (t : Bool) (r k : ℕ) → (k ≡ 0 → r ≡ 0) → (if t then 1 else 0) + k ≡ 0
        → last_with t r ≡ 0
    by true r k f h = absurd (omega arith)
    by false zero k f h = refl
    by false (suc r) k f h = absurd (omega (arith, f (omega arith)))

-- ---- the n lengths: one more, none left, and all

module _ (slot : ℕ → ℕ) where
  -- each of the rest fits too
  pub rest_fits : (most : ℕ) (lens : List ℕ) (slots n from : ℕ) → from < slots → suc n ≤ slots
      → EachFits slot most lens slots (suc n) from → EachFits slot most lens slots n (round_of slots (from + 1))
  rest_fits most lens slots n from p b each i h =
      subst (λ (k : ℕ). get_or lens (slot k) 0 ≤ most) (sym (next_place slots from i p (omega arith))) (each (suc i) (omega arith))

  -- and so does the first
  pub first_fits : (most : ℕ) (lens : List ℕ) (slots n from : ℕ) → from < slots
      → EachFits slot most lens slots (suc n) from → get_or lens (slot from) 0 ≤ most
  first_fits most lens slots n from p each =
      subst (λ (k : ℕ). get_or lens (slot k) 0 ≤ most) (first_place slots from p) (each 0 (omega arith))

  -- and the one at a place
  pub place_fits : (most : ℕ) (lens : List ℕ) (slots n from i s : ℕ) → s ≡ round_of slots (from + i) → EachFits slot most lens slots n from
      → i < n → get_or lens (slot s) 0 ≤ most
  place_fits most lens slots n from i s e each h = subst (λ (k : ℕ). get_or lens (slot k) 0 ≤ most) (sym e) (each i h)

  pub size_more : (lens : List ℕ) (slots n i s : ℕ) → i < n
      → size_in slot lens slots (n - i) s ≡ get_or lens (slot s) 0 + size_in slot lens slots (n - (i + 1)) (round_of slots (s + 1))
  unfolding size_in
  size_more lens slots n i s l = let e : n - i ≡ suc (n - (i + 1)) = omega arith in rw e

  pub size_none : (lens : List ℕ) (slots n i s : ℕ) → n ≤ i → size_in slot lens slots (n - i) s ≡ 0
  unfolding size_in
  size_none lens slots n i s h = let e : n - i ≡ 0 = omega arith in rw e

  pub size_le : (most : ℕ) (lens : List ℕ) (slots n from : ℕ) → from < slots → n ≤ slots → EachFits slot most lens slots n from
      → size_in slot lens slots n from ≤ n * most
  unfolding size_in
  size_le most lens slots zero from p b each = zero-le
  size_le most lens slots (suc n) from p b each =
      omega (
        arith,
        suc-mul n most,
        first_fits most lens slots n from p each,
        size_le most lens slots n (round_of slots (from + 1)) (next_lt slots from p) (omega arith) (rest_fits most lens slots n from p b each),
      )

-- ---- the octets of n segments

-- a slot's segment has the slot's length
pub segment_length : (total most : ℕ) (m lens : List ℕ) (s : ℕ) → Sized total most m lens → s < total → get_or lens s 0 ≤ most
    → length (segment_in most m lens s) ≡ get_or lens s 0
segment_length total most m lens s sized p h =
    length-take-le (get_or lens s 0) (drop (s * most) m) (omega (arith, length-drop (s * most) m, slot_in_lem s total most p))

pub octets_length : (slot : ℕ → ℕ) (total most : ℕ) (m lens : List ℕ) (slots n from : ℕ) → Slotted slot slots total → Sized total most m lens
    → from < slots → n ≤ slots → EachFits slot most lens slots n from
    → length (octets_in slot most m lens slots n from) ≡ size_in slot lens slots n from
unfolding octets_in size_in
octets_length slot total most m lens slots zero from map sized p b each = refl
octets_length slot total most m lens slots (suc n) from map sized p b each =
    let next = round_of slots (from + 1) in
    simp length-append
    (omega (
      arith,
      segment_length total most m lens (slot from) sized (map.bound from p) (first_fits slot most lens slots n from p each),
      octets_length slot total most m lens slots n next map sized (next_lt slots from p) (omega arith) (rest_fits slot most lens slots n from p b each),
    ))

-- one segment more, from the slot t of the place s, laid behind those that are there: to lay what is left is what it was
module _ (slot : ℕ → ℕ) (total most : ℕ) (m lens : List ℕ) (slots n i s t : ℕ) (out : List ℕ) (at : ℕ) (out1 : List ℕ) (next : ℕ)
    (sized : Sized total most m lens) (p : t < total) (l : i < n) (is : t ≡ slot s) (short : get_or lens t 0 ≤ most)
    (room : at + get_or lens t 0 ≤ length out) (in-out : out1 ≡ laid out at (segment_in most m lens t)) (on : next ≡ round_of slots (s + 1)) where
  long : length (segment_in most m lens t) ≡ get_or lens t 0
  long = segment_length total most m lens t sized p short

  pub gather_length : length out1 ≡ length out
  gather_length = ap length in-out ∙ laid_length out at (segment_in most m lens t) (omega (arith, long))

  pub gather_more : laid out1 (at + get_or lens t 0) (octets_in slot most m lens slots (n - (i + 1)) next)
      ≡ laid out at (octets_in slot most m lens slots (n - i) s)
  unfolding octets_in
  gather_more =
      let e : n - i ≡ suc (n - (i + 1)) = omega arith in
      let seg = segment_in most m lens t in
      let left = octets_in slot most m lens slots (n - (i + 1)) in
      ap₂ (λ (o : List ℕ) (k : ℕ). laid o (at + get_or lens t 0) (left k)) in-out on
      ∙ ap (λ (k : ℕ). laid (laid out at seg) (at + k) (left (round_of slots (s + 1)))) (sym long)
      ∙ laid_on out at seg (omega (arith, long)) (left (round_of slots (s + 1)))
      ∙ ap (λ (k : ℕ). laid out at (segment_in most m lens k ++ left (round_of slots (s + 1)))) is
      ∙ ap (λ (k : ℕ). laid out at (octets_in slot most m lens slots k s)) (sym e)

-- none left
pub gather_none : (slot : ℕ → ℕ) (most : ℕ) (m lens : List ℕ) (slots n i s : ℕ) (out : List ℕ) (at : ℕ) → n ≤ i
    → laid out at (octets_in slot most m lens slots (n - i) s) ≡ out
unfolding octets_in
gather_none slot most m lens slots n i s out at h =
    let e : n - i ≡ 0 = omega arith in
    ap (λ (k : ℕ). laid out at (octets_in slot most m lens slots k s)) e ∙ laid_none out at

-- ---- values filed round the ring: one more, none left; the places that have them, and the others

module _ (slot f : ℕ → ℕ) (slots : ℕ) where
  by_more : (l : List ℕ) (n i s : ℕ) → i < n
      → filed_by slot f slots l (n - i) i s ≡ filed_by slot f slots (set l (slot s) (f i)) (n - (i + 1)) (i + 1) (round_of slots (s + 1))
  unfolding filed_by
  by_more l n i s h = let e : n - i ≡ suc (n - (i + 1)) = omega arith in rw e

  by_none : (l : List ℕ) (n i s : ℕ) → n ≤ i → filed_by slot f slots l (n - i) i s ≡ l
  unfolding filed_by
  by_none l n i s h = let e : n - i ≡ 0 = omega arith in rw e

  by_length : (l : List ℕ) (n j from : ℕ) → length (filed_by slot f slots l n j from) ≡ length l
  unfolding filed_by
  by_length l zero j from = refl
  by_length l (suc n) j from = by_length (set l (slot from) (f j)) n (j + 1) (round_of slots (from + 1)) ∙ length-set l (slot from) (f j)

  module _ (total : ℕ) (map : Slotted slot slots total) where
    by_out : (l : List ℕ) (n j from i : ℕ) → from < slots → i < slots → n ≤ i
        → get_or (filed_by slot f slots l n j from) (slot (round_of slots (from + i))) 0 ≡ get_or l (slot (round_of slots (from + i))) 0
    unfolding filed_by
    by_out l zero j from i p b h = refl
    by_out l (suc n) j from zero p b h = absurd (omega arith)
    by_out l (suc n) j from (suc i) p b h =
        let next = round_of slots (from + 1) in
        let e = next_place slots from i p (omega arith) in
        ap (λ (k : ℕ). get_or (filed_by slot f slots (set l (slot from) (f j)) n (j + 1) next) (slot k) 0) (sym e)
        ∙ by_out (set l (slot from) (f j)) n (j + 1) next i (next_lt slots from p) (omega arith) (omega arith)
        ∙ ap (λ (k : ℕ). get_or (set l (slot from) (f j)) (slot k) 0) e
        ∙ get_or-set_other l (slot from) (slot (round_of slots (from + suc i))) (f j) 0 (later_slot slot slots total from i map p b)

    by_in : (l : List ℕ) (n j from i : ℕ) → from < slots → total ≤ length l → n ≤ slots → i < n
        → get_or (filed_by slot f slots l n j from) (slot (round_of slots (from + i))) 0 ≡ f (j + i)
    unfolding filed_by
    by_in l zero j from i p b k h = absurd (omega arith)
    by_in l (suc n) j from zero p b k h =
        let next = round_of slots (from + 1) in
        let to = filed_by slot f slots (set l (slot from) (f j)) n (j + 1) next in
        let e = last_place slots from p in
        let z : j ≡ j + 0 = omega arith in
        ap (λ (k : ℕ). get_or to (slot k) 0) (first_place slots from p ∙ sym e)
        ∙ by_out (set l (slot from) (f j)) n (j + 1) next (slots - 1) (next_lt slots from p) (omega arith) (omega arith)
        ∙ ap (λ (k : ℕ). get_or (set l (slot from) (f j)) (slot k) 0) e
        ∙ get_or-set_same l (slot from) (f j) 0 (omega (arith, map.bound from p))
        ∙ ap f z
    by_in l (suc n) j from (suc i) p b k h =
        let next = round_of slots (from + 1) in
        let to = filed_by slot f slots (set l (slot from) (f j)) n (j + 1) next in
        let z : j + 1 + i ≡ j + suc i = omega arith in
        ap (λ (k : ℕ). get_or to (slot k) 0) (sym (next_place slots from i p (omega arith)))
        ∙ by_in (set l (slot from) (f j)) n (j + 1) next i (next_lt slots from p) (omega (arith, length-set l (slot from) (f j))) (omega arith) (omega arith)
        ∙ ap f z

-- the marks, by place
module _ (slots count : ℕ) (marks : List ℕ) where
  pub filed_marks_more : (n i s : ℕ) → i < n
      → filed_marks slots count marks (n - i) i s
      ≡ filed_marks slots count (set marks s (mark_of (flags_of count i))) (n - (i + 1)) (i + 1) (round_of slots (s + 1))
  unfolding filed_marks
  filed_marks_more n i s h = by_more (λ (place : ℕ). place) (λ (k : ℕ). mark_of (flags_of count k)) slots marks n i s h

  pub filed_marks_none : (n i s : ℕ) → n ≤ i → filed_marks slots count marks (n - i) i s ≡ marks
  unfolding filed_marks
  filed_marks_none n i s h = by_none (λ (place : ℕ). place) (λ (k : ℕ). mark_of (flags_of count k)) slots marks n i s h

  pub filed_marks_length : (n j from : ℕ) → length (filed_marks slots count marks n j from) ≡ length marks
  unfolding filed_marks
  filed_marks_length n j from = by_length (λ (place : ℕ). place) (λ (k : ℕ). mark_of (flags_of count k)) slots marks n j from

  pub filed_marks_in : (n j from i : ℕ) → from < slots → slots ≤ length marks → n ≤ slots → i < n
      → get_or (filed_marks slots count marks n j from) (round_of slots (from + i)) 0 ≡ mark_of (flags_of count (j + i))
  unfolding filed_marks
  filed_marks_in n j from i p b k h =
      by_in (λ (place : ℕ). place) (λ (k : ℕ). mark_of (flags_of count k)) slots slots (by_place slots) marks n j from i p b k h

  pub filed_marks_out : (n j from i : ℕ) → from < slots → i < slots → n ≤ i
      → get_or (filed_marks slots count marks n j from) (round_of slots (from + i)) 0 ≡ get_or marks (round_of slots (from + i)) 0
  unfolding filed_marks
  filed_marks_out n j from i p b h =
      by_out (λ (place : ℕ). place) (λ (k : ℕ). mark_of (flags_of count k)) slots slots (by_place slots) marks n j from i p b h

-- the lengths, by slot
module _ (slot : ℕ → ℕ) (most slots : ℕ) (u lens : List ℕ) where
  pub filed_lens_more : (n i s : ℕ) → i < n
      → filed_lens slot most slots u lens (n - i) i s
      ≡ filed_lens slot most slots u (set lens (slot s) (length (segment_cut most u i))) (n - (i + 1)) (i + 1) (round_of slots (s + 1))
  unfolding filed_lens
  filed_lens_more n i s h = by_more slot (λ (k : ℕ). length (segment_cut most u k)) slots lens n i s h

  pub filed_lens_none : (n i s : ℕ) → n ≤ i → filed_lens slot most slots u lens (n - i) i s ≡ lens
  unfolding filed_lens
  filed_lens_none n i s h = by_none slot (λ (k : ℕ). length (segment_cut most u k)) slots lens n i s h

  pub filed_lens_length : (n j from : ℕ) → length (filed_lens slot most slots u lens n j from) ≡ length lens
  unfolding filed_lens
  filed_lens_length n j from = by_length slot (λ (k : ℕ). length (segment_cut most u k)) slots lens n j from

  module _ (total : ℕ) (map : Slotted slot slots total) where
    pub filed_lens_in : (n j from i : ℕ) → from < slots → total ≤ length lens → n ≤ slots → i < n
        → get_or (filed_lens slot most slots u lens n j from) (slot (round_of slots (from + i))) 0 ≡ length (segment_cut most u (j + i))
    unfolding filed_lens
    filed_lens_in n j from i p b k h = by_in slot (λ (k : ℕ). length (segment_cut most u k)) slots total map lens n j from i p b k h

    pub filed_lens_out : (n j from i : ℕ) → from < slots → i < slots → n ≤ i
        → get_or (filed_lens slot most slots u lens n j from) (slot (round_of slots (from + i))) 0 ≡ get_or lens (slot (round_of slots (from + i))) 0
    unfolding filed_lens
    filed_lens_out n j from i p b h = by_out slot (λ (k : ℕ). length (segment_cut most u k)) slots total map lens n j from i p b h

-- ---- the octets: the memory and the lengths together

module _ (slot : ℕ → ℕ) (most slots : ℕ) (u : List ℕ) where
  pub filed_mem_more : (m : List ℕ) (n i s : ℕ) → i < n
      → filed_mem slot most slots u m (n - i) i s
      ≡ filed_mem slot most slots u (laid m (slot s * most) (segment_cut most u i)) (n - (i + 1)) (i + 1) (round_of slots (s + 1))
  unfolding filed_mem
  filed_mem_more m n i s h = let e : n - i ≡ suc (n - (i + 1)) = omega arith in rw e

  pub filed_mem_none : (m : List ℕ) (n i s : ℕ) → n ≤ i → filed_mem slot most slots u m (n - i) i s ≡ m
  unfolding filed_mem
  filed_mem_none m n i s h = let e : n - i ≡ 0 = omega arith in rw e

module _ (slot : ℕ → ℕ) (total most slots : ℕ) (u : List ℕ) (map : Slotted slot slots total) where
  pub filed_sized : (m lens : List ℕ) (n j from : ℕ) → Sized total most m lens → from < slots
      → Sized total most (filed_mem slot most slots u m n j from) (filed_lens slot most slots u lens n j from)
  unfolding filed_mem filed_lens filed_by
  filed_sized m lens zero j from sized p = sized
  filed_sized m lens (suc n) j from sized p =
      filed_sized (laid m (slot from * most) (segment_cut most u j)) (set lens (slot from) (length (segment_cut most u j))) n (j + 1) (round_of slots (from + 1))
      (one.filed_sized total most m lens (slot from) (segment_cut most u j) sized (map.bound from p) (fits most u j))
      (next_lt slots from p)

  -- what is filed at another place stays
  pub filed_octets_out : (m lens : List ℕ) (n j from i : ℕ) → Sized total most m lens → from < slots → i < slots → n ≤ i
      → get_or lens (slot (round_of slots (from + i))) 0 ≤ most
      → segment_in most (filed_mem slot most slots u m n j from) (filed_lens slot most slots u lens n j from) (slot (round_of slots (from + i)))
      ≡ segment_in most m lens (slot (round_of slots (from + i)))
  unfolding filed_mem filed_lens filed_by
  filed_octets_out m lens zero j from i sized p b h short = refl
  filed_octets_out m lens (suc n) j from zero sized p b h short = absurd (omega arith)
  filed_octets_out m lens (suc n) j from (suc i) sized p b h short =
      let next = round_of slots (from + 1) in
      let part = segment_cut most u j in
      let m1 = laid m (slot from * most) part in
      let lens1 = set lens (slot from) (length part) in
      let e = next_place slots from i p (omega arith) in
      let d = later_slot slot slots total from i map p b in
      let other = slot (round_of slots (from + suc i)) in
      let kept : get_or lens1 (slot (round_of slots (next + i))) 0 ≤ most =
      subst (λ (k : ℕ). k ≤ most) (sym (ap (λ (k : ℕ). get_or lens1 (slot k) 0) e ∙ get_or-set_other lens (slot from) other (length part) 0 d)) short in
      ap (λ (k : ℕ). segment_in most (filed_mem slot most slots u m1 n (j + 1) next) (filed_lens slot most slots u lens1 n (j + 1) next) (slot k)) (sym e)
      ∙ filed_octets_out m1 lens1 n (j + 1) next i
      (one.filed_sized total most m lens (slot from) part sized (map.bound from p) (fits most u j))
      (next_lt slots from p)
      (omega arith)
      (omega arith)
      kept
      ∙ ap (λ (k : ℕ). segment_in most m1 lens1 (slot k)) e
      ∙ filed_other total most m lens (slot from) part sized (map.bound from p) (fits most u j) other d short

  -- the i-th place holds the i-th segment
  pub filed_octets_in : (m lens : List ℕ) (n j from i : ℕ) → Sized total most m lens → from < slots → n ≤ slots → i < n
      → segment_in most (filed_mem slot most slots u m n j from) (filed_lens slot most slots u lens n j from) (slot (round_of slots (from + i)))
      ≡ segment_cut most u (j + i)
  unfolding filed_mem filed_lens filed_by
  filed_octets_in m lens zero j from i sized p b h = absurd (omega arith)
  filed_octets_in m lens (suc n) j from zero sized p b h =
      let next = round_of slots (from + 1) in
      let part = segment_cut most u j in
      let m1 = laid m (slot from * most) part in
      let lens1 = set lens (slot from) (length part) in
      let e = last_place slots from p in
      let z : j ≡ j + 0 = omega arith in
      let same : get_or lens1 (slot from) 0 ≡ length part = get_or-set_same lens (slot from) (length part) 0 (omega (arith, map.bound from p)) in
      let kept : get_or lens1 (slot (round_of slots (next + (slots - 1)))) 0 ≤ most =
      subst (λ (k : ℕ). k ≤ most) (sym (ap (λ (k : ℕ). get_or lens1 (slot k) 0) e ∙ same)) (fits most u j) in
      ap (λ (k : ℕ). segment_in most (filed_mem slot most slots u m1 n (j + 1) next) (filed_lens slot most slots u lens1 n (j + 1) next) (slot k))
      (first_place slots from p ∙ sym e)
      ∙ filed_octets_out m1 lens1 n (j + 1) next (slots - 1)
      (one.filed_sized total most m lens (slot from) part sized (map.bound from p) (fits most u j))
      (next_lt slots from p)
      (omega arith)
      (omega arith)
      kept
      ∙ ap (λ (k : ℕ). segment_in most m1 lens1 (slot k)) e
      ∙ filed_same total most m lens (slot from) part sized (map.bound from p) (fits most u j)
      ∙ ap (segment_cut most u) z
  filed_octets_in m lens (suc n) j from (suc i) sized p b h =
      let next = round_of slots (from + 1) in
      let part = segment_cut most u j in
      let m1 = laid m (slot from * most) part in
      let lens1 = set lens (slot from) (length part) in
      let z : j + 1 + i ≡ j + suc i = omega arith in
      ap (λ (k : ℕ). segment_in most (filed_mem slot most slots u m1 n (j + 1) next) (filed_lens slot most slots u lens1 n (j + 1) next) (slot k))
      (sym (next_place slots from i p (omega arith)))
      ∙ filed_octets_in m1 lens1 n (j + 1) next i
      (one.filed_sized total most m lens (slot from) part sized (map.bound from p) (fits most u j))
      (next_lt slots from p)
      (omega arith)
      (omega arith)
      ∙ ap (segment_cut most u) z

-- ---- segments of a unit, place by place, are the unit's octets

pub octets_joined : (slot : ℕ → ℕ) (most : ℕ) (u m lens : List ℕ) (slots n j from : ℕ) → from < slots → n ≤ slots
    → ((i : ℕ) → i < n → segment_in most m lens (slot (round_of slots (from + i))) ≡ segment_cut most u (j + i))
    → octets_in slot most m lens slots n from ≡ joined most u n j
unfolding octets_in joined
octets_joined slot most u m lens slots zero j from p b each = refl
octets_joined slot most u m lens slots (suc n) j from p b each =
    let next = round_of slots (from + 1) in
    let z : j + 0 ≡ j = omega arith in
    let first : segment_in most m lens (slot from) ≡ segment_cut most u j =
    ap (λ (k : ℕ). segment_in most m lens (slot k)) (sym (first_place slots from p)) ∙ each 0 (omega arith) ∙ ap (segment_cut most u) z in
    ap₂ (λ (a b : List ℕ). a ++ b) first
    (octets_joined slot most u m lens slots n (j + 1) next (next_lt slots from p) (omega arith)
    (λ i h.
    let y : j + suc i ≡ j + 1 + i = omega arith in
    ap (λ (k : ℕ). segment_in most m lens (slot k)) (next_place slots from i p (omega arith)) ∙ each (suc i) (omega arith) ∙ ap (segment_cut most u) y))

-- a unit that is filed and gathered is the unit
pub filed_gathered : (slot : ℕ → ℕ) (total most slots : ℕ) (u m lens : List ℕ) (from : ℕ) → Slotted slot slots total → Sized total most m lens
    → 1 ≤ most → from < slots → segments_of most (length u) ≤ slots
    → octets_in slot most (filed_mem slot most slots u m (segments_of most (length u)) 0 from)
    (filed_lens slot most slots u lens (segments_of most (length u)) 0 from) slots (segments_of most (length u)) from
    ≡ u
filed_gathered slot total most slots u m lens from map sized h p b =
    let n = segments_of most (length u) in
    octets_joined slot most u (filed_mem slot most slots u m n 0 from) (filed_lens slot most slots u lens n 0 from) slots n 0 from p b
    (λ i l. filed_octets_in slot total most slots u map m lens n 0 from i sized p b l)
    ∙ rejoined most u h

-- ---- the i-th segment as a part of the unit, and its flags

-- it starts at or before the last octet of the unit
pub segment_starts : (most n i : ℕ) → i < segments_of most n → i * most ≤ n - 1
segment_starts most n i = by (eqb n 0)
  where
    by : (t : Bool) → i < (if t then 1 else (n - 1) / most + 1) → i * most ≤ n - 1
    by true h = let z : i ≡ 0 = omega arith in subst (λ (k : ℕ). k ≤ n - 1) (sym (ap (λ (k : ℕ). k * most) z ∙ zero-mul most)) zero-le
    by false h =
        let k : i ≤ (n - 1) / most = omega arith in
        omega (arith, mul-le-mul_right most k, div-mul-le_self (n - 1) most)

-- behind the first, a segment starts past the front
pub past_front : (most i : ℕ) → 1 ≤ most → (i ≡ 0 → ⊥) → 1 ≤ i * most
past_front most i h n = let some : 1 ≤ i = omega arith in omega (arith, one-mul most, mul-le-mul_right most some)

-- of what is filed, the i-th segment as a part of the unit's own octets: as it is, or behind a leading octet
module _ (l : Limits) (u : List ℕ) (i : ℕ) where
  pub filed_starts : i < segments_of l.payload (length (filed l u)) → i * l.payload ≤ length u
  filed_starts h = by (led l) (segment_starts l.payload (length (filed l u)) i h)
    where
      by : (t : Bool) → i * l.payload ≤ length (if t then 0 ∷ u else u) - 1 → i * l.payload ≤ length u
      by true h = omega arith
      by false h = omega arith

  pub cut_plain : l.lead ≡ 0 → segment_cut l.payload (filed l u) i ≡ take l.payload (drop (i * l.payload) u)
  cut_plain e = ap (λ (w : List ℕ). segment_cut l.payload w i) (filed_plain l e u)

  module _ (d : l.lead ≡ 0 → ⊥) (octet : 1 ≤ l.payload) where
    pub cut_led : i ≡ 0 → segment_cut l.payload (filed l u) i ≡ 0 ∷ take (l.payload - 1) u
    cut_led z = ap₂ (segment_cut l.payload) (filed_led l d u) z ∙ cut_first l.payload 0 u octet

    pub cut_behind : (i ≡ 0 → ⊥) → segment_cut l.payload (filed l u) i ≡ take l.payload (drop (i * l.payload - 1) u)
    cut_behind n =
        ap (λ (w : List ℕ). segment_cut l.payload w i) (filed_led l d u)
        ∙ cut_later l.payload 0 u i (past_front l.payload i octet n)

-- a part put in a slot, and the same part by another name
pub put_as : (m lens : List ℕ) (at slot : ℕ) (p q m1 lens1 : List ℕ) → p ≡ q → (m1 ≡ laid m at p) × (lens1 ≡ set lens slot (length p))
    → (m1 ≡ laid m at q) × (lens1 ≡ set lens slot (length q))
put_as m lens at slot p q m1 lens1 is put = subst (λ (r : List ℕ). (m1 ≡ laid m at r) × (lens1 ≡ set lens slot (length r))) is put

pub flags_le : (count i : ℕ) → flags_of count i ≤ 3
flags_le count i = by (eqb count 1) (eqb i 0) (eqb (i + 1) count)
  where
    by : (a b c : Bool) → (if a then 3 else if b then 1 else if c then 2 else 0) ≤ 3
    by true b c = omega arith
    by false true c = omega arith
    by false false true = omega arith
    by false false false = omega arith

-- ---- one segment more filed, in the slot t of the place s, and the place goes on: to file what is left is what it was
module _ (slot : ℕ → ℕ) (total most slots : ℕ) (u m lens : List ℕ) (n i s t : ℕ) (m1 lens1 : List ℕ) (next : ℕ)
    (sized : Sized total most m lens) (p : t < total) (l : i < n) (there : t ≡ slot s)
    (mem_is : m1 ≡ laid m (t * most) (segment_cut most u i)) (lens_is : lens1 ≡ set lens t (length (segment_cut most u i)))
    (on : next ≡ round_of slots (s + 1)) where
  pub turn_sized : Sized total most m1 lens1
  turn_sized =
      subst (λ (k : List ℕ). Sized total most k lens1) (sym mem_is)
      (subst (λ (k : List ℕ). Sized total most (laid m (t * most) (segment_cut most u i)) k) (sym lens_is)
      (one.filed_sized total most m lens t (segment_cut most u i) sized p (fits most u i)))

  pub turn_mem : filed_mem slot most slots u m1 (n - (i + 1)) (i + 1) next ≡ filed_mem slot most slots u m (n - i) i s
  turn_mem =
      ap₂ (λ (k : List ℕ) (j : ℕ). filed_mem slot most slots u k (n - (i + 1)) (i + 1) j)
      (mem_is ∙ ap (λ (j : ℕ). laid m (j * most) (segment_cut most u i)) there)
      on
      ∙ sym (filed_mem_more slot most slots u m n i s l)

  pub turn_lens : filed_lens slot most slots u lens1 (n - (i + 1)) (i + 1) next ≡ filed_lens slot most slots u lens (n - i) i s
  turn_lens =
      ap₂ (λ (k : List ℕ) (j : ℕ). filed_lens slot most slots u k (n - (i + 1)) (i + 1) j)
      (lens_is ∙ ap (λ (j : ℕ). set lens j (length (segment_cut most u i))) there)
      on
      ∙ sym (filed_lens_more slot most slots u lens n i s l)

pub turn_marks : (slots count : ℕ) (marks : List ℕ) (n i s flags next : ℕ) → i < n → flags ≡ flags_of count i → next ≡ round_of slots (s + 1)
    → filed_marks slots count (set marks s (flags + 1)) (n - (i + 1)) (i + 1) next ≡ filed_marks slots count marks (n - i) i s
turn_marks slots count marks n i s flags next l is on =
    ap₂ (λ (k j : ℕ). filed_marks slots count (set marks s (mark_of k)) (n - (i + 1)) (i + 1) j) is on
    ∙ sym (filed_marks_more slots count marks n i s l)
