-- Laws of the ring: places, the run of set marks, and marks cleared.
-- Assumes nothing.
use mathlib.Core.Path.{◌≡◌, refl, sym, ap, ◌∙◌}
use mathlib.Core.Logic.{◌⊎◌, inl, inr, ⊎_elim}
use mathlib.Core.List.{List, [], ◌∷◌}
use Prim.Native.Nat.{ℕ, zero, suc, ◌+◌, ◌-◌, ◌≤◌, ◌<◌, zero-le}
use native.Mathlib.Nat.{add-zero}
use native.Mathlib.Omega.{arith}
use borrow.Author.Tests.{lt-ltb, le-ltb, eq-eqb, ne_eqb, eqb-true, eqb-false}
use lib.Dec.{eqb}
use lib.ListN.{length, get_or, set, length-set}
use lib.Seq.{get_or-set_other}
use Rattle.laws.proofs.Choice.{either_way}
use Rattle.laws.proofs.Numbers.{lt_cases}
use Rattle.slots.specs.Ring.{round_of, back_of, run_of, cleared}

-- ---- places

module _ (slots x : ℕ) where
  pub round_in : x < slots → round_of slots x ≡ x
  unfolding round_of
  round_in h = rw (lt-ltb x slots h)

  pub round_out : slots ≤ x → round_of slots x ≡ x - slots
  unfolding round_of
  round_out h = rw (le-ltb x slots h)

  pub round_cases : ((x < slots) × (round_of slots x ≡ x)) ⊎ ((slots ≤ x) × (round_of slots x ≡ x - slots))
  round_cases = ⊎_elim (λ h. inl (h, round_in h)) (λ h. inr (h, round_out h)) (lt_cases x slots)

  pub round_lt : x < slots + slots → round_of slots x < slots
  round_lt h = ⊎_elim (λ w. omega arith) (λ w. omega arith) round_cases

-- i on, and then n on
pub round_add : (slots place i n : ℕ) → place + (i + n) < slots + slots
    → round_of slots (round_of slots (place + i) + n) ≡ round_of slots (place + (i + n))
round_add slots place i n h =
    ⊎_elim
    (λ w. let e : round_of slots (place + i) + n ≡ place + (i + n) = omega arith in ap (round_of slots) e)
    (λ w.
    let near : round_of slots (place + i) + n < slots = omega arith in
    let far : slots ≤ place + (i + n) = omega arith in
    round_in _ _ near ∙ (omega (arith, round_out slots (place + (i + n)) far)))
    (round_cases slots (place + i))

-- two places on the ring are one only where they are as far on
pub round_apart : (slots place i j : ℕ) → place < slots → i < slots → j < slots
    → round_of slots (place + i) ≡ round_of slots (place + j) → i ≡ j
round_apart slots place i j p a b e =
    ⊎_elim
    (λ v. ⊎_elim (λ w. omega arith) (λ w. omega arith) (round_cases slots (place + j)))
    (λ v. ⊎_elim (λ w. omega arith) (λ w. omega arith) (round_cases slots (place + j)))
    (round_cases slots (place + i))

module _ (slots place n : ℕ) (p : place < slots) where
  pub back_lt : back_of slots place n < slots
  unfolding back_of
  back_lt = round_lt slots (place + (slots - n)) (omega arith)

  -- n back, and n on again
  pub back_forth : n ≤ slots → round_of slots (back_of slots place n + n) ≡ place
  unfolding back_of
  back_forth h =
      ⊎_elim
      (λ w.
      let e : round_of slots (place + (slots - n)) + n ≡ slots + place = omega arith in
      ap (round_of slots) e ∙ round_out slots (slots + place) (omega arith) ∙ (omega arith))
      (λ w.
      let e : round_of slots (place + (slots - n)) + n ≡ place = omega arith in
      ap (round_of slots) e ∙ round_in slots place p)
      (round_cases slots (place + (slots - n)))

  -- n on, and n back again
  pub forth_back : n ≤ slots → back_of slots (round_of slots (place + n)) n ≡ place
  unfolding back_of
  forth_back h =
      ⊎_elim
      (λ w.
      let e : round_of slots (place + n) + (slots - n) ≡ slots + place = omega arith in
      ap (round_of slots) e ∙ round_out slots (slots + place) (omega arith) ∙ (omega arith))
      (λ w.
      let e : round_of slots (place + n) + (slots - n) ≡ place = omega arith in
      ap (round_of slots) e ∙ round_in slots place p)
      (round_cases slots (place + n))

-- the first place of a run is its own; the next ones are those from the place after it on
pub first_place : (slots from : ℕ) → from < slots → round_of slots (from + 0) ≡ from
first_place slots from h = ap (round_of slots) (add-zero from) ∙ round_in slots from h

pub next_place : (slots from i : ℕ) → from < slots → i < slots
    → round_of slots (round_of slots (from + 1) + i) ≡ round_of slots (from + suc i)
next_place slots from i h k =
    let e : from + (1 + i) ≡ from + suc i = omega arith in
    round_add slots from 1 i (omega arith) ∙ ap (round_of slots) e

-- ---- the run: at a mark that is not set, at one that is, and at its end

pub run_stop : (m : List ℕ) (slots n s : ℕ) → get_or m s 0 ≡ 0 → run_of m slots n s ≡ 0
unfolding run_of
run_stop m slots zero s h = refl
run_stop m slots (suc n) s h = simp (eq-eqb _ _ h)

pub run_step : (m : List ℕ) (slots n s : ℕ) → (get_or m s 0 ≡ 0 → ⊥)
    → run_of m slots (suc n) s ≡ suc (run_of m slots n (round_of slots (s + 1)))
unfolding run_of
run_step m slots n s h = simp (ne_eqb _ _ h)

pub run_none : (m : List ℕ) (slots n i s : ℕ) → n ≤ i → run_of m slots (n - i) s ≡ 0
unfolding run_of
run_none m slots n i s h = let e : n - i ≡ 0 = omega arith in rw e

-- whether the mark is set
pub mark_cases : (m : List ℕ) (s : ℕ) → (get_or m s 0 ≡ 0) ⊎ (get_or m s 0 ≡ 0 → ⊥)
mark_cases m s = either_way (eqb (get_or m s 0) 0) (λ e. inl (eqb-true _ _ e)) (λ e. inr (eqb-false _ _ e))

pub run_le : (m : List ℕ) (slots n from : ℕ) → run_of m slots n from ≤ n
unfolding run_of
run_le m slots zero from = zero-le
run_le m slots (suc n) from =
    ⊎_elim
    (λ z. omega (arith, run_stop m slots (suc n) from z))
    (λ z. omega (arith, run_step m slots n from z, run_le m slots n (round_of slots (from + 1))))
    (mark_cases m from)

-- each mark of the run is set
pub run_set : (m : List ℕ) (slots n from i : ℕ) → from < slots → i < slots → i < run_of m slots n from
    → get_or m (round_of slots (from + i)) 0 ≡ 0 → ⊥
run_set m slots zero from i p b h z = omega (arith, run_le m slots 0 from)
run_set m slots (suc n) from zero p b h z =
    let here = ap (λ (k : ℕ). get_or m k 0) (sym (first_place slots from p)) ∙ z in
    omega (arith, run_stop m slots (suc n) from here)
run_set m slots (suc n) from (suc i) p b h z =
    ⊎_elim
    (λ y. omega (arith, run_stop m slots (suc n) from y))
    (λ y.
    run_set m slots n (round_of slots (from + 1)) i (round_lt slots (from + 1) (omega arith)) (omega arith)
    (omega (arith, run_step m slots n from y))
    (ap (λ (k : ℕ). get_or m k 0) (next_place slots from i p (omega arith)) ∙ z))
    (mark_cases m from)

-- where the run ends early, the next mark is not set
pub run_ends : (m : List ℕ) (slots n from : ℕ) → from < slots → n ≤ slots → run_of m slots n from < n
    → get_or m (round_of slots (from + run_of m slots n from)) 0 ≡ 0
run_ends m slots zero from p b h = absurd (omega arith)
run_ends m slots (suc n) from p b h =
    ⊎_elim
    (λ y.
    ap (λ (k : ℕ). get_or m (round_of slots (from + k)) 0) (run_stop m slots (suc n) from y)
    ∙ ap (λ (k : ℕ). get_or m k 0) (first_place slots from p)
    ∙ y)
    (λ y.
    let next = round_of slots (from + 1) in
    let e = run_step m slots n from y in
    ap (λ (k : ℕ). get_or m (round_of slots (from + k)) 0) e
    ∙ ap (λ (k : ℕ). get_or m k 0) (sym (next_place slots from (run_of m slots n next) p (omega arith)))
    ∙ run_ends m slots n next (round_lt slots (from + 1) (omega arith)) (omega arith) (omega arith))
    (mark_cases m from)

-- k marks that are set, and then one that is not or the end, are a run of k
pub run_is : (m : List ℕ) (slots n from k : ℕ) → from < slots → n ≤ slots → k ≤ n
    → ((i : ℕ) → i < k → get_or m (round_of slots (from + i)) 0 ≡ 0 → ⊥)
    → (k < n → get_or m (round_of slots (from + k)) 0 ≡ 0)
    → run_of m slots n from ≡ k
run_is m slots n from k p b l set ends =
    let r = run_of m slots n from in
    let not_less : r < k → ⊥ = λ h. set r h (run_ends m slots n from p b (omega arith)) in
    let not_more : k < r → ⊥ = λ h.
    run_set m slots n from k p (omega (arith, run_le m slots n from)) h (ends (omega (arith, run_le m slots n from))) in
    ⊎_elim
    (λ h. absurd (not_less h))
    (λ h. ⊎_elim (λ g. absurd (not_more g)) (λ g. omega arith) (lt_cases k r))
    (lt_cases r k)

-- ---- cleared: one mark more, and none

pub clear_more : (m : List ℕ) (slots n i s : ℕ) → i < n
    → cleared m slots (n - i) s ≡ cleared (set m s 0) slots (n - (i + 1)) (round_of slots (s + 1))
unfolding cleared
clear_more m slots n i s l = let e : n - i ≡ suc (n - (i + 1)) = omega arith in rw e

pub clear_none : (m : List ℕ) (slots n i s : ℕ) → n ≤ i → cleared m slots (n - i) s ≡ m
unfolding cleared
clear_none m slots n i s h = let e : n - i ≡ 0 = omega arith in rw e

pub cleared_length : (m : List ℕ) (slots n from : ℕ) → length (cleared m slots n from) ≡ length m
unfolding cleared
cleared_length m slots zero from = refl
cleared_length m slots (suc n) from = cleared_length (set m from 0) slots n (round_of slots (from + 1)) ∙ length-set m from 0

-- a place after a store: what was stored, or nothing where the list ends before it
pub set_here : (m : List ℕ) (s v : ℕ) → (get_or (set m s v) s 0 ≡ v) ⊎ (get_or (set m s v) s 0 ≡ 0)
set_here [] s v = inr refl
set_here (x ∷ m) zero v = inl refl
set_here (x ∷ m) (suc s) v = set_here m s v

set_none : (m : List ℕ) (s j : ℕ) → (get_or (set m s 0) j 0 ≡ 0) ⊎ (get_or (set m s 0) j 0 ≡ get_or m j 0)
set_none [] s j = inr refl
set_none (x ∷ m) zero zero = inl refl
set_none (x ∷ m) zero (suc j) = inr refl
set_none (x ∷ m) (suc s) zero = inr refl
set_none (x ∷ m) (suc s) (suc j) = set_none m s j

-- a mark after some are cleared: none, or what it was
pub cleared_either : (m : List ℕ) (slots n from j : ℕ) → (get_or (cleared m slots n from) j 0 ≡ 0) ⊎ (get_or (cleared m slots n from) j 0 ≡ get_or m j 0)
unfolding cleared
cleared_either m slots zero from j = inr refl
cleared_either m slots (suc n) from j =
    ⊎_elim
    (λ z. inl z)
    (λ e. ⊎_elim (λ z. inl (e ∙ z)) (λ s. inr (e ∙ s)) (set_none m from j))
    (cleared_either (set m from 0) slots n (round_of slots (from + 1)) j)

-- so a mark that is not set stays so
pub cleared_zero : (m : List ℕ) (slots n from j : ℕ) → get_or m j 0 ≡ 0 → get_or (cleared m slots n from) j 0 ≡ 0
cleared_zero m slots n from j h = ⊎_elim (λ z. z) (λ e. e ∙ h) (cleared_either m slots n from j)

-- the n marks are cleared
pub cleared_in : (m : List ℕ) (slots n from i : ℕ) → from < slots → i < slots → i < n
    → get_or (cleared m slots n from) (round_of slots (from + i)) 0 ≡ 0
unfolding cleared
cleared_in m slots zero from i p b h = absurd (omega arith)
cleared_in m slots (suc n) from zero p b h =
    cleared_zero (set m from 0) slots n (round_of slots (from + 1)) (round_of slots (from + 0))
    (ap (λ (k : ℕ). get_or (set m from 0) k 0) (first_place slots from p) ∙ ⊎_elim (λ e. e) (λ e. e) (set_here m from 0))
cleared_in m slots (suc n) from (suc i) p b h =
    ap (λ (k : ℕ). get_or (cleared (set m from 0) slots n (round_of slots (from + 1))) k 0) (sym (next_place slots from i p (omega arith)))
    ∙ cleared_in (set m from 0) slots n (round_of slots (from + 1)) i (round_lt slots (from + 1) (omega arith)) (omega arith) (omega arith)

-- the others on the ring stay
pub cleared_out : (m : List ℕ) (slots n from i : ℕ) → from < slots → i < slots → n ≤ i
    → get_or (cleared m slots n from) (round_of slots (from + i)) 0 ≡ get_or m (round_of slots (from + i)) 0
unfolding cleared
cleared_out m slots zero from i p b h = refl
cleared_out m slots (suc n) from zero p b h = absurd (omega arith)
cleared_out m slots (suc n) from (suc i) p b h =
    let next = round_of slots (from + 1) in
    let e = next_place slots from i p (omega arith) in
    let other : round_of slots (from + suc i) ≡ from → ⊥ = λ q.
    let z : suc i ≡ 0 = round_apart slots from (suc i) 0 p b (omega arith) (q ∙ sym (first_place slots from p)) in omega arith in
    ap (λ (k : ℕ). get_or (cleared (set m from 0) slots n next) k 0) (sym e)
    ∙ cleared_out (set m from 0) slots n next i (round_lt slots (from + 1) (omega arith)) (omega arith) (omega arith)
    ∙ ap (λ (k : ℕ). get_or (set m from 0) k 0) e
    ∙ get_or-set_other m from (round_of slots (from + suc i)) 0 0 other

-- and so do those past the ring
pub cleared_past : (m : List ℕ) (slots n from j : ℕ) → from < slots → slots ≤ j → get_or (cleared m slots n from) j 0 ≡ get_or m j 0
unfolding cleared
cleared_past m slots zero from j p h = refl
cleared_past m slots (suc n) from j p h =
    cleared_past (set m from 0) slots n (round_of slots (from + 1)) j (round_lt slots (from + 1) (omega arith)) h
    ∙ get_or-set_other m from j 0 0 (λ q. omega arith)
