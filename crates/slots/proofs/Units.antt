-- A unit that is cut and rejoined is the unit; all segments but the last are full, and none is longer.
-- Assumes nothing.
use mathlib.Core.Path.{◌≡◌, refl, sym, ap, ◌∙◌}
use mathlib.Core.Bool.{Bool, true, false}
use mathlib.Core.List.{List, ◌∷◌, ◌++◌}
use Prim.Native.Nat.{ℕ, zero, suc, ◌+◌, ◌-◌, ◌*◌, ◌/◌, ◌%◌, ◌≤◌, ◌<◌, min, max}
use native.Mathlib.Nat.{suc-mul, zero-mul, add-mul, one-mul, mul-le-mul_right, div-mul-le_self, lt-div-mul-add}
use native.Mathlib.Omega.{arith}
use borrow.Author.Tests.{eqb-true, eqb-false, ltb-true, ltb-false}
use lib.Dec.{eqb, ltb}
use lib.ListN.{length, take, drop, length-take, length-drop}
use lib.Seq.{take_all, take-add, drop-drop, length-take-le}
use Rattle.std.specs.Prelude.{if◌then◌else◌}
use Rattle.std.proofs.lemmas.Grind.{div_ceil_times}
use Rattle.slots.specs.Units.{segments_of, segment_cut, joined}

-- one more turn of so many octets
turn : (i most : ℕ) → (i + 1) * most ≡ i * most + most
turn i most = add-mul i 1 most ∙ ap (λ (k : ℕ). i * most + k) (one-mul most)

-- ---- how many segments

-- at least one
pub segments_some : (most n : ℕ) → 1 ≤ segments_of most n
segments_some most n = by (eqb n 0)
  where
    by : (t : Bool) → 1 ≤ (if t then 1 else (n - 1) / most + 1)
    by true = omega arith
    by false = omega arith

-- enough for the whole unit
pub segments_cover : (most n : ℕ) → 1 ≤ most → n ≤ segments_of most n * most
segments_cover most n h = by (eqb n 0) refl
  where
    by : (t : Bool) → eqb n 0 ≡ t → n ≤ (if t then 1 else (n - 1) / most + 1) * most
    by true e = omega (arith, eqb-true n 0 e)
    by false e = omega (arith, turn ((n - 1) / most) most, lt-div-mul-add {a = n - 1} {b = most} h)

-- so a unit longer than m segments has more
pub segments_over : (most n m : ℕ) → 1 ≤ most → m * most < n → m < segments_of most n
segments_over most n m h l = by (ltb m (segments_of most n)) refl
  where
    by : (t : Bool) → ltb m (segments_of most n) ≡ t → m < segments_of most n
    by true e = ltb-true m _ e
    by false e = absurd (omega (arith, segments_cover most n h, mul-le-mul_right most (ltb-false m (segments_of most n) e)))

-- and all but the last are filled
segments_filled : (most n i : ℕ) → i + 1 < segments_of most n → i * most + most ≤ n
segments_filled most n i = by (eqb n 0)
  where
    by : (t : Bool) → i + 1 < (if t then 1 else (n - 1) / most + 1) → i * most + most ≤ n
    by true h = absurd (omega arith)
    by false h =
        let q = (n - 1) / most in
        let k : i + 1 ≤ q = omega arith in
        omega (arith, turn i most, mul-le-mul_right most k, div-mul-le_self (n - 1) most)

-- of two counts of turns the shorter is the less
less : (a b most : ℕ) → a * most < b * most → a < b
less a b most h = by (ltb a b) refl
  where
    by : (t : Bool) → ltb a b ≡ t → a < b
    by true e = ltb-true a b e
    by false e = absurd (omega (arith, h, mul-le-mul_right most (ltb-false a b e)))

-- as a division that rounds up counts them, of an empty unit one
pub segments_ceil : (most n : ℕ) → 1 ≤ most → max (n / most + min 1 (n % most)) 1 ≡ segments_of most n
segments_ceil most n h = by (eqb n 0) refl
  where
    q : ℕ
    q = n / most + min 1 (n % most)

    p : ℕ
    p = (n - 1) / most

    around : (n ≤ q * most) × (q * most < n + most)
    around = div_ceil_times n most h

    by : (t : Bool) → eqb n 0 ≡ t → max q 1 ≡ (if t then 1 else p + 1)
    by true e =
        let few : q < 1 = less q 1 most (omega (arith, around.1, eqb-true n 0 e, one-mul most)) in
        omega (arith, few)
    by false e =
        let some = eqb-false n 0 e in
        let full = div-mul-le_self (n - 1) most in
        let rest = lt-div-mul-add {a = n - 1} {b = most} h in
        let over : p < q = less p q most (omega (arith, around.0, some, full)) in
        let under : q < p + 2 = less q (p + 2) most (omega (arith, around.1, some, rest, add-mul p 2 most)) in
        omega (arith, over, under)

-- ---- the segments

pub fits : (most : ℕ) (u : List ℕ) (i : ℕ) → length (segment_cut most u i) ≤ most
fits most u i = simp length-take (omega arith)

pub full : (most : ℕ) (u : List ℕ) (i : ℕ) → i + 1 < segments_of most (length u) → length (segment_cut most u i) ≡ most
full most u i h =
    length-take-le most (drop (i * most) u) (omega (arith, length-drop (i * most) u, segments_filled most (length u) i h))

-- with an octet in front: the first segment has it, and each behind begins an octet before where it began
pub cut_first : (most x : ℕ) (u : List ℕ) → 1 ≤ most → segment_cut most (x ∷ u) 0 ≡ x ∷ take (most - 1) u
cut_first most x u h =
    let e : most ≡ suc (most - 1) = omega arith in
    ap (λ (k : ℕ). take most (drop k (x ∷ u))) (zero-mul most) ∙ ap (λ (k : ℕ). take k (x ∷ u)) e

pub cut_later : (most x : ℕ) (u : List ℕ) (i : ℕ) → 1 ≤ i * most → segment_cut most (x ∷ u) i ≡ take most (drop (i * most - 1) u)
cut_later most x u i h =
    let e : i * most ≡ suc (i * most - 1) = omega arith in
    ap (λ (k : ℕ). take most (drop k (x ∷ u))) e

-- n segments from the i-th on are so many octets from where it begins
pub joined_part : (most : ℕ) (u : List ℕ) (n i : ℕ) → joined most u n i ≡ take (n * most) (drop (i * most) u)
unfolding joined
joined_part most u zero i = sym (ap (λ (k : ℕ). take k (drop (i * most) u)) (zero-mul most))
joined_part most u (suc n) i =
    let e : most + n * most ≡ suc n * most = omega (arith, suc-mul n most) in
    let here = drop (i * most) u in
    let next : drop ((i + 1) * most) u ≡ drop most here =
    ap (λ (k : ℕ). drop k u) (turn i most) ∙ sym (drop-drop most (i * most) u) in
    ap (λ (l : List ℕ). take most here ++ l) (joined_part most u n (i + 1) ∙ ap (take (n * most)) next)
    ∙ sym (take-add most (n * most) here)
    ∙ ap (λ (k : ℕ). take k here) e

-- cut, and rejoined
pub rejoined : (most : ℕ) (u : List ℕ) → 1 ≤ most → joined most u (segments_of most (length u)) 0 ≡ u
rejoined most u h =
    let n = segments_of most (length u) in
    joined_part most u n 0
    ∙ ap (λ (k : ℕ). take (n * most) (drop k u)) (zero-mul most)
    ∙ take_all (n * most) u (segments_cover most (length u) h)
