-- Where the last complete unit ends: what lies past that is the unit on the way, and adds no unit.
-- Assumes nothing.
use mathlib.Core.Path.{◌≡◌, refl, sym, ap, ◌∙◌}
use mathlib.Core.Bool.{Bool, true, false}
use mathlib.Core.List.{List, [], ◌∷◌, ◌++◌}
use Prim.Native.Nat.{ℕ, zero, suc, ◌+◌, ◌-◌, ◌≤◌}
use native.Mathlib.Omega.{arith}
use borrow.Author.Tests.{ltb-true, ltb-false}
use lib.Dec.{ltb}
use lib.ListN.{length, take, drop, take-append-drop}
use lib.Seq.{take-nil, take-add, take-length, length-take-le}
use Rattle.laws.specs.Choice.{if◌then◌else◌}
use Rattle.protocol.specs.Units.{Segment, units, endings, whole_to, one_more, first_unit, on_way}
use Rattle.protocol.proofs.Cutting.{length_units, units_take, endings_append, whole_to_append}

-- one segment more
pub on_way_snoc : (n : ℕ) (l : List Segment) (g : Segment) → on_way n (l ++ (g ∷ [])) ≡ (if g.last then 0 else suc (on_way n l))
on_way_snoc n [] g = refl
on_way_snoc n (s ∷ l) g =
    elim s.last as
    (λ t. (if t then on_way 0 (l ++ (g ∷ [])) else on_way (suc n) (l ++ (g ∷ [])))
    ≡ (if g.last then 0 else suc (if t then on_way 0 l else on_way (suc n) l))) [
      | true ↦ on_way_snoc 0 l g
      | false ↦ on_way_snoc (suc n) l g
    ]

-- between the answer so far and the end
pub whole_up : (b i : ℕ) (l : List Segment) → b ≤ i → (b ≤ whole_to b i l) × (whole_to b i l ≤ i + length l)
whole_up b i [] h = omega arith
whole_up b i (s ∷ l) h =
    elim s.last as
    (λ t.
    (b ≤ (if t then whole_to (suc i) (suc i) l else whole_to b (suc i) l))
    × ((if t then whole_to (suc i) (suc i) l else whole_to b (suc i) l) ≤ i + suc (length l))) [
      | true ↦ let p : suc i ≤ suc i = omega arith in omega (arith, whole_up (suc i) (suc i) l p)
      | false ↦ let p : b ≤ suc i = omega arith in omega (arith, whole_up b (suc i) l p)
    ]

-- the unit on the way is all that lies past it
pub whole_way : (n b i : ℕ) (l : List Segment) → n + b ≡ i → whole_to b i l + on_way n l ≡ i + length l
whole_way n b i [] h = omega arith
whole_way n b i (s ∷ l) h =
    elim s.last as
    (λ t.
    (if t then whole_to (suc i) (suc i) l else whole_to b (suc i) l) + (if t then on_way 0 l else on_way (suc n) l) ≡ i + suc (length l)) [
      | true ↦ let p : 0 + suc i ≡ suc i = omega arith in omega (arith, whole_way 0 (suc i) (suc i) l p)
      | false ↦ let p : suc n + b ≡ suc i = omega arith in omega (arith, whole_way (suc n) b (suc i) l p)
    ]

pub whole_in : (l : List Segment) → whole_to 0 0 l + on_way 0 l ≡ length l
whole_in l = let p : 0 + 0 ≡ 0 = omega arith in omega (arith, whole_way 0 0 0 l p)

-- where no unit ends, the answer stays
whole_none : (b i : ℕ) (l : List Segment) → endings l ≡ 0 → whole_to b i l ≡ b
whole_none b i [] e = refl
whole_none b i (s ∷ l) e =
    let go = λ (t : Bool). elim t as
    (λ t. (if t then suc (endings l) else endings l) ≡ 0 → (if t then whole_to (suc i) (suc i) l else whole_to b (suc i) l) ≡ b) [
      | true ↦ λ p. absurd (omega arith)
      | false ↦ λ p. whole_none b (suc i) l p
    ]
    in go s.last e

-- no unit ends past it
endings_whole : (b i : ℕ) (l : List Segment) → b ≤ i → endings (take (whole_to b i l - i) l) ≡ endings l
endings_whole b i [] h = ap endings (take-nil (b - i))
endings_whole b i (s ∷ l) h =
    let go = λ (t : Bool). elim t as
    (λ t. endings
    (take
    ((if t then whole_to (suc i) (suc i) l else whole_to b (suc i) l) - i)
    (record { first = s.first; last = t; octets = s.octets } ∷ l))
    ≡ (if t then suc (endings l) else endings l)) [
      | true ↦
          let p : suc i ≤ suc i = omega arith in
          let f = whole_to (suc i) (suc i) l in
          let e : f - i ≡ suc (f - suc i) = omega (arith, whole_up (suc i) (suc i) l p) in
          rw e (ap suc (endings_whole (suc i) (suc i) l p))
      | false ↦
          let p : b ≤ suc i = omega arith in
          let f = whole_to b (suc i) l in
          let ih : endings (take (f - suc i) l) ≡ endings l = endings_whole b (suc i) l p in
          let near = λ (z : Bool). elim z as
          (λ z. ltb i f ≡ z → endings (take (f - i) (record { first = s.first; last = false; octets = s.octets } ∷ l)) ≡ endings l) [
            | true ↦ λ q.
                let e : f - i ≡ suc (f - suc i) = omega (arith, ltb-true i f q) in
                rw e ih
            | false ↦ λ q.
                let e : f - i ≡ 0 = omega (arith, ltb-false i f q) in
                let e₁ : f - suc i ≡ 0 = omega (arith, ltb-false i f q) in
                rw e (rw e₁ at ih)
          ]
          in near (ltb i f) refl
    ]
    in go s.last

first_none : (l : List Segment) → endings l ≡ 0 → first_unit l ≡ 0
first_none [] h = refl
first_none (s ∷ l) h =
    let go = λ (t : Bool). elim t as (λ t. (if t then suc (endings l) else endings l) ≡ 0 → (if t then 1 else one_more (first_unit l)) ≡ 0) [
      | true ↦ λ q. absurd (omega arith)
      | false ↦ λ q. ap one_more (first_none l q)
    ]
    in go s.last h

first_take : (m : ℕ) (l : List Segment) → endings (take m l) ≡ endings l → first_unit (take m l) ≡ first_unit l
first_take zero l h = sym (first_none l (sym h))
first_take (suc m) [] h = refl
first_take (suc m) (s ∷ l) h =
    let go = λ (t : Bool). elim t as
    (λ t. (if t then suc (endings (take m l)) else endings (take m l)) ≡ (if t then suc (endings l) else endings l)
    → (if t then 1 else one_more (first_unit (take m l))) ≡ (if t then 1 else one_more (first_unit l))) [
      | true ↦ λ q. refl
      | false ↦ λ q. ap one_more (first_take m l q)
    ]
    in go s.last h

-- From a unit's first segment on: n segments up to where the last complete unit ends
module _ (l : List Segment) (base n : ℕ) (upto : n + base ≡ whole_to 0 0 l) where
  abbrev pub part : List Segment
  part = take n (drop base l)

  pub whole_fits : n + base ≤ length l
  whole_fits = omega (arith, whole_in l)

  same_endings : endings part ≡ endings (drop base l)
  same_endings =
      let p : 0 ≤ 0 = omega arith in
      let e : whole_to 0 0 l - 0 ≡ base + n = omega arith in
      let all : endings (take (base + n) l) ≡ endings l = ap (λ (k : ℕ). endings (take k l)) (sym e) ∙ endings_whole 0 0 l p in
      let left : endings (take (base + n) l) ≡ endings (take base l) + endings part
      = ap endings (take-add base n l) ∙ endings_append (take base l) part
      in
      let right : endings l ≡ endings (take base l) + endings (drop base l)
      = ap endings (sym (take-append-drop base l)) ∙ endings_append (take base l) (drop base l)
      in
      omega arith

  -- they have all the units
  pub whole_units : units [] part ≡ units [] (drop base l)
  whole_units =
      units_take [] n (drop base l)
      ∙ ap (λ (k : ℕ). take k (units [] (drop base l))) (same_endings ∙ sym (length_units [] (drop base l)))
      ∙ take-length (units [] (drop base l))

  pub whole_first : first_unit part ≡ first_unit (drop base l)
  whole_first = first_take n (drop base l) same_endings

  -- where there are some, a unit ends among them
  pub whole_some : 1 ≤ n → units [] (drop base l) ≡ [] → ⊥
  whole_some some e =
      let z : 0 ≤ 0 = omega arith in
      let none_ends : endings (drop base l) ≡ 0 = sym (length_units [] (drop base l)) ∙ ap length e in
      let all : whole_to 0 0 l ≡ whole_to (whole_to 0 0 (take base l)) (0 + length (take base l)) (drop base l)
      = ap (whole_to 0 0) (sym (take-append-drop base l)) ∙ whole_to_append 0 0 (take base l) (drop base l)
      in
      omega (
        arith,
        all,
        whole_none (whole_to 0 0 (take base l)) (0 + length (take base l)) (drop base l) none_ends,
        whole_up 0 0 (take base l) z,
        length-take-le base l (omega (arith, whole_fits)),
      )
