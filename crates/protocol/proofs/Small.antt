-- Small laws: tests, phases, marks, the advance of the sender's start.
-- Assumes nothing.
use mathlib.Core.Path.{◌≡◌, refl, sym, ap, ◌∙◌}
use mathlib.Core.Bool.{Bool, true, false, ◌&&◌, true≢false}
use mathlib.Core.List.{List, [], ◌∷◌}
use mathlib.Core.Option.{Option, none, some}
use mathlib.Core.Logic.{◌⊎◌, inl, inr}
use Prim.Native.Nat.{ℕ, zero, suc, ◌≤◌, zero-le, suc-le-suc}
use native.Mathlib.Nat.{le_refl}
use native.Mathlib.Omega.{arith}
use borrow.Author.Tests.{eqb-true, eqb-false}
use lib.Dec.{ltb, eqb}
use lib.ListN.{length}
use Rattle.laws.specs.Choice.{if◌then◌else◌}
use Rattle.laws.proofs.Choice.{both}
use Rattle.protocol.specs.Units.{Segment, first_unit, one_more}
use Rattle.protocol.specs.Ends.{Phase, fresh, enabled, opened, closing, shut, rank, is_open, is_shut, put}
use Rattle.protocol.specs.Sending.{advance}

-- all of three tests held, all of six
pub both3 : (a b d : Bool) → (a && b && d) ≡ true → (a ≡ true) × (b ≡ true) × (d ≡ true)
both3 a b d e =
    let p = both (a && b) d e in
    let q = both a b p.0 in
    (q.0, q.1, p.1)

pub both6 : (a b d x y z : Bool) → (a && b && d && x && y && z) ≡ true
    → (a ≡ true) × (b ≡ true) × (d ≡ true) × (x ≡ true) × (y ≡ true) × (z ≡ true)
both6 a b d x y z e =
    let q = both3 (a && b && d && x) y z e in
    let r = both (a && b && d) x q.0 in
    let p = both3 a b d r.0 in
    (p.0, p.1, p.2, r.1, q.1, q.2)

pub not_true : (a : Bool) → (a ≡ true → ⊥) → a ≡ false
not_true true h = absurd (h refl)
not_true false h = refl

pub none_some : {A : Type 0} {a : A} {o : Option A} → o ≡ none → o ≡ some a → ⊥
none_some p q = let z : ◌≡◌ {A = ℕ} 0 1 = cc in omega arith

pub yes_no : {b : Bool} → b ≡ true → b ≡ false → ⊥
yes_no p q = true≢false (sym p ∙ q)

-- Phases
pub not_shut : (x p : Phase) → ltb (rank x) (rank p) ≡ true → is_shut x ≡ false
not_shut fresh p e = refl
not_shut enabled p e = refl
not_shut opened p e = refl
not_shut closing p e = refl
not_shut shut fresh e = cc
not_shut shut enabled e = cc
not_shut shut opened e = cc
not_shut shut closing e = cc
not_shut shut shut e = cc

pub open_not_shut : (x : Phase) → is_open x ≡ true → is_shut x ≡ false
open_not_shut fresh e = refl
open_not_shut enabled e = refl
open_not_shut opened e = refl
open_not_shut closing e = refl
open_not_shut shut e = cc

pub open_early : (x : Phase) → is_open x ≡ true → rank x ≤ 2
open_early fresh e = omega arith
open_early enabled e = omega arith
open_early opened e = omega arith
open_early closing e = absurd (yes_no e refl)
open_early shut e = absurd (yes_no e refl)

-- Marks
module _ {A : Type 0} (f : ℕ → A) (n : ℕ) (v : A) where
  -- a mark is the new one, or an old one
  pub put_cases : (i : ℕ) → ((i ≡ n) × (put f n v i ≡ v)) ⊎ ((i ≡ n → ⊥) × (put f n v i ≡ f i))
  put_cases i =
      let go = λ (b : Bool). elim b as (λ b. eqb i n ≡ b → ((i ≡ n) × ((if b then v else f i) ≡ v)) ⊎ ((i ≡ n → ⊥) × ((if b then v else f i) ≡ f i))) [
        | true ↦ λ e. inl (eqb-true i n e, refl)
        | false ↦ λ e. inr (eqb-false i n e, refl)
      ]
      in go (eqb i n) refl

-- The advance
pub advance_up : (n : ℕ) (f : ℕ → Bool) (i : ℕ) → i ≤ advance n f i
advance_up zero f i = le_refl i
advance_up (suc n) f i =
    elim (f i) as (λ b. i ≤ (if b then advance n f (suc i) else i)) [
      | true ↦ let h : suc i ≤ advance n f (suc i) = advance_up n f (suc i) in omega arith
      | false ↦ le_refl i
    ]

-- it never passes one that is not marked
pub advance_stop : (n : ℕ) (f : ℕ → Bool) (i j : ℕ) → i ≤ j → f j ≡ false → advance n f i ≤ j
advance_stop zero f i j h e = h
advance_stop (suc n) f i j h e =
    let go = λ (b : Bool). elim b as (λ b. f i ≡ b → (if b then advance n f (suc i) else i) ≤ j) [
      | true ↦ λ q. let apart : i ≡ j → ⊥ = λ x. yes_no q (ap f x ∙ e) in advance_stop n f (suc i) j (omega arith) e
      | false ↦ λ q. h
    ]
    in go (f i) refl

pub first_unit_le : (l : List Segment) → first_unit l ≤ length l
first_unit_le [] = zero-le
first_unit_le (s ∷ l) =
    let longer = λ (m : ℕ). elim m as (λ m. m ≤ length l → one_more m ≤ suc (length l)) [ zero ↦ λ h. zero-le | suc m ↦ λ h. suc-le-suc h ]
    in
    elim s.last as (λ t. (if t then 1 else one_more (first_unit l)) ≤ suc (length l)) [
      | true ↦ omega arith
      | false ↦ longer (first_unit l) (first_unit_le l)
    ]
