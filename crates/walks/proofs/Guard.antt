-- A test that a branch took, as an equation; and of a call that is done only where a test holds (`done_by`).
-- Assumes nothing.
use mathlib.Core.Path.{◌≡◌, refl, sym, ap}
use mathlib.Core.Bool.{Bool, true, false, not}
use mathlib.Core.List.{List}
use Prim.Native.Nat.{ℕ}
use lib.Dec.{T}
use Rattle.walks.specs.Serving.{Changed, changes, done_by}

pub held : (z : Bool) → T z → z ≡ true
held true h = refl
held false h = absurd h

pub failed : (z : Bool) → T (not z) → z ≡ false
failed true h = absurd h
failed false h = refl

module _ {N C : Type 0} (bad : N) where
  pub did : (z : Bool) (ys : List C) (li : List ℕ) (w : Changed N C) → z ≡ true → w ≡ done_by bad z ys li w
  unfolding done_by
  did z ys li w e = ap (λ (x : Bool). done_by bad x ys li w) (sym e)

  pub undone : (z : Bool) (ys : List C) (li : List ℕ) (w : Changed N C) → z ≡ false → changes bad ys li ≡ done_by bad z ys li w
  unfolding done_by
  undone z ys li w e = ap (λ (x : Bool). done_by bad x ys li w) (sym e)
