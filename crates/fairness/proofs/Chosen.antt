-- The one that is chosen has the least grade.
-- Assumes nothing.
use mathlib.Core.Path.{◌≡◌, refl, ap, subst}
use mathlib.Core.Bool.{Bool, true, false}
use mathlib.Core.List.{List, [], ◌∷◌}
use Prim.Native.Nat.{ℕ, zero, suc, ◌+◌, ◌≤◌, ◌<◌}
use native.Mathlib.Nat.{not-suc-le-zero, le_of_suc-le-suc}
use native.Mathlib.Omega.{arith}
use borrow.Author.Tests.{leb-true, leb-false}
use lib.Dec.{leb}
use lib.ListN.{length}
use Rattle.channel.specs.declared.record.Channel.{Channel}
use Rattle.table.specs.declared.looking.Look.{Look}
use Rattle.table.specs.Looking.{graded, chosen_from, chosen}
use Rattle.table.specs.Serving.{record_at}

module _ (look : Look) (lines : List ℕ) where
  from_least : (j : ℕ) (t : List Channel) (i : ℕ) → i < length t → (chosen_from look lines j t).grade ≤ graded look lines (j + i) (record_at t i)
  unfolding chosen_from
  from_least j [] i h = absurd (not-suc-le-zero h)
  from_least j (c ∷ t) i h =
      go (leb (graded look lines j c) (chosen_from look lines (j + 1) t).grade) refl (λ k l. from_least (j + 1) t k l) i h
    where
      first : j + 0 ≡ j
      first = omega arith

      Later : Type 0
      Later = (k : ℕ) → k < length t → (chosen_from look lines (j + 1) t).grade ≤ graded look lines (j + 1 + k) (record_at t k)

      next : (k : ℕ) → j + 1 + k ≡ j + suc k
      next k = omega arith

      go : (b : Bool) → leb (graded look lines j c) (chosen_from look lines (j + 1) t).grade ≡ b → Later
          → (k : ℕ) → k < suc (length t) → (chosen_from look lines j (c ∷ t)).grade ≤ graded look lines (j + k) (record_at (c ∷ t) k)
      go true e later zero l = simp (e) (omega (arith, ap (λ (n : ℕ). graded look lines n c) first))
      go true e later (suc k) l =
          simp (e) (omega (arith, leb-true (graded look lines j c) (chosen_from look lines (j + 1) t).grade e, later k (le_of_suc-le-suc l), ap (λ (n : ℕ). graded look lines n (record_at t k)) (next k)))
      go false e later zero l = simp (e) (omega (arith, leb-false (graded look lines j c) (chosen_from look lines (j + 1) t).grade e, ap (λ (n : ℕ). graded look lines n c) first))
      go false e later (suc k) l =
          simp (e) (omega (arith, later k (le_of_suc-le-suc l), ap (λ (n : ℕ). graded look lines n (record_at t k)) (next k)))

  pub chosen_least : (t : List Channel) (i : ℕ) → i < length t → (chosen look lines t).grade ≤ graded look lines i (record_at t i)
  chosen_least t i h =
      let e : 0 + i ≡ i = omega arith in
      subst (λ (n : ℕ). (chosen look lines t).grade ≤ graded look lines n (record_at t i)) e (from_least 0 t i h)
