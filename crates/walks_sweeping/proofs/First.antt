-- Of a fold (`specs/Fold.antt` of walks) that comes to rest: once what is carried is spent nothing changes it, and from the turn numbered `most` on
-- every turn leaves it spent. So the elements behind the first `most + 1` do not count.
--     first_count      the fold over the first k is the fold over all, where k are all or more than `most`
-- Assumes nothing.
use mathlib.Core.Path.{◌≡◌, refl, sym, ap, ◌∙◌}
use mathlib.Core.List.{List, [], ◌∷◌}
use Prim.Native.Nat.{ℕ, zero, suc, ◌+◌, ◌≤◌, ◌<◌}
use native.Mathlib.Omega.{arith}
use lib.ListN.{length, take}
use Rattle.walks.specs.Fold.{fold_from}

module _ {Y A B : Type 0} (S : Y → A → List B → ℕ → Y) (es : List B) (Spent : Y → Type 0) (most : ℕ)
    (stays : (v : Y) (x : A) (j : ℕ) → Spent v → S v x es j ≡ v) (late : (v : Y) (x : A) (j : ℕ) → most ≤ j → Spent (S v x es j)) where
  rests : (j : ℕ) (v : Y) (ys : List A) → Spent v → fold_from S es j v ys ≡ v
  unfolding fold_from
  rests j v [] p = refl
  rests j v (x ∷ xs) p = ap (λ (w : Y). fold_from S es (suc j) w xs) (stays v x j p) ∙ rests (suc j) v xs p

  first_from : (k j : ℕ) (v : Y) (ys : List A) → (most < j → Spent v) → (k < length ys → most < j + k) → fold_from S es j v (take k ys) ≡ fold_from S es j v ys
  unfolding fold_from
  first_from zero j v [] p q = refl
  first_from (suc k) j v [] p q = refl
  first_from zero j v (x ∷ xs) p q =
      let some : 0 < suc (length xs) = omega arith in
      let far : most < j + 0 = q some in
      sym (rests j v (x ∷ xs) (p (omega (arith, far))))
  first_from (suc k) j v (x ∷ xs) p q =
      first_from k (suc j) (S v x es j) xs (λ h. late v x j (omega (arith, h))) (λ h.
      let more : suc k < suc (length xs) = omega (arith, h) in
      let far : most < j + suc k = q more in
      omega (arith, far))

  pub first_count : (v : Y) (ys : List A) (k : ℕ) → (k < length ys → most < k) → fold_from S es 0 v (take k ys) ≡ fold_from S es 0 v ys
  first_count v ys k q =
      first_from k 0 v ys (λ h. absurd (omega (arith, h))) (λ h.
      let far : most < k = q h in
      omega (arith, far))
