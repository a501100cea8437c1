-- A fold (`specs/Fold.antt` of walks) over one element more is one turn more.
-- Assumes nothing.
use Rattle.std.proofs.Common.{◌≡◌, ℕ, zero, suc, add-one, ◌+◌, ◌<◌, List, [], ◌∷◌, length, take, get_or, arith}
use Rattle.walks.specs.Fold.{fold_from}

module _ {Y A B : Type 0} (S : Y → A → List B → ℕ → Y) (es : List B) (blank : A) where
  more_from : (k j i : ℕ) (v : Y) (xs : List A) → k < length xs → i ≡ j + k → fold_from S es j v (take (suc k) xs) ≡ S (fold_from S es j v (take k xs)) (get_or xs k blank) es i
  unfolding fold_from
  more_from k j i v [] h e = absurd (omega arith)
  more_from zero j i v (x ∷ xs) h e = let same : j ≡ i = omega arith in cc
  more_from (suc k) j i v (x ∷ xs) h e = more_from k (suc j) i (S v x es j) xs (omega arith) (omega arith)

  pub fold_more : (k : ℕ) (v : Y) (xs : List A) → k < length xs → fold_from S es 0 v (take (k + 1) xs) ≡ S (fold_from S es 0 v (take k xs)) (get_or xs k blank) es k
  fold_more k v xs h = rw add-one (more_from k 0 k v xs h (omega arith))

  -- of what a turn makes of what was carried
  pub fold_turned : (k : ℕ) (v a b : Y) (xs : List A) → k < length xs → a ≡ fold_from S es 0 v (take k xs) → b ≡ S a (get_or xs k blank) es k → b ≡ fold_from S es 0 v (take (k + 1) xs)
  fold_turned k v a b xs h p q = cc (fold_more k v xs h)
