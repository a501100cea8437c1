-- A fold over a list, each element with its index; `es` is what every turn is lent.
use Rattle.std.specs.Prelude.{List, [], ◌∷◌, ℕ, suc}

module _ {Y A B : Type 0} (S : Y → A → List B → ℕ → Y) (es : List B) where
  unfoldable pub fold_from : ℕ → Y → List A → Y
  fold_from j v [] = v
  fold_from j v (x ∷ xs) = fold_from (suc j) (S v x es j) xs
