-- A sweep of a list by F, from the first element on, with something carried along: what the list is then, and what is carried at the end.
-- `stored` and `carried` are the parts of what F makes.
-- `Every`: something is so of each element, by its index; `blank` is what `get_or` gives past the end, and no proof looks into it.
use Rattle.std.specs.Prelude.{List, [], ◌∷◌, ℕ, ◌<◌, length, get_or}

abbrev pub Every : {C : Type 0} → C → (C → Type 0) → List C → Type 0
Every blank P ys = (i : ℕ) → i < length ys → P (get_or ys i blank)

module _ {C Y S : Type 0} (stored : S → C) (carried : S → Y) (F : C → Y → S) where
  unfoldable pub sweep_t : List C → Y → List C
  sweep_t [] a = []
  sweep_t (c ∷ cs) a = stored (F c a) ∷ sweep_t cs (carried (F c a))

  unfoldable pub sweep_a : List C → Y → Y
  sweep_a [] a = a
  sweep_a (c ∷ cs) a = sweep_a cs (carried (F c a))
