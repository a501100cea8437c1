-- A sweep (`specs/Sweep.antt` of walks), one turn on: what is to come of the elements that are left is what was to come before it. Where none are
-- left the sweep is done.
-- Assumes nothing.
use Rattle.std.proofs.Common.{◌≡◌, refl, ℕ, ◌+◌, ◌<◌, ◌≤◌, List, ◌∷◌, ◌++◌, length, take, drop, set, get_or, append_assoc, append-nil, add-one, arith}
use Rattle.std.proofs.lemmas.List.{take_more_set, drop-set-lt, take_all, drop_all}
use Rattle.std.proofs.Math.Seq.{drop-cons}
use Rattle.walks.specs.Sweep.{sweep_t, sweep_a}

module _ {C Y S : Type 0} (stored : S → C) (carried : S → Y) (F : C → Y → S) (blank : C) (i : ℕ) (t : List C) (a : Y) (s : S) (within : i < length t) (turned : s ≡ F (get_or t i blank) a) where
  -- those that are left, with the next apart
  next : drop i t ≡ get_or t i blank ∷ drop (i + 1) t
  next = rw add-one (drop-cons t i blank within)

  rest : drop (i + 1) (set t i (stored s)) ≡ drop (i + 1) t
  rest = drop-set-lt (i + 1) t i (stored s) (omega arith)

  pub turn_carries : sweep_a stored carried F (drop (i + 1) (set t i (stored s))) (carried s) ≡ sweep_a stored carried F (drop i t) a
  unfolding sweep_a
  turn_carries = rw (rest, next, turned) refl

  pub turn_stores : take (i + 1) (set t i (stored s)) ++ sweep_t stored carried F (drop (i + 1) (set t i (stored s))) (carried s) ≡ take i t ++ sweep_t stored carried F (drop i t) a
  unfolding sweep_t
  turn_stores = rw (rest, next, take_more_set t i (stored s) within, append_assoc, turned) refl

module _ {C Y S : Type 0} (stored : S → C) (carried : S → Y) (F : C → Y → S) (i : ℕ) (t : List C) (a : Y) (none : length t ≤ i) where
  pub last_carries : sweep_a stored carried F (drop i t) a ≡ a
  unfolding sweep_a
  last_carries = rw (drop_all i t none) refl

  pub last_stores : take i t ++ sweep_t stored carried F (drop i t) a ≡ t
  unfolding sweep_t
  last_stores = rw (drop_all i t none, take_all i t none, append-nil) refl
