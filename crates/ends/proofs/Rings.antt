-- Places on the ring, one step and many back, and marks that are set or cleared.
-- Assumes nothing.
use mathlib.Core.Path.{◌≡◌}
use mathlib.Core.Logic.{◌⊎◌, inl, inr, ⊎_elim}
use mathlib.Core.List.{List, [], ◌∷◌}
use Prim.Native.Nat.{ℕ, zero, suc, ◌+◌, ◌-◌, ◌≤◌, ◌<◌}
use native.Mathlib.Omega.{arith}
use lib.ListN.{get_or, set}
use Rattle.slots.specs.Ring.{round_of, back_of}
use Rattle.slots.proofs.RingLaws.{round_cases, round_add}

-- ---- places: with p on the ring, its place n back is one of two numbers

module _ (slots p n : ℕ) (on : p < slots) (few : n ≤ slots) where
  pub back_cases : ((n ≤ p) × (back_of slots p n ≡ p - n)) ⊎ ((p < n) × (back_of slots p n ≡ p + slots - n))
  unfolding back_of
  back_cases = ⊎_elim (λ w. inr (omega arith, omega arith)) (λ w. inl (omega arith, omega arith)) (round_cases slots (p + (slots - n)))

-- a back, and then b back
pub back_back : (slots p a b : ℕ) → p < slots → a + b ≤ slots → back_of slots (back_of slots p a) b ≡ back_of slots p (a + b)
back_back slots p a b on few =
    ⊎_elim
    (λ u. ⊎_elim (λ v. ⊎_elim (λ w. omega arith) (λ w. omega arith) (last (omega arith))) (λ v. ⊎_elim (λ w. omega arith) (λ w. omega arith) (last (omega arith))) (next (omega arith)))
    (λ u. ⊎_elim (λ v. ⊎_elim (λ w. omega arith) (λ w. omega arith) (last (omega arith))) (λ v. ⊎_elim (λ w. omega arith) (λ w. omega arith) (last (omega arith))) (next (omega arith)))
    (back_cases slots p a on (omega arith))
  where
    next : back_of slots p a < slots → ((b ≤ back_of slots p a) × (back_of slots (back_of slots p a) b ≡ back_of slots p a - b)) ⊎ ((back_of slots p a < b) × (back_of slots (back_of slots p a) b ≡ back_of slots p a + slots - b))
    next h = back_cases slots (back_of slots p a) b h (omega arith)

    last : p < slots → ((a + b ≤ p) × (back_of slots p (a + b) ≡ p - (a + b))) ⊎ ((p < a + b) × (back_of slots p (a + b) ≡ p + slots - (a + b)))
    last h = back_cases slots p (a + b) h few

-- one on, and one more back
pub back_next : (slots p b : ℕ) → p < slots → b < slots → back_of slots (round_of slots (p + 1)) (b + 1) ≡ back_of slots p b
back_next slots p b on few =
    ⊎_elim
    (λ u. ⊎_elim (λ v. ⊎_elim (λ w. omega arith) (λ w. omega arith) (last on)) (λ v. ⊎_elim (λ w. omega arith) (λ w. omega arith) (last on)) (next (omega arith)))
    (λ u. ⊎_elim (λ v. ⊎_elim (λ w. omega arith) (λ w. omega arith) (last on)) (λ v. ⊎_elim (λ w. omega arith) (λ w. omega arith) (last on)) (next (omega arith)))
    (round_cases slots (p + 1))
  where
    next : round_of slots (p + 1) < slots → ((b + 1 ≤ round_of slots (p + 1)) × (back_of slots (round_of slots (p + 1)) (b + 1) ≡ round_of slots (p + 1) - (b + 1))) ⊎ ((round_of slots (p + 1) < b + 1) × (back_of slots (round_of slots (p + 1)) (b + 1) ≡ round_of slots (p + 1) + slots - (b + 1)))
    next h = back_cases slots (round_of slots (p + 1)) (b + 1) h (omega arith)

    last : p < slots → ((b ≤ p) × (back_of slots p b ≡ p - b)) ⊎ ((p < b) × (back_of slots p b ≡ p + slots - b))
    last h = back_cases slots p b h (omega arith)

-- b back and n on is so many fewer back
pub back_on : (slots p b n : ℕ) → p < slots → b ≤ slots → n ≤ b → 1 ≤ n → round_of slots (back_of slots p b + n) ≡ back_of slots p (b - n)
back_on slots p b n on few le some =
    ⊎_elim
    (λ u. ⊎_elim (λ v. ⊎_elim (λ w. omega arith) (λ w. omega arith) (less on)) (λ v. ⊎_elim (λ w. omega arith) (λ w. omega arith) (less on)) (round_cases slots (back_of slots p b + n)))
    (λ u. ⊎_elim (λ v. ⊎_elim (λ w. omega arith) (λ w. omega arith) (less on)) (λ v. ⊎_elim (λ w. omega arith) (λ w. omega arith) (less on)) (round_cases slots (back_of slots p b + n)))
    (back_cases slots p b on few)
  where
    less : p < slots → ((b - n ≤ p) × (back_of slots p (b - n) ≡ p - (b - n))) ⊎ ((p < b - n) × (back_of slots p (b - n) ≡ p + slots - (b - n)))
    less h = back_cases slots p (b - n) h (omega arith)

-- the i-th place from where one is n back, counted from where one is
pub back_then : (slots f n i : ℕ) → f < slots → n ≤ slots → i < n → round_of slots (back_of slots f n + i) ≡ round_of slots (f + (slots - n + i))
unfolding back_of
back_then slots f n i on few less = round_add slots f (slots - n) i (omega arith)

-- ---- marks

-- a mark that is set stays so, where what is stored is not 0
pub set_some : (m : List ℕ) (s j v : ℕ) → (get_or m j 0 ≡ 0 → ⊥) → (v ≡ 0 → ⊥) → get_or (set m s v) j 0 ≡ 0 → ⊥
set_some [] s j v h n e = h e
set_some (x ∷ m) zero zero v h n e = n e
set_some (x ∷ m) zero (suc j) v h n e = h e
set_some (x ∷ m) (suc s) zero v h n e = h e
set_some (x ∷ m) (suc s) (suc j) v h n e = set_some m s j v h n e
