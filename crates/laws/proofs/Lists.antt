-- Parts of lists.
-- Assumes nothing.
use mathlib.Core.Path.{◌≡◌, refl, sym, ap, ◌∙◌}
use mathlib.Core.List.{List, [], ◌∷◌, ◌++◌}
use Prim.Native.Nat.{ℕ, zero, suc, ◌+◌, ◌-◌, ◌≤◌}
use native.Mathlib.Nat.{add-suc, le_of_eq, zero-add, suc-add}
use native.Mathlib.Omega.{arith}
use lib.ListN.{length, get_or, take, drop, length-append, length-drop}
use lib.Seq.{drop-cons, take_all, take-nil}

-- n elements from the place k on, one by one
abbrev pub from : ℕ → ℕ → List ℕ → List ℕ
from zero k l = []
from (suc n) k l = get_or l k 0 ∷ from n (suc k) l

pub firsts : (n k : ℕ) (l : List ℕ) → k + n ≤ length l → take n (drop k l) ≡ from n k l
firsts zero k l h = refl
firsts (suc n) k l h =
    ap (take (suc n)) (drop-cons l k 0 (omega (arith, add-suc k n)))
    ∙ ap (λ (t : List ℕ). get_or l k 0 ∷ t) (firsts n (suc k) l (omega (arith, add-suc k n)))

-- a part that runs to the end, as `&s[a..]` is said, is the rest
pub tail_part : (a : ℕ) (s : List ℕ) → take (length s - a) (drop a s) ≡ drop a s
tail_part a s = take_all (length s - a) (drop a s) (le_of_eq (length-drop a s))

-- a part in the middle, either way
pub take_drop : (k n : ℕ) (l : List ℕ) → take n (drop k l) ≡ drop k (take (k + n) l)
take_drop zero n l = ap (λ (j : ℕ). take j l) (sym (zero-add n))
take_drop (suc k) n [] = take-nil n ∙ ap (drop (suc k)) (sym (take-nil (suc k + n)))
take_drop (suc k) n (x ∷ l) = take_drop k n l ∙ ap (λ (j : ℕ). drop (suc k) (take j (x ∷ l))) (sym (suc-add k n))

-- one element more
pub length_snoc : {A : Type 0} (l : List A) (x : A) → length (l ++ (x ∷ [])) ≡ suc (length l)
length_snoc l x = omega (arith, length-append l (x ∷ []))
