-- Laws of octets laid in a memory, and of segments filed in its slots: the slot holds what was filed, and all else is as it was.
-- Assumes nothing.
use mathlib.Core.Path.{◌≡◌, refl, sym, ap, ap₂, ◌∙◌, subst}
use mathlib.Core.Logic.{◌⊎◌, inl, inr, ⊎_elim}
use mathlib.Core.List.{List, [], ◌∷◌, ◌++◌, append_assoc}
use Prim.Native.Nat.{ℕ, ◌+◌, ◌-◌, ◌*◌, ◌≤◌, ◌<◌}
use native.Mathlib.Nat.{add-zero, mul-le-mul_right, suc-mul}
use native.Mathlib.Numerals.{add-one}
use native.Mathlib.Omega.{arith}
use lib.ListN.{length, get_or, set, take, drop, length-append, length-drop, length-set, take-append-drop}
use lib.Seq.{length-take-le, take_at, drop_at, drop-drop, drop-append-add, take-append-le, take-take, get_or-set_same, get_or-set_other, set_split}
use Rattle.laws.proofs.Lists.{take_drop}
use Rattle.laws.proofs.Numbers.{either_side}
use Rattle.slots.specs.Slots.{Sized, laid, segment_in}

-- ---- octets laid in a memory

module _ (m : List ℕ) (at : ℕ) (p : List ℕ) (inside : at + length p ≤ length m) where
  front : length (take at m) ≡ at
  front = length-take-le at m (omega arith)

  pub laid_length : length (laid m at p) ≡ length m
  unfolding laid
  laid_length = simp (length-append, length-drop) (omega (arith, front))

  rest : drop at (laid m at p) ≡ p ++ drop (at + length p) m
  unfolding laid
  rest = drop_at (take at m) (p ++ drop (at + length p) m) at front

  -- what was laid
  pub laid_here : take (length p) (drop at (laid m at p)) ≡ p
  laid_here = ap (take (length p)) rest ∙ take_at p (drop (at + length p) m) (length p) refl

  -- what stands before
  pub laid_before : (k : ℕ) → k ≤ at → take k (laid m at p) ≡ take k m
  unfolding laid
  laid_before k h = take-append-le k (take at m) (p ++ drop (at + length p) m) (omega (arith, front)) ∙ take-take k at m h

  -- what stands behind
  pub laid_after : (k : ℕ) → at + length p ≤ k → drop k (laid m at p) ≡ drop k m
  laid_after k h =
      let d = k - (at + length p) in
      let e : at + (length p + d) ≡ k = omega arith in
      let g : at + length p + d ≡ k = omega arith in
      ap (λ (j : ℕ). drop j (laid m at p)) (sym e)
      ∙ sym (drop-drop (length p + d) at (laid m at p))
      ∙ ap (drop (length p + d)) rest
      ∙ drop-append-add p (drop (at + length p) m) d
      ∙ drop-drop d (at + length p) m
      ∙ ap (λ (j : ℕ). drop j m) g

  -- a part elsewhere
  pub laid_elsewhere : (from n : ℕ) → (from + n ≤ at) ⊎ (at + length p ≤ from) → take n (drop from (laid m at p)) ≡ take n (drop from m)
  laid_elsewhere from n (inl before) =
      take_drop from n (laid m at p) ∙ ap (drop from) (laid_before (from + n) before) ∙ sym (take_drop from n m)
  laid_elsewhere from n (inr behind) = ap (take n) (laid_after from behind)

  -- one part behind the other is both
  pub laid_on : (q : List ℕ) → laid (laid m at p) (at + length p) q ≡ laid m at (p ++ q)
  unfolding laid
  laid_on q =
      let n = at + length p in
      let head : length (take at m ++ p) ≡ n = simp length-append (omega (arith, front)) in
      let both : n + length q ≡ at + length (p ++ q) = simp length-append (omega arith) in
      let k : n ≤ n + length q = omega arith in
      let first : take n (laid m at p) ≡ take at m ++ p =
      ap (take n) (sym (append_assoc (take at m) p (drop n m))) ∙ take_at (take at m ++ p) (drop n m) n head in
      let last : drop (n + length q) (laid m at p) ≡ drop (at + length (p ++ q)) m =
      laid_after (n + length q) k ∙ ap (λ (j : ℕ). drop j m) both in
      ap₂ (λ (a b : List ℕ). a ++ (q ++ b)) first last
      ∙ append_assoc (take at m) p (q ++ drop (at + length (p ++ q)) m)
      ∙ ap (λ (l : List ℕ). take at m ++ l) (sym (append_assoc p q (drop (at + length (p ++ q)) m)))

pub laid_none : (m : List ℕ) (at : ℕ) → laid m at [] ≡ m
unfolding laid
laid_none m at = ap (λ (k : ℕ). take at m ++ drop k m) (add-zero at) ∙ take-append-drop at m

laid_one : (m : List ℕ) (at x : ℕ) → at < length m → set m at x ≡ laid m at (x ∷ [])
unfolding laid
laid_one m at x h = set_split m at x h ∙ ap (λ (k : ℕ). take at m ++ (x ∷ drop k m)) (sym (add-one at))

-- an octet written and a part laid behind it are laid together
pub laid_led : (m : List ℕ) (at x : ℕ) (p : List ℕ) → at < length m → laid (set m at x) (at + 1) p ≡ laid m at (x ∷ p)
laid_led m at x p h = ap (λ (l : List ℕ). laid l (at + 1) p) (laid_one m at x h) ∙ laid_on m at (x ∷ []) (omega arith) p

-- a part copied to the n places from the place `at` on, which are as many as it has, is laid there
pub placed : (m : List ℕ) (at n : ℕ) (p q : List ℕ) → q ≡ p → n ≡ length p → take at m ++ (q ++ drop n (drop at m)) ≡ laid m at p
unfolding laid
placed m at n p q e k =
    ap₂ (λ (a : List ℕ) (b : ℕ). take at m ++ (a ++ drop b (drop at m))) e k
    ∙ ap (λ (l : List ℕ). take at m ++ (p ++ l)) (drop-drop (length p) at m)

-- ---- slots lie one after the other

-- slot s of n, of P octets each, ends within them
pub slot_in_lem : (s n P : ℕ) → s < n → s * P + P ≤ n * P
slot_in_lem s n P h = subst (λ (k : ℕ). k ≤ n * P) (suc-mul s P) (mul-le-mul_right P h)

-- ---- a segment filed: the octets p in slot s
module _ (slots most : ℕ) (m lens : List ℕ) (s : ℕ) (p : List ℕ) (sized : Sized slots most m lens) (inside : s < slots)
    (short : length p ≤ most) where
  fits : s * most + length p ≤ length m
  fits = omega (arith, slot_in_lem s slots most inside)

  pub filed_sized : Sized slots most (laid m (s * most) p) (set lens s (length p))
  filed_sized =
      record {
        few = sized.few;
        short = sized.short;
        each = length-set lens s (length p) ∙ sized.each;
        exact = laid_length m (s * most) p fits ∙ sized.exact;
      }

  -- the slot holds it
  pub filed_same : segment_in most (laid m (s * most) p) (set lens s (length p)) s ≡ p
  filed_same =
      ap (λ (k : ℕ). take k (drop (s * most) (laid m (s * most) p))) (get_or-set_same lens s (length p) 0 (omega arith))
      ∙ laid_here m (s * most) p fits

  -- the slot's octets past it stay
  pub laid_past : drop (length p) (take most (drop (s * most) (laid m (s * most) p))) ≡ drop (length p) (take most (drop (s * most) m))
  laid_past =
      rest_of (laid m (s * most) p)
      ∙ ap (take (most - length p)) (laid_after m (s * most) p fits (s * most + length p) (omega arith))
      ∙ sym (rest_of m)
    where
      rest_of : (l : List ℕ) → drop (length p) (take most (drop (s * most) l)) ≡ take (most - length p) (drop (s * most + length p) l)
      rest_of l =
          let e : most ≡ length p + (most - length p) = omega arith in
          ap (λ (k : ℕ). drop (length p) (take k (drop (s * most) l))) e
          ∙ sym (take_drop (length p) (most - length p) (drop (s * most) l))
          ∙ ap (take (most - length p)) (drop-drop (length p) (s * most) l)

  -- the first n octets of another slot stay
  part_other : (j n : ℕ) → (j ≡ s → ⊥) → n ≤ most → take n (drop (j * most) (laid m (s * most) p)) ≡ take n (drop (j * most) m)
  part_other j n d h =
      laid_elsewhere m (s * most) p fits (j * most) n
      (⊎_elim (λ b. inl (omega (arith, slot_in_lem j s most b))) (λ a. inr (omega (arith, slot_in_lem s j most a))) (either_side j s d))

  -- what is filed in another slot stays
  pub filed_other : (j : ℕ) → (j ≡ s → ⊥) → get_or lens j 0 ≤ most
      → segment_in most (laid m (s * most) p) (set lens s (length p)) j ≡ segment_in most m lens j
  filed_other j d h =
      ap (λ (k : ℕ). take k (drop (j * most) (laid m (s * most) p))) (get_or-set_other lens s j (length p) 0 d)
      ∙ part_other j (get_or lens j 0) d h

  -- and all octets of another slot
  pub slot_other : (j : ℕ) → (j ≡ s → ⊥) → take most (drop (j * most) (laid m (s * most) p)) ≡ take most (drop (j * most) m)
  slot_other j d = part_other j most d (omega arith)
