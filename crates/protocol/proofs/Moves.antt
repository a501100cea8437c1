-- The move of the receiver's start past every leading segment filed.
-- Assumes nothing.
use mathlib.Core.Path.{◌≡◌, refl, ◌∙◌}
use mathlib.Core.Bool.{Bool, true, false}
use mathlib.Core.List.{List, [], ◌∷◌, ◌++◌}
use mathlib.Core.Option.{Option, none, some}
use Prim.Native.Nat.{ℕ, zero, suc, ◌+◌, ◌≤◌, ◌<◌}
use native.Mathlib.Nat.{le_refl}
use native.Mathlib.Omega.{arith}
use lib.ListN.{length, take, get_or}
use lib.Seq.{take-suc, take-append-le}
use Rattle.laws.specs.Choice.{if◌then◌else◌}
use Rattle.laws.proofs.Lists.{length_snoc}
use Rattle.protocol.specs.Units.{Segment, blank, on_way, fitting}
use Rattle.protocol.specs.Ends.{Limits}
use Rattle.protocol.specs.Receiving.{moved_past, moved}
use Rattle.protocol.proofs.Small.{yes_no}

module _ (c : Limits) (line : List Segment) (next : ℕ) where
  pub record Moved (l r : List Segment) : Type 0 where
    pub prefix : r ≡ take (length r) line
    pub inside : length r ≤ next
    pub longer : length l ≤ length r
    pub keeps : (m : ℕ) → m ≤ length l → take m r ≡ take m l

  stay : (l : List Segment) → l ≡ take (length l) line → length l ≤ next → Moved l l
  stay l p q = record { prefix = p; inside = q; longer = le_refl (length l); keeps = λ m h. refl }

  -- one segment more
  snoc : (l : List Segment) (g : Segment) → l ≡ take (length l) line → length l < length line → get_or line (length l) blank ≡ g
      → l ++ (g ∷ []) ≡ take (length (l ++ (g ∷ []))) line
  snoc l g p q e = rw (length_snoc l g) (cc (take-suc line (length l) blank q))

  further : (l : List Segment) (g : Segment) (r : List Segment) → Moved (l ++ (g ∷ [])) r → Moved l r
  further l g r m =
      let e : length (l ++ (g ∷ [])) ≡ suc (length l) = length_snoc l g in
      let long : suc (length l) ≤ length r = omega (arith, m.longer) in
      record {
        prefix = m.prefix;
        inside = m.inside;
        longer = omega arith;
        keeps = λ n h. m.keeps n (omega arith) ∙ take-append-le n l (g ∷ []) h;
      }

  module _ (filled : next ≤ length line) (f : ℕ → Option Segment)
      (same : (i : ℕ) (g : Segment) → f i ≡ some g → (i < next) × (get_or line i blank ≡ g)) where
    pub move_keeps : (n : ℕ) (l : List Segment) → l ≡ take (length l) line → length l ≤ next → Moved l (moved c n f l).0
    move_keeps zero l p q = stay l p q
    move_keeps (suc n) l p q =
        let fit = λ (g : Segment) (e : f (length l) ≡ some g) (b : Bool). elim b as (λ b. Moved l (if b then moved c n f (l ++ (g ∷ [])) else (l, false)).0) [
          | true ↦
              let at : (length l < next) × (get_or line (length l) blank ≡ g) = same (length l) g e in
              further
              l
              g
              (moved c n f (l ++ (g ∷ []))).0
              (move_keeps n (l ++ (g ∷ [])) (snoc l g p (omega arith) at.1) (omega (arith, length_snoc l g)))
          | false ↦ stay l p q
        ]
        in
        let go = λ (o : Option Segment). elim o as (λ o. f (length l) ≡ o → Moved l (moved_past c o (λ g. moved c n f (l ++ (g ∷ []))) l).0) [
          | none ↦ λ e. stay l p q
          | some g ↦ λ e. fit g e (fitting c.segments (on_way 0 l) g)
        ]
        in go (f (length l)) refl

  -- without a break, the move ends at an index with nothing filed
  pub stops : (f : ℕ → Option Segment) (n : ℕ) (l : List Segment) → ((i : ℕ) (g : Segment) → f i ≡ some g → i < length l + n)
      → (moved c n f l).1 ≡ true → f (length (moved c n f l).0) ≡ none
  stops f zero l near e =
      let go = λ (o : Option Segment). elim o as
      (λ o. f (length l) ≡ o → f (length l) ≡ none) [ none ↦ λ q. q | some g ↦ λ q. absurd (let z : length l < length l + 0 = near (length l) g q in omega arith) ]
      in go (f (length l)) refl
  stops f (suc n) l near e =
      let fit = λ (g : Segment) (q : f (length l) ≡ some g) (b : Bool). elim b as
      (λ b. (if b then moved c n f (l ++ (g ∷ [])) else (l, false)).1 ≡ true → f (length (if b then moved c n f (l ++ (g ∷ [])) else (l, false)).0) ≡ none) [
        | true ↦ λ t. stops f n (l ++ (g ∷ [])) (λ i x y. omega (arith, near i x y, length_snoc l g)) t
        | false ↦ λ t. absurd (yes_no t refl)
      ]
      in
      let go = λ (o : Option Segment). elim o as
      (λ o. f (length l) ≡ o
      → (moved_past c o (λ g. moved c n f (l ++ (g ∷ []))) l).1 ≡ true
      → f (length (moved_past c o (λ g. moved c n f (l ++ (g ∷ []))) l).0) ≡ none) [
        | none ↦ λ q t. q
        | some g ↦ λ q t. fit g q (fitting c.segments (on_way 0 l) g) t
      ]
      in go (f (length l)) refl e
