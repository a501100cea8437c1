-- Laws of one line: who stands in it after somebody joins or leaves, that the others keep their order, and that it has room.
-- Assumes nothing.
use mathlib.Core.Path.{◌≡◌, refl, sym, ap, ap₂, ◌∙◌}
use mathlib.Core.Bool.{Bool, true, false, not, ◌||◌, ◌&&◌, or_assoc, or-false, true≢false, false≢true}
use mathlib.Core.Logic.{◌⊎◌, inl, inr, ⊎_elim}
use mathlib.Core.List.{List, [], ◌∷◌, ◌++◌, append-nil}
use Prim.Native.Nat.{ℕ, zero, suc, ◌≤◌, ◌<◌, zero-le}
use native.Mathlib.Omega.{arith}
use borrow.Author.Tests.{lt-ltb, ltb-true, eq-eqb, ne_eqb, eqb-true, eqb-false, not-true}
use lib.Dec.{eqb, ltb}
use lib.ListN.{length, take, drop}
use Rattle.std.specs.Prelude.{if◌then◌else◌}
use Rattle.laws.proofs.Choice.{either_way, both, chosen, passed_by, by_test}
use Rattle.laws.proofs.Lists.{length_snoc}
use Rattle.lines.specs.Lines.{stands, joined, without, relisted, before}
use Rattle.lines.specs.Fit.{below, apart, Line}

-- ---- the head: it is i, or another

pub same_or_not : (x i : ℕ) → (x ≡ i) ⊎ (x ≡ i → ⊥)
same_or_not x i = either_way (eqb x i) (λ e. inl (eqb-true x i e)) (λ e. inr (eqb-false x i e))

module _ (x i : ℕ) (l : List ℕ) where
  pub stands_head : x ≡ i → stands i (x ∷ l) ≡ true
  unfolding stands
  stands_head e = ap (λ (t : Bool). t || stands i l) (eq-eqb x i e)

  pub stands_past : (x ≡ i → ⊥) → stands i (x ∷ l) ≡ stands i l
  unfolding stands
  stands_past n = ap (λ (t : Bool). t || stands i l) (ne_eqb x i n)

  pub without_head : x ≡ i → without i (x ∷ l) ≡ without i l
  unfolding without
  without_head e = ap (λ (t : Bool). if t then without i l else x ∷ without i l) (eq-eqb x i e)

  pub without_past : (x ≡ i → ⊥) → without i (x ∷ l) ≡ x ∷ without i l
  unfolding without
  without_past n = ap (λ (t : Bool). if t then without i l else x ∷ without i l) (ne_eqb x i n)

  pub before_head : x ≡ i → before i (x ∷ l) ≡ 0
  unfolding before
  before_head e = ap (λ (t : Bool). if t then 0 else suc (before i l)) (eq-eqb x i e)

  pub before_past : (x ≡ i → ⊥) → before i (x ∷ l) ≡ suc (before i l)
  unfolding before
  before_past n = ap (λ (t : Bool). if t then 0 else suc (before i l)) (ne_eqb x i n)

-- ---- who stands

pub stands_append : (i : ℕ) (a b : List ℕ) → stands i (a ++ b) ≡ (stands i a || stands i b)
unfolding stands
stands_append i [] b = refl
stands_append i (x ∷ a) b =
    ap (λ (t : Bool). eqb x i || t) (stands_append i a b) ∙ sym (or_assoc (eqb x i) (stands i a) (stands i b))

-- at the tail
pub tail_stands : (i : ℕ) (l : List ℕ) → stands i (l ++ (i ∷ [])) ≡ true
tail_stands i [] = stands_head i i [] refl
tail_stands i (x ∷ l) =
    ⊎_elim (λ e. stands_head x i (l ++ (i ∷ [])) e) (λ n. stands_past x i (l ++ (i ∷ [])) n ∙ tail_stands i l) (same_or_not x i)

pub others_stand_tail : (j i : ℕ) (l : List ℕ) → (i ≡ j → ⊥) → stands j (l ++ (i ∷ [])) ≡ stands j l
unfolding stands
others_stand_tail j i l n =
    stands_append j l (i ∷ []) ∙ ap (λ (t : Bool). stands j l || t) (stands_past i j [] n) ∙ or-false (stands j l)

pub gone : (i : ℕ) (l : List ℕ) → stands i (without i l) ≡ false
unfolding stands without
gone i [] = refl
gone i (x ∷ l) =
    ⊎_elim
    (λ e. ap (stands i) (without_head x i l e) ∙ gone i l)
    (λ n. ap (stands i) (without_past x i l n) ∙ stands_past x i (without i l) n ∙ gone i l)
    (same_or_not x i)

pub others_stand_without : (j i : ℕ) (l : List ℕ) → (i ≡ j → ⊥) → stands j (without i l) ≡ stands j l
unfolding without
others_stand_without j i [] n = refl
others_stand_without j i (x ∷ l) n =
    ⊎_elim
    (λ e.
    ap (stands j) (without_head x i l e) ∙ others_stand_without j i l n ∙ sym (stands_past x j l (λ q. n (sym e ∙ q))))
    (λ m.
    ap (stands j) (without_past x i l m)
    ∙ ⊎_elim
    (λ q. stands_head x j (without i l) q ∙ sym (stands_head x j l q))
    (λ q. stands_past x j (without i l) q ∙ others_stand_without j i l n ∙ sym (stands_past x j l q))
    (same_or_not x j))
    (same_or_not x i)

-- who does not stand cannot leave
pub without_none : (i : ℕ) (l : List ℕ) → stands i l ≡ false → without i l ≡ l
unfolding without
without_none i [] e = refl
without_none i (x ∷ l) e =
    ⊎_elim
    (λ q. absurd (true≢false (sym (stands_head x i l q) ∙ e)))
    (λ n. without_past x i l n ∙ ap (λ (t : List ℕ). x ∷ t) (without_none i l (sym (stands_past x i l n) ∙ e)))
    (same_or_not x i)

pub without_append : (i : ℕ) (a b : List ℕ) → without i (a ++ b) ≡ without i a ++ without i b
unfolding without
without_append i [] b = refl
without_append i (x ∷ a) b =
    ⊎_elim
    (λ e. without_head x i (a ++ b) e ∙ without_append i a b ∙ ap (λ (t : List ℕ). t ++ without i b) (sym (without_head x i a e)))
    (λ n.
    without_past x i (a ++ b) n
    ∙ ap (λ (t : List ℕ). x ∷ t) (without_append i a b)
    ∙ ap (λ (t : List ℕ). t ++ without i b) (sym (without_past x i a n)))
    (same_or_not x i)

-- ---- joined and relisted, by their cases

pub joined_stays : (i : ℕ) (l : List ℕ) → stands i l ≡ true → joined i l ≡ l
unfolding joined
joined_stays i l e = chosen (stands i l) l (l ++ (i ∷ [])) e

pub joined_tail : (i : ℕ) (l : List ℕ) → stands i l ≡ false → joined i l ≡ l ++ (i ∷ [])
unfolding joined
joined_tail i l e = passed_by (stands i l) l (l ++ (i ∷ [])) e

-- what holds of the line as it is and with i at its tail holds where i has joined
pub by_joining : (P : List ℕ → Type 0) (i : ℕ) (l : List ℕ) → (stands i l ≡ true → P l) → (stands i l ≡ false → P (l ++ (i ∷ []))) → P (joined i l)
by_joining P i l p q =
    either_way (stands i l) (λ e. rw (joined_stays i l e) (p e)) (λ e. rw (joined_tail i l e) (q e))

pub by_relisting : (P : List ℕ → Type 0) (i : ℕ) (ready : Bool) (l : List ℕ)
    → (ready ≡ true → P (joined i l))
    → (ready ≡ false → P (without i l))
    → P (relisted i ready l)
unfolding relisted
by_relisting P i ready l p q = by_test P ready (joined i l) (without i l) p q

pub relisted_ready : (i : ℕ) (ready : Bool) (l : List ℕ) → ready ≡ true → relisted i ready l ≡ joined i l
unfolding relisted
relisted_ready i ready l e = chosen ready (joined i l) (without i l) e

pub relisted_not : (i : ℕ) (ready : Bool) (l : List ℕ) → ready ≡ false → relisted i ready l ≡ without i l
unfolding relisted
relisted_not i ready l e = passed_by ready (joined i l) (without i l) e

-- a channel stands in a line exactly if it is ready
pub stands_iff_ready : (i : ℕ) (ready : Bool) (l : List ℕ) → stands i (relisted i ready l) ≡ ready
stands_iff_ready i ready l =
    by_relisting (λ t. stands i t ≡ ready) i ready l
    (λ r. by_joining (λ t. stands i t ≡ ready) i l (λ e. e ∙ sym r) (λ e. tail_stands i l ∙ sym r))
    (λ r. gone i l ∙ sym r)

-- whether another stands is as it was
pub others_stand : (j i : ℕ) (ready : Bool) (l : List ℕ) → (i ≡ j → ⊥) → stands j (relisted i ready l) ≡ stands j l
others_stand j i ready l n =
    by_relisting (λ t. stands j t ≡ stands j l) i ready l
    (λ r. by_joining (λ t. stands j t ≡ stands j l) i l (λ e. refl) (λ e. others_stand_tail j i l n))
    (λ r. others_stand_without j i l n)

-- and the order in which the others stand
pub order_kept : (i : ℕ) (ready : Bool) (l : List ℕ) → without i (relisted i ready l) ≡ without i l
unfolding without
order_kept i ready l =
    by_relisting (λ t. without i t ≡ without i l) i ready l
    (λ r.
    by_joining (λ t. without i t ≡ without i l) i l
    (λ e. refl)
    (λ e.
    without_append i l (i ∷ [])
    ∙ ap (λ (t : List ℕ). without i l ++ t) (without_head i i [] refl)
    ∙ append-nil (without i l)))
    (λ r. without_none i (without i l) (gone i l))

-- ---- each index is one of n, and none stands twice

pub below_head : (n x : ℕ) (l : List ℕ) → below n (x ∷ l) ≡ true → (x < n) × (below n l ≡ true)
unfolding below
below_head n x l e = let h = both (ltb x n) (below n l) e in (ltb-true x n h.0, h.1)

pub below_cons : (n x : ℕ) (l : List ℕ) → x < n → below n l ≡ true → below n (x ∷ l) ≡ true
unfolding below
below_cons n x l h e = ap₂ (λ (a b : Bool). a && b) (lt-ltb x n h) e

pub apart_head : (x : ℕ) (l : List ℕ) → apart (x ∷ l) ≡ true → (stands x l ≡ false) × (apart l ≡ true)
unfolding apart
apart_head x l e = let h = both (not (stands x l)) (apart l) e in (not-true (stands x l) h.0, h.1)

pub apart_cons : (x : ℕ) (l : List ℕ) → stands x l ≡ false → apart l ≡ true → apart (x ∷ l) ≡ true
unfolding apart
apart_cons x l h e = ap₂ (λ (a b : Bool). not a && b) h e

pub below_stands : (n i : ℕ) (l : List ℕ) → below n l ≡ true → stands i l ≡ true → i < n
unfolding stands
below_stands n i [] b e = absurd (false≢true e)
below_stands n i (x ∷ l) b e =
    let h = below_head n x l b in
    ⊎_elim (λ q. rw q at h.0) (λ m. below_stands n i l h.1 (sym (stands_past x i l m) ∙ e)) (same_or_not x i)

below_tail : (n i : ℕ) (l : List ℕ) → i < n → below n l ≡ true → below n (l ++ (i ∷ [])) ≡ true
unfolding below
below_tail n i [] h b = below_cons n i [] h refl
below_tail n i (x ∷ l) h b = let k = below_head n x l b in below_cons n x (l ++ (i ∷ [])) k.0 (below_tail n i l h k.1)

apart_tail : (i : ℕ) (l : List ℕ) → stands i l ≡ false → apart l ≡ true → apart (l ++ (i ∷ [])) ≡ true
unfolding stands apart
apart_tail i [] e a = refl
apart_tail i (x ∷ l) e a =
    let k = apart_head x l a in
    let n : x ≡ i → ⊥ = λ q. true≢false (sym (stands_head x i l q) ∙ e) in
    apart_cons x (l ++ (i ∷ [])) (others_stand_tail x i l (λ q. n (sym q)) ∙ k.0) (apart_tail i l (sym (stands_past x i l n) ∙ e) k.1)

below_without : (n i : ℕ) (l : List ℕ) → below n l ≡ true → below n (without i l) ≡ true
unfolding without
below_without n i [] b = b
below_without n i (x ∷ l) b =
    let k = below_head n x l b in
    ⊎_elim
    (λ e. ap (below n) (without_head x i l e) ∙ below_without n i l k.1)
    (λ m. ap (below n) (without_past x i l m) ∙ below_cons n x (without i l) k.0 (below_without n i l k.1))
    (same_or_not x i)

pub apart_without : (i : ℕ) (l : List ℕ) → apart l ≡ true → apart (without i l) ≡ true
unfolding without
apart_without i [] a = a
apart_without i (x ∷ l) a =
    let k = apart_head x l a in
    ⊎_elim
    (λ e. ap apart (without_head x i l e) ∙ apart_without i l k.1)
    (λ m.
    ap apart (without_past x i l m)
    ∙ apart_cons x (without i l) (others_stand_without x i l (λ q. m (sym q)) ∙ k.0) (apart_without i l k.1))
    (same_or_not x i)

pub apart_relisted : (i : ℕ) (ready : Bool) (l : List ℕ) → apart l ≡ true → apart (relisted i ready l) ≡ true
apart_relisted i ready l a =
    by_relisting (λ t. apart t ≡ true) i ready l
    (λ r. by_joining (λ t. apart t ≡ true) i l (λ e. a) (λ e. apart_tail i l e a))
    (λ r. apart_without i l a)

-- who leaves, and whoever of the table is relisted, keeps that
pub line_without : (n i : ℕ) (l : List ℕ) → Line n l → Line n (without i l)
line_without n i l h = record { inside = below_without n i l h.inside; once = apart_without i l h.once }

pub line_joined : (n i : ℕ) (l : List ℕ) → i < n → Line n l → Line n (joined i l)
line_joined n i l b h =
    by_joining (Line n) i l
    (λ e. h)
    (λ e. record { inside = below_tail n i l b h.inside; once = apart_tail i l e h.once })

pub line_relisted : (n i : ℕ) (ready : Bool) (l : List ℕ) → i < n → Line n l → Line n (relisted i ready l)
line_relisted n i ready l b h =
    by_relisting (Line n) i ready l (λ r. line_joined n i l b h) (λ r. line_without n i l h)

pub below_wider : (n m : ℕ) (l : List ℕ) → n ≤ m → below n l ≡ true → below m l ≡ true
unfolding below
below_wider n m [] h b = refl
below_wider n m (x ∷ l) h b = let k = below_head n x l b in below_cons m x l (omega arith) (below_wider n m l h k.1)

-- ---- so at most n stand in it

one_less : (i : ℕ) (l : List ℕ) → apart l ≡ true → length l ≤ suc (length (without i l))
one_less i [] a = zero-le
one_less i (x ∷ l) a =
    let k = apart_head x l a in
    ⊎_elim
    (λ e.
    let s = ap length (without_head x i l e ∙ without_none i l (ap (λ (t : ℕ). stands t l) (sym e) ∙ k.0)) in
    omega arith)
    (λ m. let s = ap length (without_past x i l m) in omega (arith, one_less i l k.1))
    (same_or_not x i)

last_gone : (n : ℕ) (l : List ℕ) → below (suc n) l ≡ true → below n (without n l) ≡ true
unfolding without below
last_gone n [] b = refl
last_gone n (x ∷ l) b =
    let k = below_head (suc n) x l b in
    ⊎_elim
    (λ e. ap (below n) (without_head x n l e) ∙ last_gone n l k.1)
    (λ m. ap (below n) (without_past x n l m) ∙ below_cons n x (without n l) (omega arith) (last_gone n l k.1))
    (same_or_not x n)

pub at_most : (n : ℕ) (l : List ℕ) → Line n l → length l ≤ n
at_most zero [] h = zero-le
at_most zero (x ∷ l) h = let k = below_head 0 x l h.inside in absurd (omega arith)
at_most (suc n) l h =
    let shorter = at_most n (without n l) (record { inside = last_gone n l h.inside; once = apart_without n l h.once }) in
    omega (arith, one_less n l h.once)

-- who does not stand there finds room
pub room : (n i : ℕ) (l : List ℕ) → i < n → Line n l → stands i l ≡ false → length l < n
room n i l b h e =
    let longer = at_most n (joined i l) (line_joined n i l b h) in
    omega (arith, ap length (joined_tail i l e), length_snoc l i)

-- ---- how many stand before i

pub before_le : (i : ℕ) (l : List ℕ) → before i l ≤ length l
unfolding before
before_le i [] = zero-le
before_le i (x ∷ l) =
    ⊎_elim (λ e. omega (arith, before_head x i l e)) (λ n. omega (arith, before_past x i l n, before_le i l)) (same_or_not x i)

pub before_lt : (i : ℕ) (l : List ℕ) → stands i l ≡ true → before i l < length l
unfolding stands
before_lt i [] e = absurd (false≢true e)
before_lt i (x ∷ l) e =
    ⊎_elim
    (λ q. omega (arith, before_head x i l q))
    (λ n. omega (arith, before_past x i l n, before_lt i l (sym (stands_past x i l n) ∙ e)))
    (same_or_not x i)

pub before_all : (i : ℕ) (l : List ℕ) → stands i l ≡ false → before i l ≡ length l
unfolding before
before_all i [] e = refl
before_all i (x ∷ l) e =
    ⊎_elim
    (λ q. absurd (true≢false (sym (stands_head x i l q) ∙ e)))
    (λ n. omega (arith, before_past x i l n, before_all i l (sym (stands_past x i l n) ∙ e)))
    (same_or_not x i)

pub before_tail : (i : ℕ) (l : List ℕ) → stands i l ≡ false → before i (l ++ (i ∷ [])) ≡ length l
before_tail i [] e = before_head i i [] refl
before_tail i (x ∷ l) e =
    ⊎_elim
    (λ q. absurd (true≢false (sym (stands_head x i l q) ∙ e)))
    (λ n. before_past x i (l ++ (i ∷ [])) n ∙ ap suc (before_tail i l (sym (stands_past x i l n) ∙ e)))
    (same_or_not x i)

-- it stands there
pub cut : (i : ℕ) (l : List ℕ) → stands i l ≡ true → l ≡ take (before i l) l ++ (i ∷ drop (suc (before i l)) l)
unfolding stands
cut i [] e = absurd (false≢true e)
cut i (x ∷ l) e =
    let at = λ (k : ℕ). take k (x ∷ l) ++ (i ∷ drop (suc k) (x ∷ l)) in
    ⊎_elim
    (λ q. ap (λ (y : ℕ). y ∷ l) q ∙ sym (ap at (before_head x i l q)))
    (λ n. ap (λ (t : List ℕ). x ∷ t) (cut i l (sym (stands_past x i l n) ∙ e)) ∙ sym (ap at (before_past x i l n)))
    (same_or_not x i)

-- and without it those before and behind it are left, where none stands twice
pub cut_out : (i : ℕ) (l : List ℕ) → apart l ≡ true → stands i l ≡ true → without i l ≡ take (before i l) l ++ drop (suc (before i l)) l
unfolding stands
cut_out i [] a e = absurd (false≢true e)
cut_out i (x ∷ l) a e =
    let k = apart_head x l a in
    let left = λ (k : ℕ). take k (x ∷ l) ++ drop (suc k) (x ∷ l) in
    ⊎_elim
    (λ q.
    without_head x i l q ∙ without_none i l (ap (λ (t : ℕ). stands t l) (sym q) ∙ k.0) ∙ sym (ap left (before_head x i l q)))
    (λ n.
    without_past x i l n
    ∙ ap (λ (t : List ℕ). x ∷ t) (cut_out i l k.1 (sym (stands_past x i l n) ∙ e))
    ∙ sym (ap left (before_past x i l n)))
    (same_or_not x i)

-- the test by the place
pub stands_there : (i : ℕ) (l : List ℕ) → before i l < length l → stands i l ≡ true
stands_there i l h = either_way (stands i l) (λ e. e) (λ e. absurd (omega (arith, before_all i l e)))

pub stands_nowhere : (i : ℕ) (l : List ℕ) → length l ≤ before i l → stands i l ≡ false
stands_nowhere i l h = either_way (stands i l) (λ e. absurd (omega (arith, before_lt i l e))) (λ e. e)

-- no two stand at one place
pub places_apart : (i j : ℕ) (l : List ℕ) → stands i l ≡ true → before i l ≡ before j l → i ≡ j
unfolding stands
places_apart i j [] e q = absurd (false≢true e)
places_apart i j (x ∷ l) e q =
    ⊎_elim
    (λ a.
    ⊎_elim
    (λ b. sym a ∙ b)
    (λ m. absurd (omega (arith, before_head x i l a, before_past x j l m)))
    (same_or_not x j))
    (λ n.
    ⊎_elim
    (λ b. absurd (omega (arith, before_past x i l n, before_head x j l b)))
    (λ m. places_apart i j l (sym (stands_past x i l n) ∙ e) (omega (arith, before_past x i l n, before_past x j l m)))
    (same_or_not x j))
    (same_or_not x i)
