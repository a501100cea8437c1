-- Laws of prefixes: octet by octet, and what is equal.
-- Assumes nothing.
use Rattle.std.proofs.Common.{◌≡◌, ℕ, zero, suc, ◌+◌, ◌-◌, ◌<◌, ◌≤◌, Bool, true, false, ◌&&◌, eqb, leb, List, ◌∷◌, ◌++◌, length, get_or, take, drop, replicate, sym, refl, ap, ◌∙◌, ap₂, ⊎_elim, true≢false, le_of_suc-le-suc, not-suc-le-zero, add-zero, add-suc, zero-add, add-one, arith, length-drop, get_or-drop, drop-cons, get_or-append-add, eq-eqb, eqb-true, le-leb, leb-true}
use borrow.Author.Tests.{eqb-false}
use lib.ListN.{get_or-replicate, get_or-append}
use Rattle.std.specs.List.{list_all}
use Rattle.std.proofs.lemmas.List.{drop_all}
use lib.Pointwise.{pointwise}
use Rattle.std.proofs.Math.Seq.{take-length}
use Rattle.laws.proofs.Choice.{both, either_way}
use Rattle.laws.proofs.Numbers.{lt_cases}
use Rattle.packet.specs.Layout.{most_prefix}
use Rattle.channel.specs.declared.record.Prefix.{Prefix}
use Rattle.channel.specs.Prefixes.{octets_from, each, is_zero, is_same, prefix_of, fit_prefix, same_prefix, padded, prefix_with}

-- ---- one after the other

module _ (test : ℕ → Bool) where
  each_all : (n i : ℕ) → ((k : ℕ) → test k ≡ true) → each test n i ≡ true
  unfolding each
  each_all zero i f = refl
  each_all (suc n) i f = simp (f i, each_all n (i + 1) f)

-- a test of each of the last n elements of a list, as the list is walked and by index
pub each_last : (test : ℕ → Bool) (l : List ℕ) (n i : ℕ) → length l ≡ i + n → list_all test (drop i l) ≡ each (λ k. test (get_or l k 0)) n i
unfolding each
each_last test l zero i h = simp (drop_all i l (omega arith))
each_last test l (suc n) i h =
    let rest : list_all test (drop (suc i) l) ≡ each (λ k. test (get_or l k 0)) n (i + 1) =
    ap (λ (j : ℕ). list_all test (drop j l)) (sym (add-one i)) ∙ each_last test l n (i + 1) (omega (arith, h)) in
    rw (drop-cons l i 0 (omega (arith, h))) (ap (λ (b : Bool). test (get_or l i 0) && b) rest)

-- two lists are equal, as they are walked and by index
pub same_last : (l m : List ℕ) (n i : ℕ) → length l ≡ i + n → length m ≡ i + n → pointwise eqb (drop i l) (drop i m) ≡ each (is_same l m) n i
unfolding each
same_last l m zero i h k = simp (drop_all i l (omega arith), drop_all i m (omega arith))
same_last l m (suc n) i h k =
    let rest : pointwise eqb (drop (suc i) l) (drop (suc i) m) ≡ each (is_same l m) n (i + 1) =
    ap (λ (j : ℕ). pointwise eqb (drop j l) (drop j m)) (sym (add-one i)) ∙ same_last l m n (i + 1) (omega (arith, h)) (omega (arith, k)) in
    rw (drop-cons l i 0 (omega (arith, h)), drop-cons m i 0 (omega (arith, k))) (ap (λ (b : Bool). eqb (get_or l i 0) (get_or m i 0) && b) rest)

-- what passes two tests passes a third that follows from both
each_both : (a b c : ℕ → Bool) → ((k : ℕ) → a k ≡ true → b k ≡ true → c k ≡ true) → (n i : ℕ) → each a n i ≡ true → each b n i ≡ true → each c n i ≡ true
unfolding each
each_both a b c f zero i ea eb = refl
each_both a b c f (suc n) i ea eb =
    let p = both (a i) (each a n (i + 1)) ea in
    let q = both (b i) (each b n (i + 1)) eb in
    simp (f i p.0 q.0, each_both a b c f n (i + 1) p.1 q.1)

-- ---- the octets of a prefix

from_length : (l : List ℕ) (n i : ℕ) → length (octets_from l n i) ≡ n
from_length l zero i = refl
from_length l (suc n) i = ap suc (from_length l n (i + 1))

pub prefix_length : (p : Prefix) → length (prefix_of p) ≡ p.length
unfolding prefix_of
prefix_length p = from_length p.octets p.length 0

pub prefix_short : (p : Prefix) → fit_prefix p ≡ true → p.length ≤ most_prefix
unfolding fit_prefix
prefix_short p e = leb-true _ _ (both _ _ e).0

-- the part of a record's octets that is lent
from_take : (l : List ℕ) (n i : ℕ) → i + n ≤ length l → take n (drop i l) ≡ octets_from l n i
from_take l zero i h = refl
from_take l (suc n) i h =
    let rest : take n (drop (suc i) l) ≡ octets_from l n (i + 1) = ap (λ (j : ℕ). take n (drop j l)) (sym (add-one i)) ∙ from_take l n (i + 1) (omega (arith, h)) in
    rw (drop-cons l i 0 (omega (arith, h))) (ap (λ (t : List ℕ). get_or l i 0 ∷ t) rest)

pub lent_first : (p : Prefix) → p.length ≤ length p.octets → take p.length p.octets ≡ prefix_of p
unfolding prefix_of
lent_first p h = from_take p.octets p.length 0 (omega (arith, h))

-- the octets past the prefix, tested in a row
pub clear_past : (p : Prefix) (rest : List ℕ) → length p.octets ≡ most_prefix → p.length ≤ most_prefix
    → rest ≡ take (length p.octets - p.length) (drop p.length p.octets)
    → list_all (λ x. eqb x 0) rest ≡ fit_prefix p
unfolding fit_prefix
clear_past p rest long short e =
    let all : take (length p.octets - p.length) (drop p.length p.octets) ≡ drop p.length p.octets =
    rw (← length-drop p.length p.octets) (take-length (drop p.length p.octets)) in
    simp (le-leb p.length most_prefix short)
    (ap (list_all (λ x. eqb x 0)) (e ∙ all) ∙ each_last (λ x. eqb x 0) p.octets (most_prefix - p.length) p.length (omega (arith, long, short)))

-- ---- equal prefixes

pub same_itself : (p : Prefix) → same_prefix p p ≡ true
unfolding same_prefix
same_itself p = simp (eq-eqb p.length p.length refl, each_all (is_same p.octets p.octets) most_prefix 0 (λ k. eq-eqb (get_or p.octets k 0) (get_or p.octets k 0) refl))

-- two that are equal to a third are equal
pub same_both : (p q r : Prefix) → same_prefix p r ≡ true → same_prefix q r ≡ true → same_prefix p q ≡ true
unfolding same_prefix
same_both p q r a b =
    let ea = both (eqb p.length r.length) _ a in
    let eb = both (eqb q.length r.length) _ b in
    simp (
      eq-eqb p.length q.length (eqb-true _ _ ea.0 ∙ sym (eqb-true _ _ eb.0)),
      each_both (is_same p.octets r.octets) (is_same q.octets r.octets) (is_same p.octets q.octets)
          (λ k x y.
          eq-eqb (get_or p.octets k 0) (get_or q.octets k 0)
          (eqb-true (get_or p.octets k 0) (get_or r.octets k 0) x ∙ sym (eqb-true (get_or q.octets k 0) (get_or r.octets k 0) y))) most_prefix 0 ea.1 eb.1,
    )

pub equal_swap : (a b : ℕ) → eqb a b ≡ eqb b a
equal_swap a b = go (eqb a b) refl (eqb b a) refl
  where
    go : (x : Bool) → eqb a b ≡ x → (y : Bool) → eqb b a ≡ y → eqb a b ≡ eqb b a
    go true p true q = p ∙ sym q
    go false p false q = p ∙ sym q
    go true p false q = absurd (true≢false (sym (eq-eqb b a (sym (eqb-true a b p))) ∙ q))
    go false p true q = absurd (true≢false (sym (eq-eqb a b (sym (eqb-true b a q))) ∙ p))

each_swap : (l m : List ℕ) (n i : ℕ) → each (is_same l m) n i ≡ each (is_same m l) n i
unfolding each
each_swap l m zero i = refl
each_swap l m (suc n) i = ap₂ (λ (x y : Bool). x && y) (equal_swap (get_or l i 0) (get_or m i 0)) (each_swap l m n (i + 1))

pub same_swap : (p q : Prefix) → same_prefix p q ≡ same_prefix q p
unfolding same_prefix
same_swap p q = ap₂ (λ (x y : Bool). x && y) (equal_swap p.length q.length) (each_swap p.octets q.octets most_prefix 0)

-- ---- a fit prefix is the one of its octets

-- the octets of a list, one by one
from_at : (l : List ℕ) (n i k : ℕ) → k < n → get_or (octets_from l n i) k 0 ≡ get_or l (i + k) 0
from_at l zero i k h = absurd (not-suc-le-zero h)
from_at l (suc n) i zero h = ap (λ (j : ℕ). get_or l j 0) (sym (add-zero i))
from_at l (suc n) i (suc k) h =
    let e : i + 1 + k ≡ i + suc k = omega (arith, add-suc i k) in
    from_at l n (i + 1) k (le_of_suc-le-suc h) ∙ ap (λ (j : ℕ). get_or l j 0) e

-- what passes a test from the i-th on passes it at each
each_at : (test : ℕ → Bool) (n i k : ℕ) → each test n i ≡ true → i ≤ k → k < i + n → test k ≡ true
unfolding each
each_at test zero i k e low high = absurd (omega (arith, low, high))
each_at test (suc n) i k e low high =
    let p = both (test i) (each test n (i + 1)) e in
    either_way (eqb i k)
    (λ q. ap test (sym (eqb-true i k q)) ∙ p.0)
    (λ q. let other = eqb-false i k q in each_at test n (i + 1) k p.1 (omega (arith, low, other)) (omega (arith, high)))

each_in : (test : ℕ → Bool) (n i : ℕ) → ((k : ℕ) → i ≤ k → k < i + n → test k ≡ true) → each test n i ≡ true
unfolding each
each_in test zero i f = refl
each_in test (suc n) i f = simp (f i (omega arith) (omega arith), each_in test n (i + 1) (λ k low high. f k (omega (arith, low)) (omega (arith, high))))

pub same_laid : (p : Prefix) → fit_prefix p ≡ true → same_prefix p (prefix_with p.length (prefix_of p)) ≡ true
unfolding same_prefix fit_prefix prefix_of
same_laid p e =
    simp (
      eq-eqb p.length p.length refl,
      each_in (is_same p.octets (padded p.length (octets_from p.octets p.length 0))) most_prefix 0
          (λ k low high. eq-eqb _ _ (octet k (omega (arith, high)))),
    )
  where
    fits : (leb p.length most_prefix ≡ true) × (each (is_zero p.octets) (most_prefix - p.length) p.length ≡ true)
    fits = both (leb p.length most_prefix) _ e

    zeros : List ℕ
    zeros = replicate most_prefix 0

    front : List ℕ
    front = octets_from p.octets p.length 0

    octet : (k : ℕ) → k < most_prefix → get_or p.octets k 0 ≡ get_or (front ++ drop p.length zeros) k 0
    octet k high =
        ⊎_elim
        (λ h.
        ap (λ (j : ℕ). get_or p.octets j 0) (sym (zero-add k))
        ∙ sym (from_at p.octets p.length 0 k h)
        ∙ sym (get_or-append front (drop p.length zeros) 0 k (omega (arith, h, from_length p.octets p.length 0))))
        (λ h.
        let short = leb-true p.length most_prefix fits.0 in
        let far : k ≡ length front + (k - p.length) = omega (arith, h, from_length p.octets p.length 0) in
        let there : p.length + (k - p.length) ≡ k = omega (arith, h) in
        eqb-true (get_or p.octets k 0) 0 (each_at (is_zero p.octets) (most_prefix - p.length) p.length k fits.1 h (omega (arith, high, short)))
        ∙ sym (get_or-replicate most_prefix k 0 0 high)
        ∙ ap (λ (j : ℕ). get_or zeros j 0) (sym there)
        ∙ sym (get_or-drop p.length zeros (k - p.length) 0)
        ∙ sym (get_or-append-add front (drop p.length zeros) (k - p.length) 0)
        ∙ ap (λ (j : ℕ). get_or (front ++ drop p.length zeros) j 0) (sym far))
        (lt_cases k p.length)
