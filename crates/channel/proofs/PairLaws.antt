-- Laws of pairs: what is filed of a unit, by whether it has a leading octet; how the pairs of a table are looked at one after another; and that they are
-- the same by any lists that agree where there are records.
-- Assumes nothing.
use Rattle.std.proofs.Common.{◌≡◌, ℕ, zero, suc, ◌+◌, ◌-◌, ◌<◌, ◌≤◌, Bool, true, false, not, ◌&&◌, ◌||◌, eqb, leb, List, ◌∷◌, length, get_or, refl, ap, ◌∙◌, ap₂, arith, eq-eqb, ne_eqb, leb-true}
use borrow.Author.Tests.{eqb-false}
use Rattle.std.specs.Prelude.{if◌then◌else◌}
use Rattle.laws.proofs.Choice.{either_way}
use Rattle.channel.specs.declared.record.Limits.{Limits}
use Rattle.channel.specs.Record.{sends}
use Rattle.channel.specs.Pairs.{led, filed, filed_count, spare_fits, is_named, pair_fits, pairs_from}

-- ---- what is filed, and how many octets that is

module _ (l : Limits) where
  module _ (no : l.lead ≡ 0) where
    pub filed_plain : (u : List ℕ) → filed l u ≡ u
    filed_plain u = simp (eq-eqb _ _ no)

    pub count_plain : (n : ℕ) → filed_count l n ≡ n
    count_plain n = simp (eq-eqb _ _ no)

  module _ (yes : l.lead ≡ 0 → ⊥) where
    pub filed_led : (u : List ℕ) → filed l u ≡ 0 ∷ u
    filed_led u = simp (ne_eqb _ _ yes)

    pub count_led : (n : ℕ) → filed_count l n ≡ n + 1
    count_led n = simp (ne_eqb _ _ yes)

  pub filed_length : (u : List ℕ) → length (filed l u) ≡ filed_count l (length u)
  filed_length u = by (led l)
    where
      by : (t : Bool) → length (if t then 0 ∷ u else u) ≡ (if t then length u + 1 else length u)
      by true = omega arith
      by false = refl

-- ---- who names the i-th, among those from the j-th on to the n-th

module _ (spares : List ℕ) (i n j : ℕ) where
  pub named_none : n ≤ j → is_named spares i (n - j) j ≡ false
  unfolding is_named
  named_none h = let e : n - j ≡ 0 = omega arith in rw e

  pub named_here : j < n → eqb (get_or spares j 0) (i + 1) ≡ true → is_named spares i (n - j) j ≡ true
  unfolding is_named
  named_here h t = let e : n - j ≡ suc (n - (j + 1)) = omega arith in rw (e, t)

  pub named_more : j < n → eqb (get_or spares j 0) (i + 1) ≡ false → is_named spares i (n - j) j ≡ is_named spares i (n - (j + 1)) (j + 1)
  unfolding is_named
  named_more h t = let e : n - j ≡ suc (n - (j + 1)) = omega arith in rw (e, t)

-- ---- the pairs from the i-th on to the n-th

module _ (spares leads ways : List ℕ) (n i : ℕ) where
  pub pairs_none : n ≤ i → pairs_from spares leads ways n (n - i) i ≡ true
  unfolding pairs_from
  pairs_none h = let e : n - i ≡ 0 = omega arith in rw e

  pub pairs_not : i < n → pair_fits spares leads ways n i ≡ false → pairs_from spares leads ways n (n - i) i ≡ false
  unfolding pairs_from
  pairs_not h t = let e : n - i ≡ suc (n - (i + 1)) = omega arith in rw (e, t)

  pub pairs_more : i < n → pair_fits spares leads ways n i ≡ true → pairs_from spares leads ways n (n - i) i ≡ pairs_from spares leads ways n (n - (i + 1)) (i + 1)
  unfolding pairs_from
  pairs_more h t = let e : n - i ≡ suc (n - (i + 1)) = omega arith in rw (e, t)

-- ---- by other lists that agree on the first n

module _ (s l w s2 l2 w2 : List ℕ) (n : ℕ) (same_s : (i : ℕ) → i < n → get_or s i 0 ≡ get_or s2 i 0) (same-l : (i : ℕ) → i < n → get_or l i 0 ≡ get_or l2 i 0)
    (same_w : (i : ℕ) → i < n → get_or w i 0 ≡ get_or w2 i 0) where
  named_same : (i m j : ℕ) → j + m ≤ n → is_named s i m j ≡ is_named s2 i m j
  unfolding is_named
  named_same i zero j h = refl
  named_same i (suc m) j h =
      ap₂ (λ (a b : Bool). a || b) (ap (λ (k : ℕ). eqb k (i + 1)) (same_s j (omega (arith, h)))) (named_same i m (j + 1) (omega (arith, h)))

  spare_same : (i : ℕ) → i < n → spare_fits s w n i ≡ spare_fits s2 w2 n i
  unfolding spare_fits
  spare_same i h =
      ap₂ (λ (k a : ℕ). eqb k 0 || (leb k n && not (eqb k (i + 1)) && eqb a sends && eqb (get_or w (k - 1) 0) sends)) (same_s i h) (same_w i h) ∙ there (get_or s2 i 0)
    where
      -- the spare that is looked at is one of them
      there : (k : ℕ)
          → (eqb k 0 || (leb k n && not (eqb k (i + 1)) && eqb (get_or w2 i 0) sends && eqb (get_or w (k - 1) 0) sends))
          ≡ (eqb k 0 || (leb k n && not (eqb k (i + 1)) && eqb (get_or w2 i 0) sends && eqb (get_or w2 (k - 1) 0) sends))
      there k =
          either_way (eqb k 0) (λ e. simp e)
          (λ e.
          either_way (leb k n)
          (λ q. ap (λ (a : ℕ). eqb k 0 || (leb k n && not (eqb k (i + 1)) && eqb (get_or w2 i 0) sends && eqb a sends)) (same_w (k - 1) (omega (arith, leb-true k n q, eqb-false k 0 e))))
          (λ q. simp (e, q)))

  pair_same : (i : ℕ) → i < n → pair_fits s l w n i ≡ pair_fits s2 l2 w2 n i
  unfolding pair_fits
  pair_same i h =
      ap₂ (λ (a b : Bool). a && b) (spare_same i h)
      (ap₂ eqb (same-l i h)
      (ap₂ (λ (k : ℕ) (b : Bool). if not (eqb k 0) || b then 1 else 0) (same_s i h) (named_same i n 0 (omega arith))))

  pub pairs_same : (m i : ℕ) → i + m ≤ n → pairs_from s l w n m i ≡ pairs_from s2 l2 w2 n m i
  unfolding pairs_from
  pairs_same zero i h = refl
  pairs_same (suc m) i h = ap₂ (λ (a b : Bool). a && b) (pair_same i (omega (arith, h))) (pairs_same m (i + 1) (omega (arith, h)))
