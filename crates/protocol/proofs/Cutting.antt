-- Cutting and rejoining: a unit cut is that unit again; the units of a part; what the first unit takes away.
-- Assumes nothing.
use mathlib.Core.Path.{◌≡◌, refl, sym, ap, ◌∙◌}
use mathlib.Core.Bool.{Bool, true, false}
use mathlib.Core.List.{List, [], ◌∷◌, ◌++◌, append_assoc, append-nil}
use Prim.Native.Nat.{ℕ, zero, suc, ◌+◌, ◌≤◌, zero-le, suc-le-suc}
use native.Mathlib.Nat.{add-zero, suc-add, le_of_suc-le-suc}
use native.Mathlib.Omega.{arith}
use borrow.Author.Tests.{eq-eqb, ne_eqb}
use lib.Dec.{eqb}
use lib.ListN.{length, take, drop}
use lib.Seq.{drop-drop}
use Rattle.laws.specs.Choice.{if◌then◌else◌}
use Rattle.slots.specs.Units.{segments_of, segment_cut, joined}
use Rattle.slots.proofs.Units.{segments_some, rejoined}
use Rattle.protocol.specs.Units.{DataUnit, Segment, segments_from, cut, cuts, units, endings, whole_to, one_more, first_unit}

module _ (payload : ℕ) where
  -- the segments from the i-th on end one unit
  units_from : (u : DataUnit) (count n i : ℕ) → i + suc n ≡ count → (part : List ℕ) (l : List Segment)
      → units part (segments_from payload u count (suc n) i ++ l) ≡ (part ++ joined payload u (suc n) i) ∷ units [] l
  unfolding segments_from joined
  units_from u count zero i e part l =
      let last : eqb (i + 1) count ≡ true = eq-eqb (i + 1) count (omega arith) in
      ap
      (λ (t : Bool). if t then (part ++ segment_cut payload u i) ∷ units [] l else units (part ++ segment_cut payload u i) l)
      last
      ∙ ap (λ (o : List ℕ). (part ++ o) ∷ units [] l) (sym (append-nil (segment_cut payload u i)))
  units_from u count (suc n) i e part l =
      let here = segment_cut payload u i in
      let rest = segments_from payload u count (suc n) (i + 1) ++ l in
      let not_last : eqb (i + 1) count ≡ false = ne_eqb (i + 1) count (omega arith) in
      ap (λ (t : Bool). if t then (part ++ here) ∷ units [] rest else units (part ++ here) rest) not_last
      ∙ units_from u count n (i + 1) (omega arith) (part ++ here) l
      ∙ ap (λ (o : List ℕ). o ∷ units [] l) (append_assoc part here (joined payload u (suc n) (i + 1)))

  module _ (some : 1 ≤ payload) where
    -- a unit cut is that unit again, whatever follows
    pub units_cut : (u : DataUnit) (l : List Segment) → units [] (cut payload u ++ l) ≡ u ∷ units [] l
    unfolding cut
    units_cut u l = by (segments_of payload (length u)) refl
      where
        by : (n : ℕ) → segments_of payload (length u) ≡ n → units [] (segments_from payload u n n 0 ++ l) ≡ u ∷ units [] l
        by zero e = absurd (omega (arith, segments_some payload (length u)))
        by (suc n) e =
            units_from u (suc n) n 0 (omega arith) [] l
            ∙ ap (λ (m : ℕ). joined payload u m 0 ∷ units [] l) (sym e)
            ∙ ap (◌∷ units [] l) (rejoined payload u some)

    pub units_cuts : (us : List DataUnit) → units [] (cuts payload us) ≡ us
    unfolding cuts
    units_cuts [] = refl
    units_cuts (u ∷ us) = units_cut u (cuts payload us) ∙ ap (u ∷◌) (units_cuts us)

  pub cuts_snoc : (us : List DataUnit) (u : DataUnit) → cuts payload (us ++ (u ∷ [])) ≡ cuts payload us ++ cut payload u
  unfolding cuts
  cuts_snoc [] u = append-nil (cut payload u)
  cuts_snoc (v ∷ us) u = ap (cut payload v ++◌) (cuts_snoc us u) ∙ sym (append_assoc (cut payload v) (cuts payload us) (cut payload u))

pub length_units : (part : DataUnit) (l : List Segment) → length (units part l) ≡ endings l
length_units part [] = refl
length_units part (s ∷ l) =
    elim s.last as
    (λ b.
    length (if b then (part ++ s.octets) ∷ units [] l else units (part ++ s.octets) l) ≡ (if b then suc (endings l) else endings l)) [
      | true ↦ ap suc (length_units [] l)
      | false ↦ length_units (part ++ s.octets) l
    ]

-- The complete units among the first m segments are the first of all.
pub units_take : (part : DataUnit) (m : ℕ) (l : List Segment) → units part (take m l) ≡ take (endings (take m l)) (units part l)
units_take part zero l = refl
units_take part (suc m) [] = refl
units_take part (suc m) (s ∷ l) =
    elim s.last as
    (λ b.
    (if b then (part ++ s.octets) ∷ units [] (take m l) else units (part ++ s.octets) (take m l))
    ≡ take
    (if b then suc (endings (take m l)) else endings (take m l))
    (if b then (part ++ s.octets) ∷ units [] l else units (part ++ s.octets) l)) [
      | true ↦ ap ((part ++ s.octets) ∷◌) (units_take [] m l)
      | false ↦ units_take (part ++ s.octets) m l
    ]

pub endings_mono : (a b : ℕ) (l : List Segment) → a ≤ b → endings (take a l) ≤ endings (take b l)
endings_mono zero b l h = zero-le
endings_mono (suc a) zero l h = omega arith
endings_mono (suc a) (suc b) [] h = zero-le
endings_mono (suc a) (suc b) (s ∷ l) h =
    elim s.last as
    (λ t. (if t then suc (endings (take a l)) else endings (take a l)) ≤ (if t then suc (endings (take b l)) else endings (take b l))) [
      | true ↦ suc-le-suc (endings_mono a b l (le_of_suc-le-suc h))
      | false ↦ endings_mono a b l (le_of_suc-le-suc h)
    ]

pub endings_append : (p q : List Segment) → endings (p ++ q) ≡ endings p + endings q
endings_append [] q = omega arith
endings_append (s ∷ p) q =
    elim s.last as
    (λ t. (if t then suc (endings (p ++ q)) else endings (p ++ q)) ≡ (if t then suc (endings p) else endings p) + endings q) [
      | true ↦ ap suc (endings_append p q) ∙ sym (suc-add (endings p) (endings q))
      | false ↦ endings_append p q
    ]

pub whole_to_append : (b i : ℕ) (p q : List Segment) → whole_to b i (p ++ q) ≡ whole_to (whole_to b i p) (i + length p) q
whole_to_append b i [] q = ap (λ (n : ℕ). whole_to b n q) (sym (add-zero i))
whole_to_append b i (s ∷ p) q =
    elim s.last as
    (λ t.
    (if t then whole_to (suc i) (suc i) (p ++ q) else whole_to b (suc i) (p ++ q))
    ≡ whole_to (if t then whole_to (suc i) (suc i) p else whole_to b (suc i) p) (i + suc (length p)) q) [
      | true ↦ whole_to_append (suc i) (suc i) p q ∙ ap (λ (n : ℕ). whole_to (whole_to (suc i) (suc i) p) n q) (omega arith)
      | false ↦ whole_to_append b (suc i) p q ∙ ap (λ (n : ℕ). whole_to (whole_to b (suc i) p) n q) (omega arith)
    ]

drop_more : (i : ℕ) (whole : List Segment) (s : Segment) (l : List Segment) → drop i whole ≡ s ∷ l → drop (suc i) whole ≡ l
drop_more i whole s l e =
    let q : suc i ≡ i + 1 = omega arith in
    ap (λ (n : ℕ). drop n whole) q ∙ sym (drop-drop 1 i whole) ∙ ap (drop 1) e

-- The units are those complete among the first j segments, and then those of the segments from the `whole_to` on.
split : (b i : ℕ) (whole : List Segment) (part : DataUnit) (j : ℕ) (l : List Segment)
    → drop i whole ≡ l
    → units part l ≡ units [] (drop b whole)
    → units part l ≡ take (endings (take j l)) (units part l) ++ units [] (drop (whole_to b i (take j l)) whole)
split b i whole part zero l e h = h
split b i whole part (suc j) [] e h = h
split b i whole part (suc j) (s ∷ l) e h =
    let go = λ (t : Bool). elim t as
    (λ t. (if t then (part ++ s.octets) ∷ units [] l else units (part ++ s.octets) l) ≡ units [] (drop b whole) →
    (if t then (part ++ s.octets) ∷ units [] l else units (part ++ s.octets) l)
    ≡ take
    (if t then suc (endings (take j l)) else endings (take j l))
    (if t then (part ++ s.octets) ∷ units [] l else units (part ++ s.octets) l)
    ++ units [] (drop (if t then whole_to (suc i) (suc i) (take j l) else whole_to b (suc i) (take j l)) whole)) [
      | true ↦ λ q. ap
          ((part ++ s.octets) ∷◌)
          (split (suc i) (suc i) whole [] j l (drop_more i whole s l e) (ap (units []) (sym (drop_more i whole s l e))))
      | false ↦ λ q. split b (suc i) whole (part ++ s.octets) j l (drop_more i whole s l e) q
    ]
    in go s.last h

pub split_units : (j : ℕ) (l : List Segment)
    → units [] l ≡ take (endings (take j l)) (units [] l) ++ units [] (drop (whole_to 0 0 (take j l)) l)
split_units j l = split 0 0 l [] j l refl refl

-- The first unit takes its segments away, whatever follows them.
pub first_unit_whole : (part : DataUnit) (l : List Segment) (u : DataUnit) (us : List DataUnit)
    → units part l ≡ u ∷ us
    → (r : List Segment) → units part (take (first_unit l) l ++ r) ≡ u ∷ units [] r
first_unit_whole part [] u us e r = cc
first_unit_whole part (s ∷ l) u us e r =
    let longer = λ (m : ℕ). elim m as
    (λ m. ((r' : List Segment) → units (part ++ s.octets) (take m l ++ r') ≡ u ∷ units [] r') →
    units part (take (one_more m) (record { first = s.first; last = false; octets = s.octets } ∷ l) ++ r) ≡ u ∷ units [] r) [
      | zero ↦ λ h. let z : ◌≡◌ {A = List DataUnit} [] (u ∷ []) = h [] in cc
      | suc m ↦ λ h. h r
    ]
    in
    let go = λ (t : Bool). elim t as
    (λ t. units part (record { first = s.first; last = t; octets = s.octets } ∷ l) ≡ u ∷ us →
    units part (take (if t then 1 else one_more (first_unit l)) (record { first = s.first; last = t; octets = s.octets } ∷ l) ++ r) ≡ u ∷ units [] r) [
      | true ↦ λ q. cc
      | false ↦ λ q. longer (first_unit l) (first_unit_whole (part ++ s.octets) l u us q)
    ]
    in go s.last e
