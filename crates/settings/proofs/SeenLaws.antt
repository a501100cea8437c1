-- What all settings together have shown: the sums, where each is fit and no two clash; else it is not sound. One that is looked at is held beside
-- those before it, and `each_fit` holds it beside those behind it: as two clash in either order, it is the same.
-- Assumes nothing.
use mathlib.Core.Path.{◌≡◌, refl, sym, ap, ap₂, subst, ◌∙◌}
use mathlib.Core.Bool.{Bool, true, false, not, ◌&&◌, ◌||◌, false≢true, or-false, or_assoc}
use mathlib.Core.List.{List, [], ◌∷◌, map}
use Prim.Native.Nat.{ℕ, zero, suc, ◌+◌, ◌*◌, ◌≤◌, ◌<◌}
use native.Mathlib.Nat.{add-zero, add-suc, add_assoc, mul-le-mul_right, le_of_suc-le-suc, not-suc-le-zero}
use native.Mathlib.Omega.{arith}
use borrow.Author.Tests.{ltb-true, ltb-false, eq-eqb, not-true}
use lib.Dec.{ltb, eqb}
use lib.ListN.{length, take, get_or, set, length-set, length-replicate}
use lib.Seq.{get_or-set_same, get_or-set_other}
use Rattle.laws.proofs.Choice.{both, either_way}
use Rattle.walks.specs.Fold.{fold_from}
use Rattle.walks_sweeping.proofs.First.{first_count}
use Rattle.channel.specs.declared.record.Addresses.{Addresses}
use Rattle.channel.specs.declared.record.Settings.{Settings}
use Rattle.channel.specs.Prefixes.{same_prefix}
use Rattle.channel.proofs.PrefixLaws.{equal_swap, same_swap}
use Rattle.channel.specs.Settings.{fit, clash}
use Rattle.channel.specs.Tables.{clashes, each_fit}
use Rattle.table.specs.Lent.{area_of, all_slots, all_octets}
use Rattle.table.specs.Surveying.{looked_at}
use Rattle.table.proofs.Looked.{looked_enough}
use Rattle.settings.specs.Configuring.{made_table}
use Rattle.settings.specs.Seeing.{Seen, Routes, nowhere, beyond, begun, unsound, addresses_at, clashes_seen, routed, noted, see_one}
use Rattle.settings.proofs.OneLaws.{bounded, one_spoilt, one_many, one_unfit, one_taken, one_noted}

-- ---- two clash in either order

pub clash_swap : (a b : Addresses) → clash a b ≡ clash b a
unfolding clash
clash_swap a b =
    ap₂ (λ (x y : Bool). x && y && same_prefix a.prefix b.prefix) (equal_swap a.channel b.channel) (equal_swap a.remote b.remote)
    ∙ ap (λ (x : Bool). eqb b.channel a.channel && eqb b.remote a.remote && x) (same_swap a.prefix b.prefix)

-- ---- the addresses seen

-- the last of them, apart
taken_last : (v : Seen) (a : Addresses) (n i : ℕ) → clashes_seen v a (suc n) i ≡ (clashes_seen v a n i || clash a (addresses_at v (i + n)))
unfolding clashes_seen
taken_last v a zero i = or-false (clash a (addresses_at v i)) ∙ ap (λ (k : ℕ). clash a (addresses_at v k)) (sym (add-zero i))
taken_last v a (suc n) i =
    let e : i + 1 + n ≡ i + suc n = omega (arith, add-suc i n) in
    ap (λ (z : Bool). clash a (addresses_at v i) || z) (taken_last v a n (i + 1))
    ∙ sym (or_assoc (clash a (addresses_at v i)) (clashes_seen v a n (i + 1)) (clash a (addresses_at v (i + 1 + n))))
    ∙ ap (λ (k : ℕ). (clash a (addresses_at v i) || clashes_seen v a n (i + 1)) || clash a (addresses_at v k)) e

-- there is a place for each of 16
abbrev pub Sixteen : Seen → Type 0
Sixteen v = length v.addresses ≡ 16

begun_sixteen : (lines : List ℕ) → Sixteen (begun lines)
begun_sixteen lines = length-replicate {A = Addresses} 16 nowhere

-- one is noted at index j
module _ (v : Seen) (s : Settings) (j : ℕ) (places : Sixteen v) (few : j < 16) where
  noted_sixteen : Sixteen (noted v s j)
  noted_sixteen = length-set v.addresses j s.addresses ∙ places

  at_index : addresses_at (noted v s j) j ≡ s.addresses
  at_index = get_or-set_same v.addresses j s.addresses beyond (omega (arith, few, places))

  before : (i : ℕ) → i < j → addresses_at (noted v s j) i ≡ addresses_at v i
  before i h = get_or-set_other v.addresses j i s.addresses beyond (λ e. absurd (omega (arith, h, e)))

  taken_before : (a : Addresses) (n i : ℕ) → i + n ≤ j → clashes_seen (noted v s j) a n i ≡ clashes_seen v a n i
  unfolding clashes_seen
  taken_before a zero i h = refl
  taken_before a (suc n) i h =
      let k : i + suc n ≡ suc (i + n) = add-suc i n in
      ap₂ (λ (x y : Bool). x || y) (ap (λ (b : Addresses). clash a b) (before i (omega (arith, h, k)))) (taken_before a n (i + 1) (omega (arith, h, k)))

  taken_noted : (a : Addresses) → clashes_seen (noted v s j) a (suc j) 0 ≡ (clashes_seen v a j 0 || clash a s.addresses)
  taken_noted a =
      let e : 0 + j ≡ j = omega arith in
      taken_last (noted v s j) a j 0
      ∙ ap₂ (λ (x : Bool) (b : Addresses). x || clash a b) (taken_before a j 0 (omega arith))
      (ap (λ (k : ℕ). addresses_at (noted v s j) k) e ∙ at_index)

-- none of these has addresses that one of the first j has
unfoldable pub free : Seen → ℕ → List Settings → Bool
free v j [] = true
free v j (x ∷ l) = not (clashes_seen v x.addresses j 0) && free v j l

pub free_begun : (lines : List ℕ) (l : List Settings) → free (begun lines) 0 l ≡ true
unfolding free clashes_seen
free_begun lines [] = refl
free_begun lines (x ∷ l) = free_begun lines l

apart : (t k f c : Bool) → (not (t || k) && (f && not c)) ≡ ((not t && f) && not (k || c))
apart true k f c = refl
apart false true true c = refl
apart false true false c = refl
apart false false f c = refl

-- with one more among the first: none is like that one either
free_noted : (v : Seen) (s : Settings) (j : ℕ) → Sixteen v → j < 16 → (l : List Settings)
    → free (noted v s j) (suc j) l ≡ (free v j l && not (clashes s.addresses l))
unfolding free clashes
free_noted v s j places few [] = refl
free_noted v s j places few (x ∷ l) =
    ap₂ (λ (t f : Bool). not t && f)
    (taken_noted v s j places few x.addresses ∙ ap (λ (k : Bool). clashes_seen v x.addresses j 0 || k) (clash_swap x.addresses s.addresses))
    (free_noted v s j places few l)
    ∙ apart (clashes_seen v x.addresses j 0) (clash s.addresses x.addresses) (free v j l) (clashes s.addresses l)

-- ---- from one of the settings on

-- it goes well so far: the sums are within bounds
pub record Going (v : Seen) (j : ℕ) : Type 0 where
  pub sound : v.sound ≡ true
  pub few : j ≤ 16
  pub slots : v.slots ≤ j * 128
  pub octets : v.octets ≤ j * 131072
  pub places : Sixteen v

pub starts : (lines : List ℕ) → length lines ≡ 51 → Going (begun lines) 0
starts lines e =
    record { sound = eq-eqb (length lines) 51 e; few = omega arith; slots = omega arith; octets = omega arith; places = begun_sixteen lines }

-- these are as they must be
pub record Good (v : Seen) (j : ℕ) (l : List Settings) : Type 0 where
  pub few : j + length l ≤ 16
  pub fit : each_fit l ≡ true
  pub free : free v j l ≡ true

goes_on : (v : Seen) (s : Settings) (lens : List ℕ) (j : ℕ) → Going v j → j < 16 → fit s ≡ true → clashes_seen v s.addresses j 0 ≡ false
    → (see_one v s lens j ≡ noted v s j) × Going (noted v s j) (suc j)
goes_on v s lens j g few f t =
    let b = bounded s f in
    let area : area_of s.limits ≤ 131072 = omega (arith, mul-le-mul_right s.limits.payload b.0, b.1) in (
      one_noted v s lens j g.sound few (omega (arith, g.slots)) (omega (arith, g.octets)) f t,
      record {
        sound = refl;
        few = few;
        slots = omega (arith, g.slots, b.0);
        octets = omega (arith, g.octets, area);
        places = noted_sixteen v s j g.places few;
      },
    )

-- the first, and those behind it
good_first : (v : Seen) (s : Settings) (j : ℕ) (l : List Settings) → Going v j → Good v j (s ∷ l)
    → (j < 16) × (fit s ≡ true) × (clashes_seen v s.addresses j 0 ≡ false) × Good (noted v s j) (suc j) l
unfolding each_fit free
good_first v s j l g h =
    let few : j < 16 = omega (arith, h.few, add-suc j (length l)) in
    let p = both (fit s && not (clashes s.addresses l)) (each_fit l) h.fit in
    let q = both (fit s) (not (clashes s.addresses l)) p.0 in
    let r = both (not (clashes_seen v s.addresses j 0)) (free v j l) h.free in (
      few,
      q.0,
      not-true (clashes_seen v s.addresses j 0) r.0,
      record {
        few = omega (arith, h.few, add-suc j (length l));
        fit = p.1;
        free = free_noted v s j g.places few l ∙ ap₂ (λ (x y : Bool). x && y) r.1 q.1;
      },
    )

good_both : (v : Seen) (s : Settings) (j : ℕ) (l : List Settings) → Going v j → j < 16 → fit s ≡ true → clashes_seen v s.addresses j 0 ≡ false
    → Good (noted v s j) (suc j) l → Good v j (s ∷ l)
unfolding each_fit free
good_both v s j l g few f t h =
    let q = both (free v j l) (not (clashes s.addresses l)) (sym (free_noted v s j g.places few l) ∙ h.free) in
    record {
      few = omega (arith, h.few, add-suc j (length l));
      fit = simp (f, q.1, h.fit);
      free = simp (t, q.0);
    }

-- what is spoilt stays so
pub stays_spoilt : (lens : List ℕ) (j : ℕ) (v : Seen) (l : List Settings) → v.sound ≡ false → fold_from see_one lens j v l ≡ v
unfolding fold_from
stays_spoilt lens j v [] e = refl
stays_spoilt lens j v (s ∷ l) e =
    ap (λ (w : Seen). fold_from see_one lens (suc j) w l) (one_spoilt v s lens j e) ∙ stays_spoilt lens (suc j) v l e

-- ---- those that are looked at

spoils_late : (lens : List ℕ) (v : Seen) (s : Settings) (j : ℕ) → 16 ≤ j → (see_one v s lens j).sound ≡ false
spoils_late lens v s j h = either_way v.sound (λ e. ap (λ (w : Seen). w.sound) (one_many v s lens j e h)) (λ e. ap (λ (w : Seen). w.sound) (one_spoilt v s lens j e) ∙ e)

-- what they show is what all do: the 17th makes it unsound, and nothing after that counts
pub first_seen : (lens : List ℕ) (l : List Settings) (v : Seen) (k : ℕ) → k ≡ looked_at (length l) → fold_from see_one lens 0 v (take k l) ≡ fold_from see_one lens 0 v l
first_seen lens l v k e =
    first_count see_one lens (λ w. w.sound ≡ false) 16 (λ w s j. one_spoilt w s lens j) (spoils_late lens) v l k
    (subst (λ (n : ℕ). n < length l → 16 < n) (sym e) (looked_enough (length l)))

-- all are counted
pub record Counts (w v : Seen) (l : List Settings) : Type 0 where
  pub sound : w.sound ≡ true
  pub slots : w.slots ≡ v.slots + all_slots (made_table l)
  pub octets : w.octets ≡ v.octets + all_octets (made_table l)

pub sees_good : (lens : List ℕ) (j : ℕ) (v : Seen) (l : List Settings) → Going v j → Good v j l → Counts (fold_from see_one lens j v l) v l
unfolding fold_from all_slots all_octets
sees_good lens j v [] g h = record { sound = g.sound; slots = sym (add-zero v.slots); octets = sym (add-zero v.octets) }
sees_good lens j v (s ∷ l) g h =
    let p = good_first v s j l g h in
    let w = goes_on v s lens j g p.0 p.1 p.2 in
    let n = sees_good lens (suc j) (noted v s j) l w.1 p.3 in
    let e = ap (λ (x : Seen). fold_from see_one lens (suc j) x l) w.0 in
    record {
      sound = ap (λ (x : Seen). x.sound) e ∙ n.sound;
      slots = ap (λ (x : Seen). x.slots) e ∙ n.slots ∙ add_assoc v.slots s.limits.slots (all_slots (made_table l));
      octets = ap (λ (x : Seen). x.octets) e ∙ n.octets ∙ add_assoc v.octets (area_of s.limits) (all_octets (made_table l));
    }

pub sees_sound : (lens : List ℕ) (j : ℕ) (v : Seen) (l : List Settings) → Going v j → (fold_from see_one lens j v l).sound ≡ true → Good v j l
unfolding fold_from each_fit free
sees_sound lens j v [] g e = record { few = omega (arith, g.few); fit = refl; free = refl }
sees_sound lens j v (s ∷ l) g e =
    go (ltb j 16) refl (fit s) refl (clashes_seen v s.addresses j 0) refl (λ w x. sees_sound lens (suc j) (noted v s j) l w x)
  where
    spoils : see_one v s lens j ≡ unsound v → Good v j (s ∷ l)
    spoils p =
        absurd
        (false≢true
        (sym (ap (λ (w : Seen). w.sound) (stays_spoilt lens (suc j) (unsound v) l refl)) ∙ ap (λ (w : Seen). (fold_from see_one lens (suc j) w l).sound) (sym p) ∙ e))

    go : (a : Bool) → ltb j 16 ≡ a → (b : Bool) → fit s ≡ b → (c : Bool) → clashes_seen v s.addresses j 0 ≡ c
        → (Going (noted v s j) (suc j) → (fold_from see_one lens (suc j) (noted v s j) l).sound ≡ true → Good (noted v s j) (suc j) l) → Good v j (s ∷ l)
    go false p b q c r next = spoils (one_many v s lens j g.sound (ltb-false j 16 p))
    go true p false q c r next =
        spoils (one_unfit v s lens j g.sound (ltb-true j 16 p) (omega (arith, g.slots, g.few)) (omega (arith, g.octets, g.few)) q)
    go true p true q true r next =
        spoils (one_taken v s lens j g.sound (ltb-true j 16 p) (omega (arith, g.slots, g.few)) (omega (arith, g.octets, g.few)) q r)
    go true p true q false r next =
        let w = goes_on v s lens j g (ltb-true j 16 p) q r in
        good_both v s j l g (ltb-true j 16 p) q r
        (next w.1 (ap (λ (x : Seen). (fold_from see_one lens (suc j) x l).sound) (sym w.0) ∙ e))

-- ---- the routes that are noted: each by its index

module _ (f : Routes → List ℕ) (g : Settings → ℕ) (law : (r : Routes) (s : Settings) (j : ℕ) → f (routed r s j) ≡ set (f r) j (g s)) where
  abbrev Whole : Seen → Type 0
  Whole v = length (f v.routes) ≡ 16

  whole_noted : (v : Seen) (s : Settings) (j : ℕ) → Whole v → Whole (noted v s j)
  whole_noted v s j w = ap length (law v.routes s j) ∙ length-set (f v.routes) j (g s) ∙ w

  -- those before stay
  kept_before : (lens : List ℕ) (j : ℕ) (v : Seen) (l : List Settings) → Going v j → Good v j l → (i : ℕ) → i < j
      → get_or (f (fold_from see_one lens j v l).routes) i 0 ≡ get_or (f v.routes) i 0
  unfolding fold_from
  kept_before lens j v [] g1 h i below = refl
  kept_before lens j v (s ∷ l) g1 h i below =
      let p = good_first v s j l g1 h in
      let w = goes_on v s lens j g1 p.0 p.1 p.2 in
      ap (λ (x : Seen). get_or (f (fold_from see_one lens (suc j) x l).routes) i 0) w.0
      ∙ kept_before lens (suc j) (noted v s j) l w.1 p.3 i (omega (arith, below))
      ∙ ap (λ (x : List ℕ). get_or x i 0) (law v.routes s j)
      ∙ get_or-set_other (f v.routes) j i (g s) 0 (λ e. absurd (omega (arith, below, e)))

  pub noted_routes : (lens : List ℕ) (j : ℕ) (v : Seen) (l : List Settings) → Going v j → Good v j l → Whole v → (i : ℕ) → i < length l
      → get_or (f (fold_from see_one lens j v l).routes) (j + i) 0 ≡ get_or (map g l) i 0
  unfolding fold_from
  noted_routes lens j v [] g1 h whole i below = absurd (not-suc-le-zero below)
  noted_routes lens j v (s ∷ l) g1 h whole zero below =
      let p = good_first v s j l g1 h in
      let w = goes_on v s lens j g1 p.0 p.1 p.2 in
      ap₂ (λ (x : Seen) (k : ℕ). get_or (f (fold_from see_one lens (suc j) x l).routes) k 0) w.0 (add-zero j)
      ∙ kept_before lens (suc j) (noted v s j) l w.1 p.3 j (omega arith)
      ∙ ap (λ (x : List ℕ). get_or x j 0) (law v.routes s j)
      ∙ get_or-set_same (f v.routes) j (g s) 0 (omega (arith, p.0, whole))
  noted_routes lens j v (s ∷ l) g1 h whole (suc i) below =
      let p = good_first v s j l g1 h in
      let w = goes_on v s lens j g1 p.0 p.1 p.2 in
      ap₂ (λ (x : Seen) (k : ℕ). get_or (f (fold_from see_one lens (suc j) x l).routes) k 0) w.0 (omega (arith, add-suc j i))
      ∙ noted_routes lens (suc j) (noted v s j) l w.1 p.3 (whole_noted v s j whole) i (le_of_suc-le-suc below)
