-- What the survey of a whole table amounts to: where every record stands, the sums and the best; else it is not sound.
-- Assumes nothing.
use mathlib.Core.Path.{◌≡◌, refl, sym, ap, ap₂, ◌∙◌}
use mathlib.Core.Bool.{Bool, true, false, ◌&&◌}
use mathlib.Core.List.{List, [], ◌∷◌}
use Prim.Native.Nat.{ℕ, zero, suc, ◌+◌, ◌*◌, ◌≤◌, ◌<◌}
use native.Mathlib.Nat.{add-zero, add-suc, add_assoc, mul-le-mul_right, not-suc-le-zero, le_of_suc-le-suc}
use native.Mathlib.Omega.{arith}
use borrow.Author.Tests.{ltb-true, ltb-false, le-ltb}
use lib.Dec.{ltb}
use lib.ListN.{length, get_or, take, drop}
use lib.Seq.{drop-drop}
use Rattle.laws.proofs.Choice.{both, passed_by}
use Rattle.walks.specs.Fold.{fold_from}
use Rattle.channel.specs.declared.record.Channel.{Channel}
use Rattle.channel.specs.Standing.{standing}
use Rattle.channel.proofs.SettingsLaws.{fit_is}
use Rattle.channel.proofs.StandingLaws.{stands_is}
use Rattle.table.specs.declared.surveying.Survey.{Survey}
use Rattle.table.specs.declared.surveying.Spot.{Spot}
use Rattle.table.specs.Lent.{area_of, part_of, all_slots, all_octets, each_stands}
use Rattle.table.specs.Serving.{blank}
use Rattle.table.specs.Surveying.{unsound, better, spot_here, noted, survey_one}
use Rattle.table.proofs.OneLaws.{one_spoilt, one_many, one_lacks, one_stands}
use Rattle.table.proofs.Spots.{spot_from, weighed}

-- ---- records that all stand

pub stands_first : (c : Channel) (t : List Channel) (lens : List ℕ) → each_stands (c ∷ t) lens ≡ true
    → (standing c (take c.limits.slots lens) ≡ true) × (each_stands t (drop c.limits.slots lens) ≡ true)
unfolding each_stands
stands_first c t lens e = both (standing c (take c.limits.slots lens)) (each_stands t (drop c.limits.slots lens)) e

pub stands_both : (c : Channel) (t : List Channel) (lens : List ℕ) → standing c (take c.limits.slots lens) ≡ true
    → each_stands t (drop c.limits.slots lens) ≡ true → each_stands (c ∷ t) lens ≡ true
unfolding each_stands
stands_both c t lens e e2 = ap₂ (λ (x y : Bool). x && y) e e2

-- each stands with its own part
pub each_stands_lem : (t : List Channel) (lens : List ℕ) → each_stands t lens ≡ true → (k : ℕ) → k < length t
    → standing (get_or t k blank) (part_of (all_slots (take k t)) (get_or t k blank).limits.slots lens) ≡ true
unfolding all_slots
each_stands_lem [] lens e k h = absurd (not-suc-le-zero h)
each_stands_lem (c ∷ t) lens e zero h = (stands_first c t lens e).0
each_stands_lem (c ∷ t) lens e (suc k) h =
    let d = get_or t k blank in
    ap (λ (l : List ℕ). standing d (take d.limits.slots l)) (sym (drop-drop (all_slots (take k t)) c.limits.slots lens))
    ∙ each_stands_lem t (drop c.limits.slots lens) (stands_first c t lens e).1 k (le_of_suc-le-suc h)

-- its part lies within the whole
pub slots_within : (t : List Channel) (k : ℕ) → k < length t → all_slots (take k t) + (get_or t k blank).limits.slots ≤ all_slots t
unfolding all_slots
slots_within [] k h = absurd (not-suc-le-zero h)
slots_within (c ∷ t) zero h = omega arith
slots_within (c ∷ t) (suc k) h = omega (arith, slots_within t k (le_of_suc-le-suc h))

pub octets_within : (t : List Channel) (k : ℕ) → k < length t → all_octets (take k t) + area_of (get_or t k blank).limits ≤ all_octets t
unfolding all_octets
octets_within [] k h = absurd (not-suc-le-zero h)
octets_within (c ∷ t) zero h = omega arith
octets_within (c ∷ t) (suc k) h = omega (arith, octets_within t k (le_of_suc-le-suc h))

-- ---- the survey from a record on

-- it goes well so far: the sums are within bounds
pub record Going (v : Survey) (j : ℕ) : Type 0 where
  pub sound : v.sound ≡ true
  pub few : j ≤ 16
  pub slots : v.slots ≤ j * 128
  pub octets : v.octets ≤ j * 131072
  pub grade : v.spot.grade ≤ 48

bounds : (c : Channel) (lens : List ℕ) → standing c lens ≡ true → (c.limits.slots ≤ 128) × (area_of c.limits ≤ 131072)
bounds c lens e =
    let h = stands_is c lens e in
    let f = fit_is c.limits h.fit in
    (f.most, omega (arith, mul-le-mul_right c.limits.payload f.most, f.payload))

better_grade : (old new : Spot) → old.grade ≤ 48 → (better old new).grade ≤ 48
better_grade old new h = go (ltb new.grade old.grade) refl
  where
    go : (b : Bool) → ltb new.grade old.grade ≡ b → (better old new).grade ≤ 48
    go true e = simp (e) (omega (arith, ltb-true new.grade old.grade e, h))
    go false e = simp (e) h

pub goes_on : (v : Survey) (c : Channel) (lens : List ℕ) (j : ℕ) → Going v j → j < 16
    → standing c (part_of v.slots c.limits.slots lens) ≡ true
    → (survey_one v c lens j ≡ noted v c j) × Going (noted v c j) (suc j)
goes_on v c lens j g few e =
    let b = bounds c (part_of v.slots c.limits.slots lens) e in (
      one_stands v c lens j g.sound few (omega (arith, g.slots)) (omega (arith, g.octets)) e,
      record { sound = refl; few = few; slots = omega (arith, g.slots, b.0); octets = omega (arith, g.octets, b.1); grade = better_grade v.spot (spot_here v c j) g.grade },
    )

-- what is spoilt stays so
pub stays_spoilt : (lens : List ℕ) (j : ℕ) (v : Survey) (t : List Channel) → v.sound ≡ false → fold_from survey_one lens j v t ≡ v
unfolding fold_from
stays_spoilt lens j v [] e = refl
stays_spoilt lens j v (c ∷ t) e =
    ap (λ (w : Survey). fold_from survey_one lens (suc j) w t) (one_spoilt v c lens j e) ∙ stays_spoilt lens (suc j) v t e

abbrev pub finally : Survey → ℕ → List Channel → Survey
finally v j t =
    record {
      look = v.look;
      lines = v.lines;
      sound = true;
      slots = v.slots + all_slots t;
      octets = v.octets + all_octets t;
      spot = better v.spot (spot_from v.look v.lines j v.slots v.octets t);
    }

pub stands_none : (lens : List ℕ) → each_stands [] lens ≡ true
unfolding each_stands
stands_none lens = refl

-- with no record left it is what it was
none : (v : Survey) (j : ℕ) → Going v j → v ≡ finally v j []
unfolding all_slots all_octets spot_from
none v j g =
    ap (λ (b : Bool). record { look = v.look; lines = v.lines; sound = b; slots = v.slots; octets = v.octets; spot = v.spot }) g.sound
    ∙ ap (λ (s : ℕ). record { look = v.look; lines = v.lines; sound = true; slots = s; octets = v.octets; spot = v.spot }) (sym (add-zero v.slots))
    ∙ ap (λ (o : ℕ). record { look = v.look; lines = v.lines; sound = true; slots = v.slots + 0; octets = o; spot = v.spot }) (sym (add-zero v.octets))
    ∙ ap (λ (x : Spot). record { look = v.look; lines = v.lines; sound = true; slots = v.slots + 0; octets = v.octets + 0; spot = x })
    (sym (passed_by (ltb 48 v.spot.grade) (spot_from v.look v.lines j v.slots v.octets []) v.spot (le-ltb 48 v.spot.grade g.grade)))

-- the record counted, and those behind it: counted together
noted_finally : (v : Survey) (c : Channel) (j : ℕ) (t : List Channel) → finally (noted v c j) (suc j) t ≡ finally v j (c ∷ t)
unfolding all_slots all_octets spot_from
noted_finally v c j t =
    let one : suc j ≡ j + 1 = omega arith in
    let rest : ℕ → Spot = λ i. spot_from v.look v.lines i (v.slots + c.limits.slots) (v.octets + area_of c.limits) t in
    let spots : better (better v.spot (spot_here v c j)) (rest (suc j)) ≡ better v.spot (spot_from v.look v.lines j v.slots v.octets (c ∷ t)) =
    ap (λ (i : ℕ). better (better v.spot (spot_here v c j)) (rest i)) one ∙ weighed v.spot (spot_here v c j) (rest (j + 1)) in
    ap (λ (s : ℕ). record { look = v.look; lines = v.lines; sound = true; slots = s; octets = v.octets + area_of c.limits + all_octets t; spot = better (better v.spot (spot_here v c j)) (rest (suc j)) }) (add_assoc v.slots c.limits.slots (all_slots t))
    ∙ ap (λ (o : ℕ). record { look = v.look; lines = v.lines; sound = true; slots = v.slots + (c.limits.slots + all_slots t); octets = o; spot = better (better v.spot (spot_here v c j)) (rest (suc j)) }) (add_assoc v.octets (area_of c.limits) (all_octets t))
    ∙ ap (λ (x : Spot). record { look = v.look; lines = v.lines; sound = true; slots = v.slots + (c.limits.slots + all_slots t); octets = v.octets + (area_of c.limits + all_octets t); spot = x }) spots

-- every record stands, and there are not too many
pub survey_good : (lens : List ℕ) (j : ℕ) (v : Survey) (t : List Channel) → Going v j → j + length t ≤ 16
    → each_stands t (drop v.slots lens) ≡ true → fold_from survey_one lens j v t ≡ finally v j t
unfolding fold_from
survey_good lens j v [] g few e = none v j g
survey_good lens j v (c ∷ t) g few e =
    let p = stands_first c t (drop v.slots lens) e in
    let w = goes_on v c lens j g (omega (arith, add-suc j (length t))) p.0 in
    let after = ap (λ (l : List ℕ). each_stands t l) (sym (drop-drop c.limits.slots v.slots lens)) ∙ p.1 in
    ap (λ (x : Survey). fold_from survey_one lens (suc j) x t) w.0
    ∙ survey_good lens (suc j) (noted v c j) t w.1 (omega (arith, add-suc j (length t))) after
    ∙ noted_finally v c j t

-- a record lacks its condition, or there are too many
pub survey_bad : (lens : List ℕ) (j : ℕ) (v : Survey) (t : List Channel) → Going v j
    → (j + length t ≤ 16 → each_stands t (drop v.slots lens) ≡ true → ⊥) → (fold_from survey_one lens j v t).sound ≡ false
unfolding fold_from
survey_bad lens j v [] g not = absurd (not (omega (arith, g.few)) (stands_none (drop v.slots lens)))
survey_bad lens j v (c ∷ t) g not =
    by_count (ltb j 16) refl
    (λ few q n. survey_bad lens (suc j) (noted v c j) t (goes_on v c lens j g few q).1 n)
  where
    spoils : survey_one v c lens j ≡ unsound v → (fold_from survey_one lens (suc j) (survey_one v c lens j) t).sound ≡ false
    spoils e = ap (λ (w : Survey). (fold_from survey_one lens (suc j) w t).sound) e ∙ ap (λ (w : Survey). w.sound) (stays_spoilt lens (suc j) (unsound v) t refl)

    by_stand : (few : j < 16) (b : Bool) → standing c (part_of v.slots c.limits.slots lens) ≡ b
        → ((few : j < 16) (q : standing c (part_of v.slots c.limits.slots lens) ≡ true)
        → (suc j + length t ≤ 16 → each_stands t (drop (v.slots + c.limits.slots) lens) ≡ true → ⊥)
        → (fold_from survey_one lens (suc j) (noted v c j) t).sound ≡ false)
        → (fold_from survey_one lens (suc j) (survey_one v c lens j) t).sound ≡ false
    by_stand few false q next = spoils (one_lacks v c lens j g.sound few (omega (arith, g.slots)) (omega (arith, g.octets)) q)
    by_stand few true q next =
        ap (λ (w : Survey). (fold_from survey_one lens (suc j) w t).sound) (goes_on v c lens j g few q).0
        ∙ next few q
        (λ k e. not (omega (arith, k, add-suc j (length t)))
        (stands_both c t (drop v.slots lens) q (ap (λ (l : List ℕ). each_stands t l) (drop-drop c.limits.slots v.slots lens) ∙ e)))

    by_count : (b : Bool) → ltb j 16 ≡ b
        → ((few : j < 16) (q : standing c (part_of v.slots c.limits.slots lens) ≡ true)
        → (suc j + length t ≤ 16 → each_stands t (drop (v.slots + c.limits.slots) lens) ≡ true → ⊥)
        → (fold_from survey_one lens (suc j) (noted v c j) t).sound ≡ false)
        → (fold_from survey_one lens (suc j) (survey_one v c lens j) t).sound ≡ false
    by_count true p next = by_stand (ltb-true j 16 p) (standing c (part_of v.slots c.limits.slots lens)) refl next
    by_count false p next = spoils (one_many v c lens j g.sound (ltb-false j 16 p))
