-- The record that suits best, as the survey finds it from the first record on, and as `chosen_from` says it.
-- Assumes nothing.
use mathlib.Core.Path.{◌≡◌, refl, sym, ap, ◌∙◌}
use mathlib.Core.Bool.{Bool, true, false}
use mathlib.Core.List.{List, [], ◌∷◌}
use Prim.Native.Nat.{ℕ, suc, ◌+◌, ◌<◌, suc-le-suc}
use native.Mathlib.Nat.{add-zero, add-suc}
use native.Mathlib.Omega.{arith}
use borrow.Author.Tests.{ltb-true, ltb-false, leb-true, leb-false, lt-ltb, le-ltb}
use lib.Dec.{ltb, leb}
use lib.ListN.{length, get_or, take}
use Rattle.std.specs.Prelude.{if◌then◌else◌}
use Rattle.channel.specs.declared.record.Channel.{Channel}
use Rattle.table.specs.declared.looking.Look.{Look}
use Rattle.table.specs.declared.surveying.Spot.{Spot}
use Rattle.table.specs.Looking.{graded, chosen_from}
use Rattle.table.specs.Lent.{area_of, all_slots, all_octets}
use Rattle.table.specs.Serving.{blank}
use Rattle.table.specs.Surveying.{better}

-- the best of t, whose first record has index j, where so many slots and octets lie before it
unfoldable pub spot_from : Look → List ℕ → ℕ → ℕ → ℕ → List Channel → Spot
spot_from look lines j slot octet [] = record { at = j; slot = slot; octet = octet; grade = 48 }
spot_from look lines j slot octet (c ∷ t) =
    if leb (graded look lines j c) (spot_from look lines (j + 1) (slot + c.limits.slots) (octet + area_of c.limits) t).grade
    then record { at = j; slot = slot; octet = octet; grade = graded look lines j c }
    else spot_from look lines (j + 1) (slot + c.limits.slots) (octet + area_of c.limits) t

-- ---- from the first record on

-- a record is weighed against the best before it, and then those behind it against the better one: as if it were weighed with those behind it first
pub weighed : (old here rest : Spot) → better (better old here) rest ≡ better old (if leb here.grade rest.grade then here else rest)
weighed old here rest = go (ltb here.grade old.grade) refl (leb here.grade rest.grade) refl
  where
    go : (a : Bool) → ltb here.grade old.grade ≡ a → (b : Bool) → leb here.grade rest.grade ≡ b
        → better (better old here) rest ≡ better old (if leb here.grade rest.grade then here else rest)
    go true p true q = simp (p, q, le-ltb rest.grade here.grade (leb-true here.grade rest.grade q))
    go true p false q =
        let h = leb-false here.grade rest.grade q in
        simp (p, q, lt-ltb rest.grade here.grade h, lt-ltb rest.grade old.grade (omega (arith, h, ltb-true here.grade old.grade p)))
    go false p true q =
        let h = leb-true here.grade rest.grade q in
        simp (p, q, le-ltb rest.grade old.grade (omega (arith, h, ltb-false here.grade old.grade p)))
    go false p false q = simp (p, q)

-- ---- how far from the first it lies

unfoldable pub far : Look → List ℕ → ℕ → List Channel → ℕ
far look lines j [] = 0
far look lines j (c ∷ t) = if leb (graded look lines j c) (chosen_from look lines (j + 1) t).grade then 0 else suc (far look lines (j + 1) t)

-- the spot has the grade of the one chosen
pub spot_grade : (look : Look) (lines : List ℕ) (j slot octet : ℕ) (t : List Channel) → (spot_from look lines j slot octet t).grade ≡ (chosen_from look lines j t).grade
unfolding spot_from chosen_from
spot_grade look lines j slot octet [] = refl
spot_grade look lines j slot octet (c ∷ t) =
    let r = spot_grade look lines (j + 1) (slot + c.limits.slots) (octet + area_of c.limits) t in
    go (leb (graded look lines j c) (chosen_from look lines (j + 1) t).grade) refl r
  where
    go : (b : Bool) → leb (graded look lines j c) (chosen_from look lines (j + 1) t).grade ≡ b
        → (spot_from look lines (j + 1) (slot + c.limits.slots) (octet + area_of c.limits) t).grade ≡ (chosen_from look lines (j + 1) t).grade
        → (spot_from look lines j slot octet (c ∷ t)).grade ≡ (chosen_from look lines j (c ∷ t)).grade
    go true p r = simp (r, p)
    go false p r = simp (r, p)

-- the index of the one chosen
pub chosen_at : (look : Look) (lines : List ℕ) (j : ℕ) (t : List Channel) → (chosen_from look lines j t).at ≡ j + far look lines j t
unfolding chosen_from far
chosen_at look lines j [] = sym (add-zero j)
chosen_at look lines j (c ∷ t) = go (leb (graded look lines j c) (chosen_from look lines (j + 1) t).grade) refl (chosen_at look lines (j + 1) t)
  where
    go : (b : Bool) → leb (graded look lines j c) (chosen_from look lines (j + 1) t).grade ≡ b → (chosen_from look lines (j + 1) t).at ≡ j + 1 + far look lines (j + 1) t
        → (chosen_from look lines j (c ∷ t)).at ≡ j + far look lines j (c ∷ t)
    go true p e = simp (p) (sym (add-zero j))
    go false p e = simp (p) (omega (arith, e))

-- where it lies
pub record Lies (look : Look) (lines : List ℕ) (j s o : ℕ) (t : List Channel) : Type 0 where
  pub at : (spot_from look lines j s o t).at ≡ j + far look lines j t
  pub slot : (spot_from look lines j s o t).slot ≡ s + all_slots (take (far look lines j t) t)
  pub octet : (spot_from look lines j s o t).octet ≡ o + all_octets (take (far look lines j t) t)

pub spot_lies : (look : Look) (lines : List ℕ) (j s o : ℕ) (t : List Channel) → Lies look lines j s o t
unfolding spot_from chosen_from far all_slots all_octets
spot_lies look lines j s o [] = record { at = sym (add-zero j); slot = sym (add-zero s); octet = sym (add-zero o) }
spot_lies look lines j s o (c ∷ t) =
    go (leb (graded look lines j c) (chosen_from look lines (j + 1) t).grade) refl
    (spot_lies look lines (j + 1) (s + c.limits.slots) (o + area_of c.limits) t)
  where
    r : (spot_from look lines (j + 1) (s + c.limits.slots) (o + area_of c.limits) t).grade ≡ (chosen_from look lines (j + 1) t).grade
    r = spot_grade look lines (j + 1) (s + c.limits.slots) (o + area_of c.limits) t

    go : (b : Bool) → leb (graded look lines j c) (chosen_from look lines (j + 1) t).grade ≡ b
        → Lies look lines (j + 1) (s + c.limits.slots) (o + area_of c.limits) t → Lies look lines j s o (c ∷ t)
    go true p next =
        record {
          at = simp (r, p) (sym (add-zero j));
          slot = simp (r, p) (sym (add-zero s));
          octet = simp (r, p) (sym (add-zero o));
        }
    go false p next =
        record {
          at = simp (r, p) (omega (arith, next.at));
          slot = simp (r, p) (omega (arith, next.slot));
          octet = simp (r, p) (omega (arith, next.octet));
        }

-- one that suits is among the records, and has the grade that is told of it
abbrev pub Suits : Look → List ℕ → ℕ → List Channel → Type 0
Suits look lines j t = (far look lines j t < length t) × ((chosen_from look lines j t).grade ≡ graded look lines (j + far look lines j t) (get_or t (far look lines j t) blank))

pub chosen_suits : (look : Look) (lines : List ℕ) (j : ℕ) (t : List Channel) → (chosen_from look lines j t).grade < 48 → Suits look lines j t
unfolding chosen_from far
chosen_suits look lines j [] h = absurd (omega (arith, h))
chosen_suits look lines j (c ∷ t) h = go (leb (graded look lines j c) (chosen_from look lines (j + 1) t).grade) refl (chosen_suits look lines (j + 1) t) h
  where
    go : (b : Bool) → leb (graded look lines j c) (chosen_from look lines (j + 1) t).grade ≡ b → ((chosen_from look lines (j + 1) t).grade < 48 → Suits look lines (j + 1) t)
        → (chosen_from look lines j (c ∷ t)).grade < 48 → Suits look lines j (c ∷ t)
    go true p next = simp (p) (λ k. (omega arith, ap (λ (i : ℕ). graded look lines i c) (sym (add-zero j))))
    go false p next =
        simp (p) (λ k.
        let q = next k in
        let e : j + 1 + far look lines (j + 1) t ≡ j + suc (far look lines (j + 1) t) = omega (arith, add-suc j (far look lines (j + 1) t)) in
        (suc-le-suc q.0, q.1 ∙ ap (λ (i : ℕ). graded look lines i (get_or t (far look lines (j + 1) t) blank)) e))
