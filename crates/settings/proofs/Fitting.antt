-- Settings that are fit beside one another, from one of them on; and what they ask for together.
-- Assumes nothing.
use Rattle.std.proofs.Common.{◌≡◌, ◌∙◌, refl, sym, ap, ap₂, subst, ℕ, ◌+◌, ◌≤◌, ◌<◌, Bool, true, false, not, ◌&&◌, ◌||◌, List, [], ◌∷◌, length, get_or, drop, take, ◌-◌, add-one, arith}
use Rattle.std.proofs.lemmas.List.{drop_all, take_all}
use Rattle.std.proofs.Math.ListN.{length-drop}
use Rattle.std.proofs.Math.Seq.{drop-cons, drop-drop, length-take-le}
use Rattle.std.specs.List.{list_any, list_all, enumerate_from}
use borrow.Author.Tests.{ltb-true, ltb-false}
use lib.Dec.{ltb}
use Rattle.channel.specs.declared.record.Addresses.{Addresses}
use Rattle.channel.specs.declared.record.Settings.{Settings}
use Rattle.channel.specs.Settings.{fit, clash}
use Rattle.channel.specs.Tables.{clashes, each_fit, fit_table}
use Rattle.channel.proofs.TableLaws.{table_count}
use Rattle.table.specs.Lent.{area_of, all_slots, all_octets}
use Rattle.table.specs.Surveying.{looked_at}
use Rattle.table.proofs.Looked.{looked_enough}
use Rattle.settings.specs.Configuring.{made_table}

pub clashes_any : (a : Addresses) (l : List Settings) → clashes a l ≡ list_any (λ (s : Settings). clash a s.addresses) l
unfolding clashes
clashes_any a [] = refl
clashes_any a (s ∷ l) = ap (λ (b : Bool). clash a s.addresses || b) (clashes_any a l)

-- ---- all of them, each beside those behind it

-- the one at such a place is fit, and clashes with none behind it
abbrev pub fits_at : List Settings → ℕ × Settings → Bool
fits_at s p = fit p.1 && not (list_any (λ (x : Settings). clash p.1.addresses x.addresses) (take (length s - (p.0 + 1)) (drop (p.0 + 1) s)))

pub each_all : (s l : List Settings) (i : ℕ) → drop i s ≡ l → list_all (fits_at s) (enumerate_from i l) ≡ each_fit l
unfolding each_fit
each_all s [] i e = refl
each_all s (x ∷ l) i e =
    let next : drop (i + 1) s ≡ l = sym (drop-drop 1 i s) ∙ ap (drop 1) e in
    let behind : take (length s - (i + 1)) (drop (i + 1) s) ≡ l = take_all (length s - (i + 1)) (drop (i + 1) s) (omega (arith, length-drop (i + 1) s)) ∙ next in
    ap₂ (λ (k : List Settings) (b : Bool). (fit x && not (list_any (λ (y : Settings). clash x.addresses y.addresses) k)) && b) behind (each_all s l (i + 1) next)
    ∙ ap (λ (b : Bool). (fit x && not b) && each_fit l) (sym (clashes_any x.addresses l))

-- ---- those from the i-th on

module _ (s : List Settings) (i : ℕ) where
  pub slots_none : length s ≤ i → all_slots (made_table (drop i s)) ≡ 0
  unfolding all_slots
  slots_none h = rw (drop_all i s h) refl

  pub octets_none : length s ≤ i → all_octets (made_table (drop i s)) ≡ 0
  unfolding all_octets
  octets_none h = rw (drop_all i s h) refl

  module _ (d : Settings) (within : i < length s) where
    next : drop i s ≡ get_or s i d ∷ drop (i + 1) s
    next = rw add-one (drop-cons s i d within)

    pub slots_more : all_slots (made_table (drop i s)) ≡ (get_or s i d).limits.slots + all_slots (made_table (drop (i + 1) s))
    unfolding all_slots
    slots_more = rw next refl

    pub octets_more : all_octets (made_table (drop i s)) ≡ area_of (get_or s i d).limits + all_octets (made_table (drop (i + 1) s))
    unfolding all_octets
    octets_more = rw next refl

-- ---- too many

too_many : (l : List Settings) → 16 < length l → fit_table l ≡ false
too_many l h = go (fit_table l) refl
  where
    go : (b : Bool) → fit_table l ≡ b → fit_table l ≡ false
    go true e = absurd (omega (arith, h, (table_count l e).1))
    go false e = e

-- what the first of them show is what all do: more than there may be are refused, whatever stands after the 17th
pub first_fit : (l : List Settings) (k : ℕ) → k ≡ looked_at (length l) → fit_table (take k l) ≡ fit_table l
first_fit l k e = go (ltb k (length l)) refl
  where
    go : (b : Bool) → ltb k (length l) ≡ b → fit_table (take k l) ≡ fit_table l
    go true p =
        let less : k < length l = ltb-true k (length l) p in
        let many : 16 < k = subst (λ (n : ℕ). n < length l → 16 < n) (sym e) (looked_enough (length l)) less in
        let size : length (take k l) ≡ k = length-take-le k l (omega (arith, less)) in
        too_many (take k l) (omega (arith, many, size)) ∙ sym (too_many l (omega (arith, many, less)))
    go false p = ap fit_table (take_all k l (ltb-false k (length l) p))
