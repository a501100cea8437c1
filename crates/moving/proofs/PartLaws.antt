-- Laws of a unit that is held in one part of what is lent, while another part is filed: its own part stays.
-- Assumes nothing.
use mathlib.Core.Path.{◌≡◌, sym, ap, ap₂, ◌∙◌, subst, subst₂}
use mathlib.Core.Logic.{◌⊎◌}
use mathlib.Core.List.{List, ◌++◌}
use Prim.Native.Nat.{ℕ, ◌+◌, ◌-◌, ◌≤◌}
use native.Mathlib.Omega.{arith}
use lib.ListN.{length, take, drop}
use Rattle.slots.specs.Slots.{Sized, laid}
use Rattle.slots.proofs.SlotLaws.{laid_length, laid_here, laid_before, laid_after, laid_elsewhere}
use Rattle.channel.specs.Places.{slot_in}
use Rattle.channel.specs.Pairs.{again}
use Rattle.store.specs.Store.{EachFits, octets_in}
use Rattle.table.specs.Lent.{area_of, part_of}
use Rattle.table.proofs.Parts.{put_laid}
use borrow.Rule.Slice.PartMut.{put_mid}
use Rattle.moving.specs.declared.refiling.Lot.{Lot}
use Rattle.moving.specs.declared.refiling.Unit as held
use Rattle.moving.specs.Refiling.{own_of, lens_of, Lies, Apart, unit_in, Holds}

-- ---- of what is lent, no more than one part has changed
module _ (m0 : List ℕ) (at n : ℕ) (within : at + n ≤ length m0) (m : List ℕ) (filed : m ≡ laid m0 at (part_of at n m))
    (whole : length (part_of at n m) ≡ n) where
  inside : at + length (part_of at n m) ≤ length m0
  inside = omega (arith, whole)

  pub kept_length : length m ≡ length m0
  kept_length = ap length filed ∙ laid_length m0 at (part_of at n m) inside

  -- a part before it or behind it stays
  pub kept_out : (from k : ℕ) → (from + k ≤ at) ⊎ (at + n ≤ from) → part_of from k m ≡ part_of from k m0
  kept_out from k out =
      ap (part_of from k) filed
      ∙ laid_elsewhere m0 at (part_of at n m) inside from k (subst (λ (j : ℕ). (from + k ≤ at) ⊎ (at + j ≤ from)) (sym whole) out)

  -- it changes once more
  module _ (m1 p : List ℕ) (is : m1 ≡ laid m at p) (long : length p ≡ n) where
    fits : at + length p ≤ length m
    fits = omega (arith, kept_length)

    pub turn_own : part_of at n m1 ≡ p
    turn_own =
        ap (part_of at n) is
        ∙ ap (λ (j : ℕ). take j (drop at (laid m at p))) (sym long)
        ∙ laid_here m at p fits

    pub turn_filed : m1 ≡ laid m0 at (part_of at n m1)
    unfolding laid
    turn_filed =
        let front : take at m ≡ take at m0 =
        ap (take at) filed ∙ laid_before m0 at (part_of at n m) inside at (omega arith) in
        let back : drop (at + length p) m ≡ drop (at + length p) m0 =
        ap (drop (at + length p)) filed ∙ laid_after m0 at (part_of at n m) inside (at + length p) (omega (arith, whole)) in
        is ∙ ap₂ (λ (a b : List ℕ). a ++ (p ++ b)) front back ∙ ap (laid m0 at) (sym turn_own)

-- ---- a part as code cuts it out: the octets from o up to e, the lengths from s up to t
module _ (mem lens : List ℕ) (o e s t : ℕ) where
  module _ (lot : Lot) (octets : (o ≡ lot.octet) × (e ≡ lot.octet + area_of lot.limits)) (lengths : (s ≡ lot.slot) × (t ≡ lot.slot + lot.limits.slots)) where
    pub cut_octets : take (e - o) (drop o mem) ≡ own_of lot mem
    cut_octets = let n : e - o ≡ area_of lot.limits = omega (arith, octets.0, octets.1) in ap₂ (λ (k j : ℕ). take k (drop j mem)) n octets.0

    pub cut_lens : take (t - s) (drop s lens) ≡ lens_of lot lens
    cut_lens = let n : t - s ≡ lot.limits.slots = omega (arith, lengths.0, lengths.1) in ap₂ (λ (k j : ℕ). take k (drop j lens)) n lengths.0

    pub cut_sized : Lies lot mem lens → Sized lot.limits.slots lot.limits.payload (take (e - o) (drop o mem)) (take (t - s) (drop s lens))
    cut_sized lies = subst₂ (Sized lot.limits.slots lot.limits.payload) (sym cut_octets) (sym cut_lens) lies.sized

    -- and put back, with other octets and lengths in it
    pub put_octets : (q : List ℕ) → length q ≡ area_of lot.limits → put_mid o (e - o) mem q ≡ laid mem lot.octet q
    put_octets q long =
        let n : e - o ≡ area_of lot.limits = omega (arith, octets.0, octets.1) in
        put_laid mem o (e - o) (area_of lot.limits) q n long ∙ ap (λ (k : ℕ). laid mem k q) octets.0

    pub put_lens : (q : List ℕ) → length q ≡ lot.limits.slots → put_mid s (t - s) lens q ≡ laid lens lot.slot q
    put_lens q long =
        let n : t - s ≡ lot.limits.slots = omega (arith, lengths.0, lengths.1) in
        put_laid lens s (t - s) lot.limits.slots q n long ∙ ap (λ (k : ℕ). laid lens k q) lengths.0

  module _ (u : held.Unit) (octets : (o ≡ u.lot.octet) × (e ≡ u.lot.octet + area_of u.lot.limits))
      (lengths : (s ≡ u.lot.slot) × (t ≡ u.lot.slot + u.lot.limits.slots)) where
    pub cut_each : Holds u mem lens → EachFits (slot_in u.lot.limits) u.lot.limits.payload (take (t - s) (drop s lens)) u.lot.limits.slots u.count u.from
    cut_each holds =
        subst (λ (l : List ℕ). EachFits (slot_in u.lot.limits) u.lot.limits.payload l u.lot.limits.slots u.count u.from)
        (sym (cut_lens u.lot octets lengths))
        holds.each

    pub cut_unit : octets_in (slot_in u.lot.limits) u.lot.limits.payload (take (e - o) (drop o mem)) (take (t - s) (drop s lens)) u.lot.limits.slots u.count u.from
        ≡ unit_in u mem lens
    cut_unit =
        ap₂ (λ (m l : List ℕ). octets_in (slot_in u.lot.limits) u.lot.limits.payload m l u.lot.limits.slots u.count u.from)
        (cut_octets u.lot octets lengths)
        (cut_lens u.lot octets lengths)

    pub cut_size : Holds u mem lens
        → u.size ≡ length (again (octets_in (slot_in u.lot.limits) u.lot.limits.payload (take (e - o) (drop o mem)) (take (t - s) (drop s lens)) u.lot.limits.slots u.count u.from))
    cut_size holds = holds.size ∙ ap (λ (w : List ℕ). length (again w)) (sym cut_unit)

-- ---- a unit, while segments go to another part
module _ (u : held.Unit) (to : Lot) (mem0 lens0 mem lens : List ℕ) (lies : Lies u.lot mem0 lens0) (there : Lies to mem0 lens0)
    (holds : Holds u mem0 lens0) (apart : Apart u.lot to) (sized : Sized to.limits.slots to.limits.payload (own_of to mem) (lens_of to lens))
    (mem_is : mem ≡ laid mem0 to.octet (own_of to mem)) (lens_is : lens ≡ laid lens0 to.slot (lens_of to lens)) where
  still_mem : length mem ≡ length mem0
  still_mem = kept_length mem0 to.octet (area_of to.limits) there.octets mem mem_is sized.exact

  still_lens : length lens ≡ length lens0
  still_lens = kept_length lens0 to.slot to.limits.slots there.slots lens lens_is sized.each

  own_stays : own_of u.lot mem ≡ own_of u.lot mem0
  own_stays = kept_out mem0 to.octet (area_of to.limits) there.octets mem mem_is sized.exact u.lot.octet (area_of u.lot.limits) apart.octets

  lens_stay : lens_of u.lot lens ≡ lens_of u.lot lens0
  lens_stay = kept_out lens0 to.slot to.limits.slots there.slots lens lens_is sized.each u.lot.slot u.lot.limits.slots apart.slots

  pub still_lies : Lies u.lot mem lens
  still_lies =
      record {
        sized = subst₂ (Sized u.lot.limits.slots u.lot.limits.payload) (sym own_stays) (sym lens_stay) lies.sized;
        slots = subst (λ (n : ℕ). u.lot.slot + u.lot.limits.slots ≤ n) (sym still_lens) lies.slots;
        octets = subst (λ (n : ℕ). u.lot.octet + area_of u.lot.limits ≤ n) (sym still_mem) lies.octets;
      }

  pub still_there : Lies to mem lens
  still_there =
      record {
        sized = sized;
        slots = subst (λ (n : ℕ). to.slot + to.limits.slots ≤ n) (sym still_lens) there.slots;
        octets = subst (λ (n : ℕ). to.octet + area_of to.limits ≤ n) (sym still_mem) there.octets;
      }

  pub still_unit : unit_in u mem lens ≡ unit_in u mem0 lens0
  still_unit =
      ap₂ (λ (m l : List ℕ). octets_in (slot_in u.lot.limits) u.lot.limits.payload m l u.lot.limits.slots u.count u.from) own_stays lens_stay

  pub still_holds : Holds u mem lens
  still_holds =
      record {
        from = holds.from;
        count = holds.count;
        each = subst (λ (l : List ℕ). EachFits (slot_in u.lot.limits) u.lot.limits.payload l u.lot.limits.slots u.count u.from) (sym lens_stay) holds.each;
        size = holds.size ∙ ap (λ (w : List ℕ). length (again w)) (sym still_unit);
      }
