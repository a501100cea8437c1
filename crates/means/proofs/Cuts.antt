-- A unit cut: how many segments it has, which is which, and that marks and flags say the same of each.
-- Assumes nothing.
use mathlib.Core.Path.{◌≡◌, refl, ap, ◌∙◌}
use mathlib.Core.Bool.{Bool, true, false}
use mathlib.Core.List.{List, ◌++◌}
use Prim.Native.Nat.{ℕ, zero, suc, ◌+◌, ◌-◌, ◌<◌}
use native.Mathlib.Nat.{zero-add}
use native.Mathlib.Omega.{arith}
use borrow.Author.Tests.{eqb-true, eqb-false, eq-eqb}
use lib.Dec.{eqb}
use lib.ListN.{length, get_or, length-append}
use lib.Seq.{get_or-append-add}
use Rattle.std.specs.Prelude.{if◌then◌else◌}
use Rattle.slots.specs.Marks.{mark_of}
use Rattle.slots.specs.Units.{segments_of, flags_of}
use Rattle.slots.proofs.Units.{segments_some}
use Rattle.protocol.specs.Units.{DataUnit, Segment, blank, segment_at, segments_from, cut}
use Rattle.means.specs.Meaning.{segment_by}

module _ (payload : ℕ) (u : DataUnit) where
  from_length : (count n i : ℕ) → length (segments_from payload u count n i) ≡ n
  unfolding segments_from
  from_length count zero i = refl
  from_length count (suc n) i = ap suc (from_length count n (i + 1))

  from_at : (count n i j : ℕ) → j < n → get_or (segments_from payload u count n i) j blank ≡ segment_at payload u count (i + j)
  unfolding segments_from
  from_at count zero i j h = absurd (omega arith)
  from_at count (suc n) i zero h = let e : i ≡ i + 0 = omega arith in ap (segment_at payload u count) e
  from_at count (suc n) i (suc j) h =
      let e : i + 1 + j ≡ i + suc j = omega arith in
      from_at count n (i + 1) j (omega arith) ∙ ap (segment_at payload u count) e

  pub cut_length : length (cut payload u) ≡ segments_of payload (length u)
  unfolding cut
  cut_length = from_length (segments_of payload (length u)) (segments_of payload (length u)) 0

  pub cut_at : (j : ℕ) → j < segments_of payload (length u)
      → get_or (cut payload u) j blank ≡ segment_at payload u (segments_of payload (length u)) j
  unfolding cut
  cut_at j h =
      let count = segments_of payload (length u) in
      from_at count count 0 j h ∙ ap (segment_at payload u count) (zero-add j)

  -- a line that ends with a unit cut ends with the unit's last segment
  pub cut_ends : (line : List Segment) (i : ℕ) → suc i ≡ length (line ++ cut payload u) → (get_or (line ++ cut payload u) i blank).last ≡ true
  cut_ends line i e =
      let count = segments_of payload (length u) in
      let some = segments_some payload (length u) in
      let k = count - 1 in
      let at : i ≡ length line + k = omega (arith, length-append line (cut payload u), cut_length) in
      let end : k + 1 ≡ count = omega arith in
      ap (λ (j : ℕ). (get_or (line ++ cut payload u) j blank).last) at
      ∙ ap (λ (g : Segment). g.last) (get_or-append-add line (cut payload u) k blank ∙ cut_at k (omega arith))
      ∙ eq-eqb (k + 1) count end

-- by its mark the k-th of so many segments is what the cut makes it
pub by_mark : (count k : ℕ) (octets : List ℕ) → k < count
    → segment_by (mark_of (flags_of count k)) octets ≡ record { first = eqb k 0; last = eqb (k + 1) count; octets = octets }
by_mark count k octets h = go (eqb count 1) refl (eqb k 0) refl (eqb (k + 1) count) refl
  where
    go : (a : Bool) → eqb count 1 ≡ a → (b : Bool) → eqb k 0 ≡ b → (d : Bool) → eqb (k + 1) count ≡ d
        → segment_by ((if a then 3 else if b then 1 else if d then 2 else 0) + 1) octets ≡ record { first = b; last = d; octets = octets }
    go true p true q true r = refl
    go true p false q d r = absurd (eqb-false k 0 q (omega (arith, eqb-true count 1 p)))
    go true p true q false r = absurd (eqb-false (k + 1) count r (omega (arith, eqb-true count 1 p, eqb-true k 0 q)))
    go false p true q true r = absurd (eqb-false count 1 p (omega (arith, eqb-true k 0 q, eqb-true (k + 1) count r)))
    go false p true q false r = refl
    go false p false q true r = refl
    go false p false q false r = refl
