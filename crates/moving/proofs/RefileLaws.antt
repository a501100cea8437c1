-- Laws of a unit that is filed anew: its segments, and the part that it is filed in.
-- Assumes nothing.
use mathlib.Core.Path.{◌≡◌, refl, sym, ap, ◌∙◌}
use mathlib.Core.Logic.{⊎_elim}
use mathlib.Core.List.{List, ◌∷◌, ◌++◌}
use Prim.Native.Nat.{ℕ, suc, min, ◌+◌, ◌-◌, ◌*◌, ◌≤◌, ◌<◌}
use native.Mathlib.Nat.{zero-mul}
use native.Mathlib.Omega.{arith}
use lib.ListN.{length, take, drop, length-drop, length-take}
use lib.Seq.{take_all, take-append-le, drop-drop}
use Rattle.laws.proofs.Numbers.{lt_cases}
use Rattle.slots.specs.Slots.{laid}
use Rattle.slots.specs.Units.{segments_of, segment_cut}
use Rattle.slots.proofs.SlotLaws.{laid_here, laid_length}
use Rattle.slots.proofs.Units.{cut_later}
use Rattle.channel.specs.Pairs.{again}
use Rattle.store.proofs.Laws.{segment_starts, past_front}

-- ---- a segment is a part of so many octets

cut_exact : (most : ℕ) (u : List ℕ) (i len : ℕ) → len ≡ min (length u - i * most) most → take len (drop (i * most) u) ≡ segment_cut most u i
cut_exact most u i len e = ⊎_elim short long (lt_cases (length u - i * most) most)
  where
    short : length u - i * most < most → take len (drop (i * most) u) ≡ segment_cut most u i
    short h =
        take_all len (drop (i * most) u) (omega (arith, length-drop (i * most) u)) ∙ sym (take_all most (drop (i * most) u) (omega (arith, length-drop (i * most) u)))

    long : most ≤ length u - i * most → take len (drop (i * most) u) ≡ segment_cut most u i
    long h = let z : len ≡ most = omega arith in ap (λ (k : ℕ). take k (drop (i * most) u)) z

module _ (most : ℕ) (u : List ℕ) (size i len : ℕ) (is : size ≡ length (again u)) (inside : i < segments_of most size) (octet : 1 ≤ most)
    (least : len ≡ min (size - i * most) most) where
  starts : i * most ≤ size - 1
  starts = segment_starts most size i inside

  pub again_length : len ≡ length (segment_cut most (again u) i)
  again_length = omega (arith, is, length-take most (drop (i * most) (again u)), length-drop (i * most) (again u))

  exact : take len (drop (i * most) (again u)) ≡ segment_cut most (again u) i
  exact = cut_exact most (again u) i len (least ∙ ap (λ (k : ℕ). min (k - i * most) most) is)

  pub len_some : 1 ≤ len
  len_some = omega (arith, starts, is)

  -- the first: 1, and the octets behind the unit's first
  pub again_first : i ≡ 0 → 1 ∷ take (len - 1) (drop 1 u) ≡ segment_cut most (again u) i
  again_first z =
      let e : len ≡ suc (len - 1) = omega (arith, len_some) in
      ap (λ (k : ℕ). take k (again u)) (sym e)
      ∙ ap (λ (k : ℕ). take len (drop k (again u))) (sym (ap (λ (k : ℕ). k * most) z ∙ zero-mul most))
      ∙ exact

  -- one behind it: the unit's octets at their own places
  pub again_later : (i ≡ 0 → ⊥) → take len (drop (i * most) u) ≡ segment_cut most (again u) i
  again_later n =
      let some = past_front most i octet n in
      let e : 1 + (i * most - 1) ≡ i * most = omega (arith, some) in
      let all : length u ≡ length (again u) = omega (arith, starts, some, is, length-drop 1 u) in
      cut_exact most u i len (least ∙ ap (λ (k : ℕ). min (k - i * most) most) (is ∙ sym all))
      ∙ ap (λ (k : ℕ). take most (drop k u)) (sym e)
      ∙ ap (take most) (sym (drop-drop (i * most - 1) 1 u))
      ∙ sym (cut_later most 1 (drop 1 u) i some)

-- ---- octets at the front of a buffer

pub front_laid : (m p : List ℕ) (len : ℕ) → len ≡ length p → len ≤ length m → take len (laid m 0 p) ≡ p
front_laid m p len e h =
    ap (λ (k : ℕ). take k (laid m 0 p)) e ∙ laid_here m 0 p (omega (arith, e))

-- of a part q of it, which was laid over m, with `rest` behind it
pub front_filled : (m p q rest : List ℕ) (len : ℕ) → q ≡ laid m 0 p → len ≡ length p → len ≤ length m → take len (q ++ rest) ≡ p
front_filled m p q rest len is e h =
    take-append-le len q rest (omega (arith, h, ap length is, laid_length m 0 p (omega (arith, e, h))))
    ∙ ap (take len) is
    ∙ front_laid m p len e h

-- and behind one octet
pub front_led : (m p q rest : List ℕ) (x len : ℕ) → q ≡ laid m 0 p → len ≡ suc (length p) → length p ≤ length m → take len (x ∷ (q ++ rest)) ≡ x ∷ p
front_led m p q rest x len is e h =
    ap (λ (k : ℕ). take k (x ∷ (q ++ rest))) e ∙ ap (λ (l : List ℕ). x ∷ l) (front_filled m p q rest (length p) is refl h)
