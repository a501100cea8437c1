-- Laws of octets fetched: those of one slot from a place on, and those of segments one after another.
-- Assumes nothing.
use mathlib.Core.Path.{◌≡◌, refl, sym, ap, ap₂, ◌∙◌}
use mathlib.Core.Logic.{⊎_elim}
use mathlib.Core.List.{List, [], ◌∷◌, ◌++◌}
use Prim.Native.Nat.{ℕ, suc, min, ◌+◌, ◌-◌, ◌*◌, ◌≤◌, ◌<◌, zero-le}
use native.Mathlib.Omega.{arith}
use lib.ListN.{length, get_or, take, drop, length-drop, length-take, drop_of_length-le}
use lib.Seq.{length-take-le, take_all, take-take, drop-drop, take-append-le, take-append-add, drop-append-le, drop-append-add}
use Rattle.laws.proofs.Lists.{take_drop}
use Rattle.laws.proofs.Numbers.{lt_cases}
use Rattle.slots.specs.Ring.{round_of}
use Rattle.slots.specs.Slots.{Sized, laid, segment_in}
use Rattle.slots.proofs.SlotLaws.{slot_in_lem, laid_length, laid_on, laid_none}
use Rattle.store.specs.Store.{octets_in}
use Rattle.store.proofs.Laws.{segment_length}

-- ---- lists: a part of two lists, one after the other

drop_two : (k : ℕ) (a b : List ℕ) → drop k (a ++ b) ≡ drop k a ++ drop (k - length a) b
drop_two k a b = ⊎_elim short long (lt_cases k (length a))
  where
    short : k < length a → drop k (a ++ b) ≡ drop k a ++ drop (k - length a) b
    short h =
        let z : k - length a ≡ 0 = omega arith in
        drop-append-le k a b (omega arith) ∙ ap (λ (j : ℕ). drop k a ++ drop j b) (sym z)

    long : length a ≤ k → drop k (a ++ b) ≡ drop k a ++ drop (k - length a) b
    long h =
        let e : length a + (k - length a) ≡ k = omega arith in
        ap (λ (j : ℕ). drop j (a ++ b)) (sym e)
        ∙ drop-append-add a b (k - length a)
        ∙ ap (λ (l : List ℕ). l ++ drop (k - length a) b) (sym (drop_of_length-le a {i = k} h))

take_two : (n : ℕ) (a b : List ℕ) → take n (a ++ b) ≡ take n a ++ take (n - length (take n a)) b
take_two n a b = ⊎_elim short long (lt_cases n (length a))
  where
    short : n < length a → take n (a ++ b) ≡ take n a ++ take (n - length (take n a)) b
    short h =
        let z : n - length (take n a) ≡ 0 = omega (arith, length-take-le n a (omega arith)) in
        take-append-le n a b (omega arith)
        ∙ sym (append_none (take n a))
        ∙ ap (λ (j : ℕ). take n a ++ take j b) (sym z)
      where
        append_none : (l : List ℕ) → l ++ [] ≡ l
        append_none [] = refl
        append_none (x ∷ l) = ap (λ (r : List ℕ). x ∷ r) (append_none l)

    long : length a ≤ n → take n (a ++ b) ≡ take n a ++ take (n - length (take n a)) b
    long h =
        let e : length a + (n - length a) ≡ n = omega arith in
        ap (λ (j : ℕ). take j (a ++ b)) (sym e)
        ∙ take-append-add a b (n - length a)
        ∙ ap (λ (l : List ℕ). l ++ take (n - length l) b) (sym (take_all n a h))

part_two : (n k : ℕ) (a b : List ℕ)
    → take n (drop k (a ++ b)) ≡ take n (drop k a) ++ take (n - length (take n (drop k a))) (drop (k - length a) b)
part_two n k a b = ap (take n) (drop_two k a b) ∙ take_two n (drop k a) (drop (k - length a) b)

-- ---- of one slot

module _ (total most : ℕ) (m lens : List ℕ) (slot skip room : ℕ) (sized : Sized total most m lens) (inside : slot < total) (short : get_or lens slot 0 ≤ most) where
  -- none where all are skipped
  pub read_none : get_or lens slot 0 ≤ skip → take room (drop skip (segment_in most m lens slot)) ≡ []
  read_none h =
      ap (take room) (drop_of_length-le (segment_in most m lens slot) {i = skip} (omega (arith, segment_length total most m lens slot sized inside short)))
      ∙ take_all room [] zero-le

  -- else those that are left, as many as there is room for
  module _ (count : ℕ) (is : count ≡ min (get_or lens slot 0 - skip) room) (more : skip < get_or lens slot 0) where
    pub read_ends : slot * most + skip + count ≤ length m
    read_ends = omega (arith, slot_in_lem slot total most inside)

    pub read_some : take count (drop (slot * most + skip) m) ≡ take room (drop skip (segment_in most m lens slot))
    read_some =
        let n = get_or lens slot 0 in
        let whole : skip + (n - skip) ≡ n = omega arith in
        let rest : take (n - skip) (drop (slot * most + skip) m) ≡ drop skip (segment_in most m lens slot) =
        ap (take (n - skip)) (sym (drop-drop skip (slot * most) m))
        ∙ take_drop skip (n - skip) (drop (slot * most) m)
        ∙ ap (λ (k : ℕ). drop skip (take k (drop (slot * most) m))) whole in
        ⊎_elim (few rest) (many rest) (lt_cases (n - skip) room)
      where
        few : take (get_or lens slot 0 - skip) (drop (slot * most + skip) m) ≡ drop skip (segment_in most m lens slot) → get_or lens slot 0 - skip < room
            → take count (drop (slot * most + skip) m) ≡ take room (drop skip (segment_in most m lens slot))
        few rest z =
            let e : count ≡ get_or lens slot 0 - skip = omega arith in
            ap (λ (k : ℕ). take k (drop (slot * most + skip) m)) e
            ∙ rest
            ∙ sym (take_all room (drop skip (segment_in most m lens slot)) (omega (arith, length-drop skip (segment_in most m lens slot), segment_length total most m lens slot sized inside short)))

        many : take (get_or lens slot 0 - skip) (drop (slot * most + skip) m) ≡ drop skip (segment_in most m lens slot) → room ≤ get_or lens slot 0 - skip
            → take count (drop (slot * most + skip) m) ≡ take room (drop skip (segment_in most m lens slot))
        many rest z =
            let e : count ≡ room = omega arith in
            ap (λ (k : ℕ). take k (drop (slot * most + skip) m)) e
            ∙ sym (take-take room (get_or lens slot 0 - skip) (drop (slot * most + skip) m) z)
            ∙ ap (take room) rest

-- ---- of segments one after another: one segment more, whose octets are laid behind those that are there

module _ (slot : ℕ → ℕ) (total most : ℕ) (m lens : List ℕ) (slots n i s t : ℕ) (skip end : ℕ) (out : List ℕ) (at : ℕ) (out1 : List ℕ) (count next : ℕ)
    (sized : Sized total most m lens) (p : t < total) (l : i < n) (is : t ≡ slot s) (short : get_or lens t 0 ≤ most) (before : at ≤ end) (room : end ≤ length out)
    (many : count ≡ length (take (end - at) (drop skip (segment_in most m lens t))))
    (in-out : out1 ≡ laid out at (take (end - at) (drop skip (segment_in most m lens t)))) (on : next ≡ round_of slots (s + 1)) where
  abbrev piece : List ℕ
  piece = take (end - at) (drop skip (segment_in most m lens t))

  pub fetch_within : at + count ≤ end
  fetch_within = omega (arith, many, length-take (end - at) (drop skip (segment_in most m lens t)))

  pub fetch_length : length out1 ≡ length out
  fetch_length = ap length in-out ∙ laid_length out at piece (omega (arith, many, fetch_within))

  pub fetch_more : (past : ℕ) → past ≡ skip - get_or lens t 0
      → laid out1 (at + count) (take (end - (at + count)) (drop past (octets_in slot most m lens slots (n - (i + 1)) next)))
      ≡ laid out at (take (end - at) (drop skip (octets_in slot most m lens slots (n - i) s)))
  unfolding octets_in
  fetch_more past behind =
      let e : n - i ≡ suc (n - (i + 1)) = omega arith in
      let left = octets_in slot most m lens slots (n - (i + 1)) (round_of slots (s + 1)) in
      let r : end - (at + count) ≡ end - at - length piece = omega (arith, many) in
      let long : get_or lens t 0 ≡ length (segment_in most m lens t) = sym (segment_length total most m lens t sized p short) in
      ap (λ (k : ℕ). laid out1 (at + count) (take (end - (at + count)) (drop k (octets_in slot most m lens slots (n - (i + 1)) next)))) behind
      ∙ ap₂ (λ (o : List ℕ) (k : ℕ). laid o (at + count) (take (end - (at + count)) (drop (skip - get_or lens t 0) (octets_in slot most m lens slots (n - (i + 1)) k)))) in-out on
      ∙ ap₂ (λ (j k : ℕ). laid (laid out at piece) (at + j) (take (end - (at + count)) (drop (skip - k) left))) many long
      ∙ ap (λ (k : ℕ). laid (laid out at piece) (at + length piece) (take k (drop (skip - length (segment_in most m lens t)) left))) r
      ∙ laid_on out at piece (omega (arith, many, fetch_within)) (take (end - at - length piece) (drop (skip - length (segment_in most m lens t)) left))
      ∙ ap (laid out at) (sym (part_two (end - at) skip (segment_in most m lens t) left))
      ∙ ap (λ (k : ℕ). laid out at (take (end - at) (drop skip (segment_in most m lens k ++ left)))) is
      ∙ ap (λ (k : ℕ). laid out at (take (end - at) (drop skip (octets_in slot most m lens slots k s)))) (sym e)

-- none left
pub fetch_none : (slot : ℕ → ℕ) (most : ℕ) (m lens : List ℕ) (slots n i s skip end : ℕ) (out : List ℕ) (at : ℕ) → n ≤ i
    → laid out at (take (end - at) (drop skip (octets_in slot most m lens slots (n - i) s))) ≡ out
unfolding octets_in
fetch_none slot most m lens slots n i s skip end out at h =
    let e : n - i ≡ 0 = omega arith in
    ap (λ (k : ℕ). laid out at (take (end - at) (drop skip (octets_in slot most m lens slots k s)))) e
    ∙ ap (λ (l : List ℕ). laid out at (take (end - at) l)) (drop_of_length-le [] {i = skip} zero-le)
    ∙ ap (laid out at) (take_all (end - at) [] zero-le)
    ∙ laid_none out at
