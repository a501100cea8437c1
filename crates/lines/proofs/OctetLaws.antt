-- Laws of the lines as octets: a line read back, one put in place of another, one that grows at its tail, one that closes up.
-- Assumes nothing.
use mathlib.Core.Path.{◌≡◌, sym, ap, ap₂, ◌∙◌}
use mathlib.Core.Bool.{true}
use mathlib.Core.Logic.{inl, inr, ⊎_elim}
use mathlib.Core.List.{List, [], ◌∷◌, ◌++◌, append_assoc}
use Prim.Native.Nat.{ℕ, suc, ◌+◌, ◌-◌, ◌*◌, ◌≤◌, ◌<◌, zero-le}
use native.Mathlib.Numerals.{add-one}
use native.Mathlib.Omega.{arith}
use lib.ListN.{length, get_or, set, take, drop, replicate, length-append, length-replicate, length-take, length-drop, drop_of_length-le, replicate-append-replicate}
use lib.Seq.{paste, take-append_seam, set-append_seam, append_snoc, take-length, drop-append-add, drop-cons, length-take-le}
use Rattle.laws.proofs.Lists.{length_snoc}
use Rattle.laws.proofs.Numbers.{either_side}
use Rattle.slots.specs.Slots.{laid}
use Rattle.slots.proofs.SlotLaws.{laid_length, laid_here, laid_elsewhere}
use Rattle.lines.specs.Lines.{stands, without, before, line_octets, line_in, part_at, line_at, with_line}
use Rattle.lines.specs.Fit.{apart}
use Rattle.lines.proofs.LineLaws as line

-- ---- a line's octets

pub octets_length : (l : List ℕ) → length l ≤ 16 → length (line_octets l) ≡ 17
unfolding line_octets
octets_length l h = simp (length-append, length-replicate) (omega arith)

pub read_back : (l : List ℕ) → line_in (line_octets l) ≡ l
unfolding line_octets line_in
read_back l = take-append_seam l (replicate (16 - length l) 0)

-- ---- one line in place of another

module _ (s : List ℕ) (size : length s ≡ 51) (rank : ℕ) (known : rank < 3) (l : List ℕ) (short : length l ≤ 16) where
  inside : 17 * rank + length (line_octets l) ≤ length s
  inside = omega (arith, octets_length l short)

  pub with_size : length (with_line rank l s) ≡ 51
  unfolding with_line
  with_size = laid_length s (17 * rank) (line_octets l) inside ∙ size

  pub part_here : part_at rank (with_line rank l s) ≡ line_octets l
  unfolding part_at with_line
  part_here =
      ap (λ (k : ℕ). take k (drop (17 * rank) (laid s (17 * rank) (line_octets l)))) (sym (octets_length l short))
      ∙ laid_here s (17 * rank) (line_octets l) inside

  pub part_elsewhere : (q : ℕ) → (q ≡ rank → ⊥) → part_at q (with_line rank l s) ≡ part_at q s
  unfolding part_at with_line
  part_elsewhere q n =
      laid_elsewhere s (17 * rank) (line_octets l) inside (17 * q) 17
      (⊎_elim (λ h. inl (omega arith)) (λ h. inr (omega (arith, octets_length l short))) (either_side q rank n))

  pub line_here : line_at rank (with_line rank l s) ≡ l
  line_here = ap line_in part_here ∙ read_back l

  pub line_elsewhere : (q : ℕ) → (q ≡ rank → ⊥) → line_at q (with_line rank l s) ≡ line_at q s
  line_elsewhere q n = ap line_in (part_elsewhere q n)

pub part_length : (s : List ℕ) (rank : ℕ) → length s ≡ 51 → rank < 3 → length (part_at rank s) ≡ 17
unfolding part_at
part_length s rank size h = simp (length-take, length-drop) (omega arith)

-- ---- one more at the tail

set_next : (x k v : ℕ) (t : List ℕ) → set (x ∷ t) (k + 1) v ≡ x ∷ set t k v
set_next x k v t = rw (add-one k)

pub tail_set : (l : List ℕ) (i : ℕ) → length l < 16
    → set (set (line_octets l) (length l + 1) i) 0 (length l + 1) ≡ line_octets (l ++ (i ∷ []))
unfolding line_octets
tail_set l i h =
    let m = 16 - length (l ++ (i ∷ [])) in
    let e : 16 - length l ≡ suc m = omega (arith, length_snoc l i) in
    let n : length l + 1 ≡ length (l ++ (i ∷ [])) = omega (arith, length_snoc l i) in
    ap (λ (k : ℕ). set (set (length l ∷ (l ++ replicate k 0)) (length l + 1) i) 0 (length l + 1)) e
    ∙ ap (λ (t : List ℕ). set t 0 (length l + 1)) (set_next (length l) (length l) i (l ++ replicate (suc m) 0))
    ∙ ap₂ (λ (a : ℕ) (b : List ℕ). a ∷ b) n (set-append_seam l 0 (replicate m 0) i ∙ sym (append_snoc l i (replicate m 0)))

-- ---- closing up: i is cut out, those behind it move up with the zeros behind them, and one more zero comes in at the end

pub fewer : (i : ℕ) (l : List ℕ) → length (without i l) ≤ length l
unfolding without
fewer i [] = zero-le
fewer i (x ∷ l) =
    ⊎_elim
    (λ e. omega (arith, ap length (line.without_head x i l e), fewer i l))
    (λ n. omega (arith, ap length (line.without_past x i l n), fewer i l))
    (line.same_or_not x i)

-- the octets from the place behind i on, copied to the place of i
module _ (h i : ℕ) (p t : List ℕ) (size : length (h ∷ (p ++ (i ∷ t))) ≡ 17) where
  abbrev o : List ℕ
  o = h ∷ (p ++ (i ∷ t))

  parts : length p + length t ≡ 15
  parts = omega (arith, size, length-append p (i ∷ t))

  moved : paste o (length p + 1) (drop (length p + 2) o) (length o - (length p + 2)) ≡ h ∷ ((p ++ t) ++ (get_or o 16 0 ∷ []))
  moved =
      let front : take (length p + 1) o ≡ h ∷ p =
      ap (λ (k : ℕ). take k o) (add-one (length p)) ∙ ap (λ (a : List ℕ). h ∷ a) (take-append_seam p (i ∷ t)) in
      let two : length p + 2 ≡ suc (length p + 1) = omega arith in
      let behind : drop (length p + 2) o ≡ t = ap (λ (k : ℕ). drop k o) two ∙ drop-append-add p (i ∷ t) 1 in
      let many : length o - (length p + 2) ≡ length t = omega (arith, parts) in
      let last : length p + 1 + (length o - (length p + 2)) ≡ 16 = omega (arith, parts) in
      let end : drop 16 o ≡ get_or o 16 0 ∷ [] =
      drop-cons o 16 0 (omega arith) ∙ ap (λ (a : List ℕ). get_or o 16 0 ∷ a) (drop_of_length-le o {i = 17} (omega arith)) in
      ap₂ (λ (a b : List ℕ). a ++ b)
      (ap₂ (λ (a b : List ℕ). a ++ b) front (ap₂ take many behind ∙ take-length t))
      (ap (λ (k : ℕ). drop k o) last ∙ end)

  ended : (v : ℕ) → set (set (paste o (length p + 1) (drop (length p + 2) o) (length o - (length p + 2))) 16 0) 0 v ≡ v ∷ ((p ++ t) ++ (0 ∷ []))
  ended v =
      let q : length (p ++ t) ≡ 15 = length-append p t ∙ parts in
      ap (λ (m : List ℕ). set (set m 16 0) 0 v) moved
      ∙ ap (λ (k : ℕ). v ∷ set ((p ++ t) ++ (get_or o 16 0 ∷ [])) k 0) (sym q)
      ∙ ap (λ (a : List ℕ). v ∷ a) (set-append_seam (p ++ t) (get_or o 16 0) [] 0)

cut_short : (i : ℕ) (p q : List ℕ) → length (p ++ (i ∷ q)) ≤ 16
    → let o = line_octets (p ++ (i ∷ q)) in
    set (set (paste o (length p + 1) (drop (length p + 2) o) (length o - (length p + 2))) 16 0) 0 (length (p ++ (i ∷ q)) - 1) ≡ line_octets (p ++ q)
unfolding line_octets
cut_short i p q few =
    let l = p ++ (i ∷ q) in
    let z = replicate (16 - length l) 0 in
    let split : line_octets l ≡ length l ∷ (p ++ (i ∷ (q ++ z))) = ap (λ (a : List ℕ). length l ∷ a) (append_assoc p (i ∷ q) z) in
    let left : length l - 1 ≡ length (p ++ q) = omega (arith, length-append p (i ∷ q), length-append p q) in
    let zeros : z ++ (0 ∷ []) ≡ replicate (16 - length (p ++ q)) 0 =
    let more : 16 - length l + 1 ≡ 16 - length (p ++ q) = omega (arith, length-append p (i ∷ q), length-append p q) in
    replicate-append-replicate (16 - length l) 1 0 ∙ ap (λ (k : ℕ). replicate k 0) more in
    ap (λ (o : List ℕ). set (set (paste o (length p + 1) (drop (length p + 2) o) (length o - (length p + 2))) 16 0) 0 (length l - 1)) split
    ∙ ended (length l) i p (q ++ z) (sym (ap length split) ∙ octets_length l few) (length l - 1)
    ∙ ap₂ (λ (a : ℕ) (b : List ℕ). a ∷ b) left
    (ap (λ (a : List ℕ). a ++ (0 ∷ [])) (sym (append_assoc p q z)) ∙ append_assoc (p ++ q) z (0 ∷ []) ∙ ap (λ (a : List ℕ). (p ++ q) ++ a) zeros)

pub closed_up : (i : ℕ) (o l : List ℕ) (k : ℕ) → o ≡ line_octets l → length l ≤ 16 → apart l ≡ true → stands i l ≡ true → k ≡ before i l
    → set (set (paste o (k + 1) (drop (k + 2) o) (length o - (k + 2))) 16 0) 0 (length l - 1) ≡ line_octets (without i l)
closed_up i o l k e few once there at =
    let b = before i l in
    let p = take b l in
    let q = drop (suc b) l in
    let c = line.cut i l there in
    let n : k ≡ length p = at ∙ sym (length-take-le b l (omega (arith, line.before_lt i l there))) in
    ap₂ (λ (o : List ℕ) (k : ℕ). set (set (paste o (k + 1) (drop (k + 2) o) (length o - (k + 2))) 16 0) 0 (length l - 1)) (e ∙ ap line_octets c) n
    ∙ ap (λ (v : ℕ). set (set (paste (line_octets (p ++ (i ∷ q))) (length p + 1) (drop (length p + 2) (line_octets (p ++ (i ∷ q)))) (length (line_octets (p ++ (i ∷ q))) - (length p + 2))) 16 0) 0 (v - 1)) (ap length c)
    ∙ cut_short i p q (omega (arith, ap length c))
    ∙ ap line_octets (sym (line.cut_out i l once there))
