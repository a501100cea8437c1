-- Laws of marks in a row, of a row on the ring, and of marks packed in a word: the zeros below the lowest set bit of the complement, by eights, are
-- the set marks before the first that is not.
-- Assumes nothing.
use mathlib.Core.Path.{◌≡◌, refl, sym, ap, ap₂, ◌∙◌}
use mathlib.Core.Logic.{⊎_elim}
use mathlib.Core.Bool.{Bool, true, ◌&&◌}
use mathlib.Core.List.{List, [], ◌∷◌}
use Prim.Native.Nat.{ℕ, zero, suc, ◌+◌, ◌-◌, ◌*◌, ◌/◌, ◌%◌, ◌^◌, ◌≤◌, ◌<◌, min}
use native.Mathlib.Nat.{add-zero, zero-add, sub-zero, suc-add, mul-one, div-one}
use native.Mathlib.Omega.{arith}
use borrow.Author.Tests.{eq-eqb, ne_eqb, eqb-true}
use lib.Dec.{eqb, lit<}
use lib.Arith.{digits_div}
use lib.Pow.{pow-add, shr-shr}
use lib.Bits.{bit_and, bit_or, and_block, or_block, and_le_r, or_lt, shifted_half, shifted_even}
use lib.Count.{count_trailing_zeros, under}
use lib.ListN.{length, get_or}
use Rattle.std.specs.Int.{w64, from_le_bytes}
use Rattle.laws.specs.Octets.{Octets}
use Rattle.laws.proofs.Choice.{both}
use Rattle.laws.proofs.Numbers.{lt_cases}
use Rattle.slots.specs.Ring.{round_of, run_of}
use Rattle.slots.specs.Packed.{row_of, word_of}
use Rattle.slots.proofs.RingLaws.{round_in, first_place, mark_cases, run_stop, run_step}

-- ---- marks in a row

row_stop : (m : List ℕ) (n s : ℕ) → get_or m s 0 ≡ 0 → row_of m n s ≡ 0
unfolding row_of
row_stop m zero s h = refl
row_stop m (suc n) s h = simp (eq-eqb _ _ h)

row_step : (m : List ℕ) (n s : ℕ) → (get_or m s 0 ≡ 0 → ⊥) → row_of m (suc n) s ≡ suc (row_of m n (s + 1))
unfolding row_of
row_step m n s h = simp (ne_eqb _ _ h)

-- all of the first set: the row goes on behind them
pub row_on : (m : List ℕ) (a b s : ℕ) → row_of m a s ≡ a → row_of m (a + b) s ≡ a + row_of m b (s + a)
row_on m zero b s e = simp (zero-add, add-zero)
row_on m (suc a) b s e =
    ⊎_elim
    (λ z. absurd (omega (arith, row_stop m (suc a) s z)))
    (λ z.
    let p : s + 1 + a ≡ s + suc a = omega arith in
    ap (λ (k : ℕ). row_of m k s) (suc-add a b)
    ∙ row_step m (a + b) s z
    ∙ ap suc (row_on m a b (s + 1) (omega (arith, row_step m a s z)) ∙ ap (λ (k : ℕ). a + row_of m b k) p)
    ∙ sym (suc-add a _))
    (mark_cases m s)

-- of more marks no fewer are set: the first a are, where the row is so long
pub row_all : (m : List ℕ) (a b s : ℕ) → a ≤ row_of m b s → row_of m a s ≡ a
unfolding row_of
row_all m zero b s h = refl
row_all m (suc a) zero s h = absurd (omega arith)
row_all m (suc a) (suc b) s h =
    ⊎_elim
    (λ z. absurd (omega (arith, row_stop m (suc b) s z)))
    (λ z. row_step m a s z ∙ ap suc (row_all m a b (s + 1) (omega (arith, row_step m b s z))))
    (mark_cases m s)

-- a row that ends within both counts is as long by either
pub row_same : (m : List ℕ) (a b s : ℕ) → row_of m a s < a → row_of m a s < b → row_of m b s ≡ row_of m a s
row_same m zero b s h l = absurd (omega arith)
row_same m (suc a) zero s h l = absurd (omega arith)
row_same m (suc a) (suc b) s h l =
    ⊎_elim
    (λ z. row_stop m (suc b) s z ∙ sym (row_stop m (suc a) s z))
    (λ z.
    let e = row_step m a s z in
    row_step m b s z ∙ ap suc (row_same m a b (s + 1) (omega arith) (omega arith)) ∙ sym e)
    (mark_cases m s)

-- the row of n marks, where the first are set, and k of the w behind them, and fewer than w
pub row_ends : (m : List ℕ) (c n w s k : ℕ) → c ≤ n → row_of m c s ≡ c → k ≡ row_of m w (s + c) → k < w → min (c + k) n ≡ row_of m n s
row_ends m c n w s k l e f h =
    let d : c + (n - c) ≡ n = omega arith in
    let on = row_on m c (n - c) s e in
    let whole : row_of m n s ≡ c + row_of m (n - c) (s + c) = ap (λ (j : ℕ). row_of m j s) (sym d) ∙ on in
    ⊎_elim
    (λ g. omega (arith, whole, row_same m w (n - c) (s + c) (omega arith) (omega arith)))
    (λ g. omega (arith, whole, row_all m (n - c) w (s + c) (omega arith)))
    (lt_cases k (n - c))

-- ---- a row on the ring: where it ends the run ends, and else the run goes on behind it

module _ (m : List ℕ) (slots : ℕ) where
  pub run_ends_in : (a n s : ℕ) → s + a ≤ slots → a ≤ n → row_of m a s < a → run_of m slots n s ≡ row_of m a s
  run_ends_in zero n s p l h = absurd (omega arith)
  run_ends_in (suc a) zero s p l h = absurd (omega arith)
  run_ends_in (suc a) (suc n) s p l h =
      ⊎_elim
      (λ z. run_stop m slots (suc n) s z ∙ sym (row_stop m (suc a) s z))
      (λ z.
      let e = row_step m a s z in
      run_step m slots n s z
      ∙ ap suc
      (ap (run_of m slots n) (round_in slots (s + 1) (omega arith)) ∙ run_ends_in a n (s + 1) (omega arith) (omega arith) (omega arith))
      ∙ sym e)
      (mark_cases m s)

  pub run_goes_on : (a n s : ℕ) → s < slots → s + a ≤ slots → a ≤ n → row_of m a s ≡ a
      → run_of m slots n s ≡ a + run_of m slots (n - a) (round_of slots (s + a))
  run_goes_on zero n s q p l e = sym (zero-add _ ∙ ap₂ (run_of m slots) (sub-zero n) (first_place slots s q))
  run_goes_on (suc a) zero s q p l e = absurd (omega arith)
  run_goes_on (suc zero) (suc n) s q p l e =
      ⊎_elim
      (λ z. absurd (omega (arith, row_stop m 1 s z)))
      (λ z. run_step m slots n s z ∙ sym (suc-add 0 _ ∙ ap suc (zero-add _ ∙ ap (λ (k : ℕ). run_of m slots k (round_of slots (s + 1))) (omega arith))))
      (mark_cases m s)
  run_goes_on (suc (suc a)) (suc n) s q p l e =
      ⊎_elim
      (λ z. absurd (omega (arith, row_stop m (suc (suc a)) s z)))
      (λ z.
      let f = row_step m (suc a) s z in
      let g : s + 1 + suc a ≡ s + suc (suc a) = omega arith in
      let d : n - suc a ≡ suc n - suc (suc a) = omega arith in
      run_step m slots n s z
      ∙ ap suc
      (ap (run_of m slots n) (round_in slots (s + 1) (omega arith))
      ∙ run_goes_on (suc a) n (s + 1) (omega arith) (omega arith) (omega arith) (omega arith)
      ∙ ap₂ (λ (j k : ℕ). suc a + run_of m slots j (round_of slots k)) d g)
      ∙ sym (suc-add (suc a) _))
      (mark_cases m s)

-- ---- a word of marks

pub word_none : (m : List ℕ) (s n : ℕ) → length m ≤ s → word_of m s n ≡ 0
unfolding word_of
word_none m s zero h = refl
word_none m s (suc n) h = omega (arith, word_none m (s + 1) n (omega arith), past m s h)
  where
    past : (l : List ℕ) (i : ℕ) → length l ≤ i → get_or l i 0 ≡ 0
    past [] i g = refl
    past (x ∷ l) zero g = absurd (omega arith)
    past (x ∷ l) (suc i) g = past l i (omega arith)

word_nil : (m : List ℕ) (s : ℕ) → word_of m s 0 ≡ 0
unfolding word_of
word_nil m s = refl

word_suc : (m : List ℕ) (s n : ℕ) → word_of m s (suc n) ≡ word_of m (s + 1) n * 256 + get_or m s 0
unfolding word_of
word_suc m s n = refl

pub word_four : (m : List ℕ) (s : ℕ)
    → word_of m s 4 ≡ ((get_or m (s + 3) 0 * 256 + get_or m (s + 2) 0) * 256 + get_or m (s + 1) 0) * 256 + get_or m s 0
unfolding word_of
word_four m s =
    let e : s + 1 + 1 ≡ s + 2 = omega arith in
    let f : s + 1 + 1 + 1 ≡ s + 3 = omega arith in
    omega (arith, ap (λ (k : ℕ). get_or m k 0) e, ap (λ (k : ℕ). get_or m k 0) f)

pub word_eight : (m : List ℕ) (s : ℕ) → word_of m s 8 ≡ word_of m (s + 4) 4 * 2 ^ 32 + word_of m s 4
word_eight m s =
    let e : s + 1 + 1 + 1 + 1 ≡ s + 4 = omega arith in
    omega
    (arith, ap (λ (k : ℕ). word_of m k 4) e, word_suc m s 7, word_suc m (s + 1) 6, word_suc m (s + 1 + 1) 5, word_suc m (s + 1 + 1 + 1) 4, word_suc m s 3, word_suc m (s + 1) 2, word_suc m (s + 1 + 1) 1, word_suc m (s + 1 + 1 + 1) 0, word_nil m (s + 1 + 1 + 1 + 1))

-- the word that the machine loads
pub word_loaded : (m : List ℕ) (s : ℕ)
    → word_of m s 8
    ≡ from_le_bytes w64
    (get_or m s 0 ∷ get_or m (s + 1) 0 ∷ get_or m (s + 2) 0 ∷ get_or m (s + 3) 0 ∷ get_or m (s + 4) 0 ∷ get_or m (s + 5) 0 ∷ get_or m (s + 6) 0 ∷ get_or m (s + 7) 0 ∷ [])
word_loaded m s =
    let e : s + 4 + 1 ≡ s + 5 = omega arith in
    let f : s + 4 + 2 ≡ s + 6 = omega arith in
    let g : s + 4 + 3 ≡ s + 7 = omega arith in
    let at = λ (k : ℕ). get_or m k 0 in
    omega (arith, word_eight m s, word_four m s, word_four m (s + 4), ap at e, ap at f, ap at g)

-- past the last mark nothing is added
word_past : (m : List ℕ) (s n j : ℕ) → length m ≤ s + n → word_of m s (n + j) ≡ word_of m s n
unfolding word_of
word_past m s zero j h = ap (word_of m s) (zero-add j) ∙ word_none m s j (omega arith)
word_past m s (suc n) j h =
    ap (word_of m s) (suc-add n j) ∙ ap (λ (x : ℕ). x * 256 + get_or m s 0) (word_past m (s + 1) n j (omega arith))

-- the first marks fall out at the bottom
word_down : (m : List ℕ) → Octets m → (s j n : ℕ) → word_of m s (j + n) / 2 ^ (8 * j) ≡ word_of m (s + j) n
unfolding word_of
word_down m o s zero n = div-one _ ∙ ap₂ (word_of m) (sym (add-zero s)) (zero-add n)
word_down m o s (suc j) n =
    let e : 8 * suc j ≡ 8 + 8 * j = omega arith in
    let f : s + 1 + j ≡ s + suc j = omega arith in
    ap₂ (λ (x y : ℕ). word_of m s x / 2 ^ y) (suc-add j n) e
    ∙ sym (shr-shr (word_of m s (suc (j + n))) 8 (8 * j))
    ∙ ap (λ (x : ℕ). x / 2 ^ (8 * j)) (digits_div (word_of m (s + 1) (j + n)) (o s))
    ∙ word_down m o (s + 1) j n
    ∙ ap (λ (x : ℕ). word_of m x n) f

-- the eight marks from a place among the last eight on
pub word_last : (m : List ℕ) → Octets m → (s j : ℕ) → j ≤ 8 → s + 8 ≡ length m → word_of m s 8 / 2 ^ (8 * j) ≡ word_of m (s + j) 8
word_last m o s j l e =
    let f : j + (8 - j) ≡ 8 = omega arith in
    let g : 8 - j + j ≡ 8 = omega arith in
    ap (λ (x : ℕ). word_of m s x / 2 ^ (8 * j)) (sym f)
    ∙ word_down m o s j (8 - j)
    ∙ sym (word_past m (s + j) (8 - j) j (omega arith))
    ∙ ap (word_of m (s + j)) g

-- ---- the complement: of each octet the highest bit alone, and where the mark is not set

-- the bits of n octets, and all but the highest bit of each
abbrev bits : ℕ → ℕ
bits zero = 0
bits (suc n) = 8 + bits n

abbrev low : ℕ → ℕ
low zero = 0
low (suc n) = low n * 2 ^ 8 + 127

abbrev pub unset_of : ℕ → ℕ → ℕ
unset_of n w = (2 ^ bits n - 1) - bit_or (bit_or (bit_and w (low n) + low n) w) (low n)

-- what it is of one octet
abbrev unset : ℕ → ℕ
unset b = 255 - bit_or (bit_or (bit_and b 127 + 127) b) 127

low_small : (n : ℕ) → low n + low n < 2 ^ bits n
low_small zero = omega arith
low_small (suc n) = omega (arith, low_small n, pow-add 2 8 (bits n))

word_lt : (m : List ℕ) → Octets m → (s n : ℕ) → word_of m s n < 2 ^ bits n
unfolding word_of
word_lt m o s zero = omega arith
word_lt m o s (suc n) = omega (arith, word_lt m o (s + 1) n, o s, pow-add 2 8 (bits n))

-- octet by octet
unset_block : (n w b : ℕ) → w < 2 ^ bits n → b < 2 ^ 8 → unset_of (suc n) (w * 2 ^ 8 + b) ≡ unset_of n w * 2 ^ 8 + unset b
unset_block n w b hw hb =
    let c = low n in
    let a = bit_and w c in
    let p = bit_and b 127 in
    let small = low_small n in
    let ac : a ≤ c = and_le_r w c in
    let pc : p ≤ 127 = and_le_r b 127 in
    let q : p + 127 < 2 ^ 8 = omega arith in
    let r : a + c < 2 ^ bits n = omega arith in
    let t : 127 < 2 ^ 8 = lit< tt in
    let sum : a * 2 ^ 8 + p + (c * 2 ^ 8 + 127) ≡ (a + c) * 2 ^ 8 + (p + 127) = omega arith in
    let x = bit_or (bit_or (a + c) w) c in
    let y = bit_or (bit_or (p + 127) b) 127 in
    let hx : x < 2 ^ bits n = or_lt (bits n) (bit_or (a + c) w) c (or_lt (bits n) (a + c) w r hw) (omega arith) in
    let hy : y < 2 ^ 8 = or_lt 8 (bit_or (p + 127) b) 127 (or_lt 8 (p + 127) b q hb) t in
    let all : bit_or (bit_or (bit_and (w * 2 ^ 8 + b) (c * 2 ^ 8 + 127) + (c * 2 ^ 8 + 127)) (w * 2 ^ 8 + b)) (c * 2 ^ 8 + 127) ≡ x * 2 ^ 8 + y =
    ap (λ (z : ℕ). bit_or (bit_or (z + (c * 2 ^ 8 + 127)) (w * 2 ^ 8 + b)) (c * 2 ^ 8 + 127)) (and_block 8 w c b 127 hb t)
    ∙ ap (λ (z : ℕ). bit_or (bit_or z (w * 2 ^ 8 + b)) (c * 2 ^ 8 + 127)) sum
    ∙ ap (λ (z : ℕ). bit_or z (c * 2 ^ 8 + 127)) (or_block 8 (a + c) w (p + 127) b q hb)
    ∙ or_block 8 (bit_or (a + c) w) c (bit_or (p + 127) b) 127 (or_lt 8 (p + 127) b q hb) t in
    ap (λ (z : ℕ). (2 ^ (8 + bits n) - 1) - z) all ∙ omega (arith, pow-add 2 8 (bits n), hx, hy)

-- each octet but 0 leaves nothing: the test, to be computed
abbrev none : ℕ → Bool
none zero = true
none (suc n) = eqb (unset (suc n)) 0 && none n

none_at : (n b : ℕ) → none n ≡ true → b ≤ n → (b ≡ 0 → ⊥) → unset b ≡ 0
none_at zero b t l h = absurd (h (omega arith))
none_at (suc n) b t l h =
    let ts = both (eqb (unset (suc n)) 0) (none n) t in
    ⊎_elim
    (λ g. none_at n b ts.1 (omega arith) h)
    (λ g. let e : b ≡ suc n = omega arith in ap unset e ∙ eqb-true _ _ ts.0)
    (lt_cases b (suc n))

-- ---- the zeros below the lowest set bit

zeros_pass : (j k a : ℕ) → count_trailing_zeros (j + k) (a * 2 ^ j) ≡ j + count_trailing_zeros k a
unfolding count_trailing_zeros
zeros_pass zero k a = rw (zero-add, zero-add, mul-one)
zeros_pass (suc j) k a =
    ap (λ (x : ℕ). count_trailing_zeros x (a * 2 ^ suc j)) (suc-add j k)
    ∙ ap₂ (λ (d x : ℕ). under d (count_trailing_zeros (j + k) x)) (shifted_even a j) (shifted_half a j)
    ∙ ap suc (zeros_pass j k a)
    ∙ sym (suc-add j _)

-- the lowest octet has its highest bit alone
zeros_stop : (k a : ℕ) → count_trailing_zeros (8 + k) (a * 2 ^ 8 + 128) ≡ 7
unfolding count_trailing_zeros
zeros_stop k a =
    let e : a * 2 ^ 8 + 128 ≡ (a * 2 + 1) * 2 ^ 7 = omega arith in
    let f : 8 + k ≡ 7 + suc k = omega arith in
    let odd : (a * 2 + 1) % 2 ≡ 1 = omega arith in
    ap₂ count_trailing_zeros f e
    ∙ zeros_pass 7 (suc k) (a * 2 + 1)
    ∙ ap (λ (d : ℕ). 7 + under d (count_trailing_zeros k ((a * 2 + 1) / 2))) odd

-- so by eights they are the marks that are set
pub counted : (m : List ℕ) → Octets m → (n s : ℕ) → count_trailing_zeros (bits n) (unset_of n (word_of m s n)) / 8 ≡ row_of m n s
unfolding count_trailing_zeros row_of word_of
counted m o zero s = refl
counted m o (suc n) s =
    let b = get_or m s 0 in
    let z = unset_of n (word_of m (s + 1) n) in
    let e = unset_block n (word_of m (s + 1) n) b (word_lt m o (s + 1) n) (o s) in
    ⊎_elim
    (λ h.
    let stop : count_trailing_zeros (bits (suc n)) (unset_of (suc n) (word_of m s (suc n))) ≡ 7 =
    ap (count_trailing_zeros (bits (suc n))) (e ∙ ap (λ (x : ℕ). z * 2 ^ 8 + unset x) h) ∙ zeros_stop (bits n) z in
    omega (arith, stop, row_stop m (suc n) s h))
    (λ h.
    let none : unset b ≡ 0 = none_at 255 b refl (omega (arith, o s)) h in
    let pass : count_trailing_zeros (bits (suc n)) (unset_of (suc n) (word_of m s (suc n))) ≡ 8 + count_trailing_zeros (bits n) z =
    ap (count_trailing_zeros (bits (suc n))) (e ∙ ap (λ (x : ℕ). z * 2 ^ 8 + x) none ∙ add-zero _) ∙ zeros_pass 8 (bits n) z in
    omega (arith, pass, counted m o n (s + 1), row_step m n s h))
    (mark_cases m s)
