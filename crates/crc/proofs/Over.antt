-- The check sum goes on: over one octet more of a list, over the word of eight, and over words that fall.
-- Assumes nothing.
use mathlib.Core.Path.{◌≡◌, refl, sym, ap, ◌∙◌}
use mathlib.Core.List.{List, [], ◌∷◌}
use Prim.Native.Nat.{ℕ, ◌+◌, ◌*◌, ◌^◌, ◌<◌, ◌≤◌}
use native.Mathlib.Numerals.{add-one}
use native.Mathlib.Omega.{arith}
use lib.ListN.{length, get_or, drop}
use lib.Seq.{drop-cons, drop-length}
use lib.Bits.{bit_xor, xor_comm}
use Rattle.crc.specs.Crc.{crc_from, crc_of, octet_into}
use Rattle.crc.specs.Words.{four_at, word_at, folded, word_into, words_into}
use Rattle.crc.proofs.Eight.{eight_into, folded_eight}
use Rattle.crc.proofs.Words.{folded_lt}

pub crc_more : (c : ℕ) (s : List ℕ) (i : ℕ) → i < length s → crc_from c (drop i s) ≡ crc_from (octet_into c (get_or s i 0)) (drop (i + 1) s)
unfolding crc_from
crc_more c s i h = rw (add-one, drop-cons s i 0)

pub crc_end : (c : ℕ) (s : List ℕ) (i : ℕ) → i ≡ length s → crc_from c (drop i s) ≡ c
unfolding crc_from
crc_end c s i e = ap (λ (k : ℕ). crc_from c (drop k s)) e ∙ ap (crc_from c) (drop-length s)

-- as `crc_more`, the next place named
pub crc_next : (c : ℕ) (s : List ℕ) (i j : ℕ) → i < length s → i + 1 ≡ j → crc_from c (drop i s) ≡ crc_from (octet_into c (get_or s i 0)) (drop j s)
crc_next c s i j h e = crc_more c s i h ∙ ap (λ (k : ℕ). crc_from (octet_into c (get_or s i 0)) (drop k s)) e

pub crc_eight : (r : ℕ) (s : List ℕ) (i : ℕ) → i + 8 ≤ length s
    → crc_from r (drop i s)
    ≡ crc_from
    (eight_into r (get_or s i 0) (get_or s (i + 1) 0) (get_or s (i + 2) 0) (get_or s (i + 3) 0) (get_or s (i + 4) 0) (get_or s (i + 4 + 1) 0) (get_or s (i + 4 + 2) 0) (get_or s (i + 4 + 3) 0))
    (drop (i + 8) s)
crc_eight r s i h =
    crc_next r s i (i + 1) (omega arith) refl
    ∙ crc_next _ s (i + 1) (i + 2) (omega arith) (omega arith)
    ∙ crc_next _ s (i + 2) (i + 3) (omega arith) (omega arith)
    ∙ crc_next _ s (i + 3) (i + 4) (omega arith) (omega arith)
    ∙ crc_next _ s (i + 4) (i + 4 + 1) (omega arith) (omega arith)
    ∙ crc_next _ s (i + 4 + 1) (i + 4 + 2) (omega arith) (omega arith)
    ∙ crc_next _ s (i + 4 + 2) (i + 4 + 3) (omega arith) (omega arith)
    ∙ crc_next _ s (i + 4 + 3) (i + 8) (omega arith) (omega arith)

-- the word of the eight octets from i on, the register r added at its top
pub crc_word : (r : ℕ) (s : List ℕ) (i : ℕ) → r < 2 ^ 16 → ((k : ℕ) → get_or s k 0 < 256) → i + 8 ≤ length s
    → crc_from (word_into r (word_at s i)) (drop (i + 8) s) ≡ crc_from r (drop i s)
unfolding four_at word_at word_into
crc_word r s i hr o h =
    ap (λ (x : ℕ). crc_from x (drop (i + 8) s))
    (folded_eight r (get_or s i 0) (get_or s (i + 1) 0) (get_or s (i + 2) 0) (get_or s (i + 3) 0) (get_or s (i + 4) 0) (get_or s (i + 4 + 1) 0) (get_or s (i + 4 + 2) 0) (get_or s (i + 4 + 3) 0)
    hr (o i) (o (i + 1)) (o (i + 2)) (o (i + 3)) (o (i + 4)) (o (i + 4 + 1)) (o (i + 4 + 2)) (o (i + 4 + 3)))
    ∙ sym (crc_eight r s i h)

pub into_lt : (r w : ℕ) → word_into r w < 2 ^ 16
unfolding word_into
into_lt r w = folded_lt (bit_xor (r * 2 ^ 48) w)

-- the first word, the register of all ones added at its top
pub crc_first : (s : List ℕ) → ((k : ℕ) → get_or s k 0 < 256) → 8 ≤ length s
    → crc_from (words_into 0 (bit_xor (word_at s 0) 0xFFFF000000000000 ∷ [])) (drop 8 s) ≡ crc_of s
unfolding crc_of word_into words_into
crc_first s o h =
    ap (λ (x : ℕ). crc_from (folded x) (drop 8 s)) (xor_comm (word_at s 0) 0xFFFF000000000000) ∙ crc_word 0xFFFF s 0 (omega arith) o (omega arith)

-- the first four
pub crc_fourth : (s : List ℕ) → ((k : ℕ) → get_or s k 0 < 256) → 32 ≤ length s
    → crc_from (words_into 0 (bit_xor (word_at s 0) 0xFFFF000000000000 ∷ word_at s 8 ∷ word_at s 16 ∷ word_at s 24 ∷ [])) (drop 32 s) ≡ crc_of s
unfolding words_into
crc_fourth s o h =
    let first = bit_xor (word_at s 0) 0xFFFF000000000000 in
    let one = word_into 0 first in
    let two = word_into one (word_at s 8) in
    crc_word (word_into two (word_at s 16)) s 24 (into_lt two (word_at s 16)) o (omega arith)
    ∙ crc_word two s 16 (into_lt one (word_at s 8)) o (omega arith)
    ∙ crc_word one s 8 (into_lt 0 first) o (omega arith)
    ∙ crc_first s o (omega arith)

-- a word more after four
pub crc_fifth : (a b c d : ℕ) (s : List ℕ) (i : ℕ) → ((k : ℕ) → get_or s k 0 < 256) → i + 8 ≤ length s
    → crc_from (words_into 0 (a ∷ b ∷ c ∷ d ∷ word_at s i ∷ [])) (drop (i + 8) s) ≡ crc_from (words_into 0 (a ∷ b ∷ c ∷ d ∷ [])) (drop i s)
unfolding words_into
crc_fifth a b c d s i o h = crc_word (words_into 0 (a ∷ b ∷ c ∷ d ∷ [])) s i (into_lt (words_into 0 (a ∷ b ∷ c ∷ [])) d) o h
