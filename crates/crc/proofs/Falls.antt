-- A word falls onto the words after it. The polynomial P divides its powers, and without carries a power is taken term by term: modulo P,
-- P^4 gives x^64 = x^48 + x^20 + 1, and P^16 gives x^256 = x^192 + x^80 + 1. So a word four places up is added to the three places which these
-- name, and is gone. `falls` says it once, over any number of words; at a word of 64 bits it is enough to compute it at each power of two.
-- Assumes nothing.
use mathlib.Core.Path.{◌≡◌, refl, sym, ap, ap₂, ◌∙◌}
use mathlib.Core.Bool.{true}
use mathlib.Core.List.{List, [], ◌∷◌, map}
use Prim.Native.Nat.{ℕ, ◌*◌, ◌/◌, ◌%◌, ◌^◌, ◌<◌}
use lib.Bits.{bit_xor, xor_comm, xor_zero_r}
use Rattle.crc.specs.Words.{fall_once, fall_twice, fall_four, fall_eight, spread, folded, word_into, words_into}
use Rattle.crc.proofs.Words.{below, fall_four_additive, fall_eight_additive, folded_additive, folded_lt}
use Rattle.crc.proofs.Xor.{Additive, same_additive, up_additive, down_additive, shl_additive, sum_additive, after_additive, xor_parts, agree, agreed}

-- ---- words go into the register as sums do

into_sum : (r q x y : ℕ) → word_into (bit_xor r q) (bit_xor x y) ≡ bit_xor (word_into r x) (word_into q y)
unfolding word_into
into_sum r q x y =
    ap folded (ap (λ (z : ℕ). bit_xor z (bit_xor x y)) (up_additive 48 r q) ∙ xor_parts (r * 2 ^ 48) (q * 2 ^ 48) x y)
    ∙ folded_additive (bit_xor (r * 2 ^ 48) x) (bit_xor (q * 2 ^ 48) y)

words_sum : (f g : ℕ × ℕ → ℕ) (l : List (ℕ × ℕ)) (r q : ℕ)
    → words_into (bit_xor r q) (map (λ p. bit_xor (f p) (g p)) l) ≡ bit_xor (words_into r (map f l)) (words_into q (map g l))
unfolding words_into
words_sum f g [] r q = refl
words_sum f g (p ∷ l) r q =
    ap (λ (x : ℕ). words_into x (map (λ p. bit_xor (f p) (g p)) l)) (into_sum r q (f p) (g p)) ∙ words_sum f g l (word_into r (f p)) (word_into q (g p))

-- the law: where the word a, alone, is what its parts are, one for each word after it, each part is added to its word. Pairs: the part, the word
falls : (a : ℕ) (l : List (ℕ × ℕ)) → words_into 0 (a ∷ map (λ p. 0) l) ≡ words_into 0 (map (λ p. p.0) l)
    → words_into 0 (a ∷ map (λ p. p.1) l) ≡ words_into 0 (map (λ p. bit_xor p.0 p.1) l)
unfolding words_into
falls a l e =
    ap (λ (x : ℕ). words_into x (map (λ p. p.1) l)) (xor_comm 0 (word_into 0 a))
    ∙ words_sum (λ p. 0) (λ p. p.1) l (word_into 0 a) 0
    ∙ ap (λ (x : ℕ). bit_xor x (words_into 0 (map (λ p. p.1) l))) e
    ∙ sym (words_sum (λ p. p.0) (λ p. p.1) l 0 0)

-- ---- by x^256 and by x^64

into_additive : (f g : ℕ → ℕ) → Additive f → Additive g → Additive (λ a. word_into (f a) (g a))
into_additive f g hf hg a b = ap₂ word_into (hf a b) (hg a b) ∙ into_sum (f a) (f b) (g a) (g b)

same_words : (f g : ℕ → ℕ) → Additive f → Additive g → agree f g 64 ≡ true → (a : ℕ) → a < 2 ^ 64 → f a ≡ g a
same_words f g hf hg = agreed f g 64 (below f 64 hf) (below g 64 hg)

-- the register after a word alone, and after a word of zeros more
abbrev alone : ℕ → ℕ
alone a = word_into 0 a

abbrev after : ℕ → ℕ
after r = word_into r 0

alone_lt : (a : ℕ) → alone a < 2 ^ 16
unfolding word_into
alone_lt a = folded_lt a

alone_additive : Additive alone
alone_additive = into_additive (λ a. 0) (λ a. a) (λ a b. refl) same_additive

after_word : Additive after
after_word = into_additive (λ a. a) (λ a. 0) same_additive (λ a b. refl)

twice : Additive (λ r. after (after r))
twice = after_additive after after after_word after_word

-- into a register with more in it: what it would give alone is added
split : (r w : ℕ) → word_into r w ≡ bit_xor (after r) (alone w)
split r w = ap (λ (x : ℕ). word_into x w) (sym (xor_zero_r r)) ∙ into_sum r 0 0 w

-- x^80 lies 16 bits up from a whole word: a part goes into either of two words
moved_up : (a : ℕ) → a < 2 ^ 64 → word_into (alone (a / 2 ^ 48)) (a * 2 ^ 16 % 2 ^ 64) ≡ folded (alone a)
unfolding agree folded fall_once fall_twice fall_four fall_eight spread word_into
moved_up =
    same_words (λ a. word_into (alone (a / 2 ^ 48)) (a * 2 ^ 16 % 2 ^ 64)) (λ a. folded (alone a))
    (into_additive (λ a. alone (a / 2 ^ 48)) (λ a. a * 2 ^ 16 % 2 ^ 64) (after_additive (λ a. a / 2 ^ 48) alone (down_additive 48) alone_additive) (shl_additive 16 64))
    (after_additive alone folded alone_additive folded_additive)
    refl

-- x^256 = x^192 + x^80 + 1, of a register
register_falls : (r : ℕ) → r < 2 ^ 16 → after (after (after (after r))) ≡ bit_xor (bit_xor (after (after (after r))) (after (folded r))) r
unfolding agree folded fall_once fall_twice fall_four fall_eight spread word_into
register_falls =
    agreed (λ r. after (after (after (after r)))) (λ r. bit_xor (bit_xor (after (after (after r))) (after (folded r))) r) 16
    (below (λ r. after (after (after (after r)))) 16 (after_additive (λ r. after (after r)) (λ r. after (after r)) twice twice))
    (below (λ r. bit_xor (bit_xor (after (after (after r))) (after (folded r))) r) 16
    (sum_additive (λ r. bit_xor (after (after (after r))) (after (folded r))) (λ r. r)
    (sum_additive (λ r. after (after (after r))) (λ r. after (folded r))
    (after_additive after (λ r. after (after r)) after_word twice) (after_additive folded after folded_additive after_word)) same_additive))
    refl

-- a word four places up, alone
four_parts : (a : ℕ) → a < 2 ^ 64 → words_into 0 (a ∷ 0 ∷ 0 ∷ 0 ∷ 0 ∷ []) ≡ words_into 0 (a ∷ a / 2 ^ 48 ∷ a * 2 ^ 16 % 2 ^ 64 ∷ a ∷ [])
unfolding words_into
four_parts a h =
    let r = alone a in
    let u = a / 2 ^ 48 in
    let l = a * 2 ^ 16 % 2 ^ 64 in
    register_falls r (alone_lt a)
    ∙ sym
    (split (word_into (word_into r u) l) a
    ∙ ap (λ (x : ℕ). bit_xor (after x) r)
    (ap (λ (x : ℕ). word_into x l) (split r u) ∙ into_sum (after r) (alone u) 0 l ∙ ap (bit_xor (after (after r))) (moved_up a h))
    ∙ ap (λ (x : ℕ). bit_xor x r) (after_word (after (after r)) (folded r)))

-- the first word falls onto the next four: by x^192 onto the first of them, by x^80 onto the second and the third, by 1 onto the last
pub fall_four_lem : (a b c d w : ℕ) → a < 2 ^ 64
    → words_into 0 (a ∷ b ∷ c ∷ d ∷ w ∷ []) ≡ words_into 0 (bit_xor a b ∷ bit_xor (a / 2 ^ 48) c ∷ bit_xor (a * 2 ^ 16 % 2 ^ 64) d ∷ bit_xor a w ∷ [])
fall_four_lem a b c d w h = falls a ((a, b) ∷ (a / 2 ^ 48, c) ∷ (a * 2 ^ 16 % 2 ^ 64, d) ∷ (a, w) ∷ []) (four_parts a h)

-- by x^48 and x^20 a part of the word stays where it is and falls once more: this is all that falls
abbrev whole : ℕ → ℕ
whole a = fall_eight (fall_four a)

abbrev pub part : ℕ → ℕ
part a = bit_xor (bit_xor (whole a) (whole a * 2 ^ 20 % 2 ^ 64)) (whole a * 2 ^ 48 % 2 ^ 64)

part_additive : Additive part
part_additive =
    after_additive whole (λ x. bit_xor (bit_xor x (x * 2 ^ 20 % 2 ^ 64)) (x * 2 ^ 48 % 2 ^ 64))
    (after_additive fall_four fall_eight fall_four_additive fall_eight_additive)
    (sum_additive (λ x. bit_xor x (x * 2 ^ 20 % 2 ^ 64)) (λ x. x * 2 ^ 48 % 2 ^ 64)
    (sum_additive (λ x. x) (λ x. x * 2 ^ 20 % 2 ^ 64) same_additive (shl_additive 20 64)) (shl_additive 48 64))

one_part : (a : ℕ) → a < 2 ^ 64 → words_into 0 (a ∷ 0 ∷ []) ≡ words_into 0 (part a ∷ [])
unfolding agree folded fall_once fall_twice fall_four fall_eight spread word_into words_into
one_part =
    same_words (λ a. after (alone a)) (λ a. alone (part a)) (after_additive alone after alone_additive after_word) (after_additive part alone part_additive alone_additive) refl

-- the first word falls onto the next one
pub fall_one : (a b : ℕ) → a < 2 ^ 64 → words_into 0 (a ∷ b ∷ []) ≡ words_into 0 (bit_xor (part a) b ∷ [])
fall_one a b h = falls a ((part a, b) ∷ []) (one_part a h)
