-- How the octets of a word go into the register at once. The contracts inside this crate cite it; what the check sum is, Crc.antt says alone, and
-- proofs/Words.antt shows that both come to the same.
--
-- A word of 64 bits stands for a polynomial, its top bit first. Times x^16, it is to be brought below x^16. Each x^16 is x^12 + x^5 + 1 (`poly`), so
-- a bit of the word falls back onto the bits 4, 11 and 16 below it, and what falls there falls on. Past the word's low end lies the register.
use Rattle.std.specs.Prelude.{ℕ, ◌+◌, ◌*◌, ◌/◌, ◌%◌, ◌^◌, List, [], ◌∷◌, get_or}
use Rattle.std.specs.Int.Bits.{bit_xor}

-- a word, and what falls back of it once: 1 + p, where p is the fall by 4, 11 and 16 places
unfoldable pub fall_once : ℕ → ℕ
fall_once w = bit_xor (bit_xor (bit_xor w (w / 2 ^ 4)) (w / 2 ^ 11)) (w / 2 ^ 16)

-- 1 + p^2: without carries a sum is squared term by term, so the places are doubled
unfoldable pub fall_twice : ℕ → ℕ
fall_twice w = bit_xor (bit_xor (bit_xor w (w / 2 ^ 8)) (w / 2 ^ 22)) (w / 2 ^ 32)

-- 1 + p^4: the third place is past the end of 64 bits
unfoldable pub fall_four : ℕ → ℕ
fall_four w = bit_xor (bit_xor w (w / 2 ^ 16)) (w / 2 ^ 44)

-- 1 + p^8: so is the second
unfoldable pub fall_eight : ℕ → ℕ
fall_eight w = bit_xor w (w / 2 ^ 32)

-- the last 16 bits of the word fall into the register: each is 1 + x^5 + x^12 there
unfoldable pub spread : ℕ → ℕ
spread t = bit_xor (bit_xor t (t * 2 ^ 5 % 2 ^ 16)) (t * 2 ^ 12 % 2 ^ 16)

-- all falls: (1 + p) (1 + p^2) (1 + p^4) (1 + p^8) is 1 + p + .. + p^15, and the places of p^16 are past the end of 64 bits
unfoldable pub folded : ℕ → ℕ
folded w = spread (fall_eight (fall_four (fall_twice (fall_once w))) % 2 ^ 16)

-- the four octets from place i on as one number, the first at the top
unfoldable pub four_at : List ℕ → ℕ → ℕ
four_at s i = ((get_or s i 0 * 256 + get_or s (i + 1) 0) * 256 + get_or s (i + 2) 0) * 256 + get_or s (i + 3) 0

-- the eight octets from place i on as one number
unfoldable pub word_at : List ℕ → ℕ → ℕ
word_at s i = four_at s i * 2 ^ 32 + four_at s (i + 4)

-- one word more: the register is added at its top
unfoldable pub word_into : ℕ → ℕ → ℕ
word_into r w = folded (bit_xor (r * 2 ^ 48) w)

-- words one after the other, from the register r on
unfoldable pub words_into : ℕ → List ℕ → ℕ
words_into r [] = r
words_into r (w ∷ l) = words_into (word_into r w) l
