-- The check sum of a packet (document 01, The packet; 000, 4.2.5; 001, 4.3.1): x^16 + x^12 + x^5 + 1, started at all ones.
-- House reading: the top bit first, no final inversion.
use Rattle.std.specs.Prelude.{ℕ, zero, suc, ◌*◌, ◌/◌, ◌%◌, ◌^◌, List, [], ◌∷◌}
use Rattle.std.specs.Int.Bits.{bit_xor}

-- x^12 + x^5 + 1: what is added when x^16 falls out
abbrev pub poly : ℕ
poly = 0x1021

-- one bit: the register of 16 bits moves up by one, and a 1 that falls out at the top adds the polynomial
unfoldable pub shift_one : ℕ → ℕ
shift_one c = bit_xor (c * 2 ^ 1 % 2 ^ 16) (c / 2 ^ 15 * poly)

-- n bits
unfoldable pub shifts : ℕ → ℕ → ℕ
shifts zero c = c
shifts (suc n) c = shifts n (shift_one c)

-- one octet: it is added at the register's top, and its 8 bits are shifted
unfoldable pub octet_into : ℕ → ℕ → ℕ
octet_into c b = shifts 8 (bit_xor c (b * 2 ^ 8))

-- octets one after the other, from the register c on
unfoldable pub crc_from : ℕ → List ℕ → ℕ
crc_from c [] = c
crc_from c (b ∷ l) = crc_from (octet_into c b) l

-- the check sum of the octets l
unfoldable pub crc_of : List ℕ → ℕ
crc_of l = crc_from 0xFFFF l
