-- A word folded at once is its octets gone into the register one by one. Each side is additive, so it is enough that they agree at each power of
-- two, which is computed.
-- Assumes nothing.
use mathlib.Core.Path.{◌≡◌, refl, sym, ap, ap₂, ◌∙◌}
use Prim.Native.Nat.{ℕ, zero, suc, ◌+◌, ◌*◌, ◌/◌, ◌%◌, ◌^◌, ◌<◌}
use native.Mathlib.Nat.{mod-lt, not-suc-le-zero, le_of_suc-le-suc}
use native.Mathlib.Omega.{arith}
use lib.Pow.{pow_pos, shl_lt, shr_lt}
use lib.Bits.{bit_xor, xor_lt, xor_shr, xor_shifted}
use Rattle.crc.specs.Crc.{poly, shift_one, shifts, octet_into}
use Rattle.crc.specs.Words.{fall_once, fall_twice, fall_four, fall_eight, spread, folded}
use Rattle.crc.proofs.Xor.{Additive, AdditiveBelow, same_additive, up_additive, down_additive, low_additive, shl_additive, sum_additive, after_additive, xor_parts, xor_assoc, agree, agreed}

-- ---- bit by bit is additive, on 16 bits

-- the bit that falls out is a factor
factor_additive : (x y : ℕ) → x < 2 → y < 2 → bit_xor x y * poly ≡ bit_xor (x * poly) (y * poly)
factor_additive zero y hx hy = refl
factor_additive (suc zero) zero hx hy = refl
factor_additive (suc zero) (suc zero) hx hy = refl
factor_additive (suc zero) (suc (suc y)) hx hy = absurd (not-suc-le-zero (le_of_suc-le-suc (le_of_suc-le-suc hy)))
factor_additive (suc (suc x)) y hx hy = absurd (not-suc-le-zero (le_of_suc-le-suc (le_of_suc-le-suc hx)))

shift_additive : AdditiveBelow 16 shift_one
unfolding shift_one
shift_additive a b ha hb =
    ap₂ bit_xor (shl_additive 1 16 a b)
    (ap (λ (x : ℕ). x * poly) (xor_shr a b 15) ∙ factor_additive (a / 2 ^ 15) (b / 2 ^ 15) (shr_lt 1 15 ha) (shr_lt 1 15 hb))
    ∙ xor_parts (a * 2 ^ 1 % 2 ^ 16) (b * 2 ^ 1 % 2 ^ 16) (a / 2 ^ 15 * poly) (b / 2 ^ 15 * poly)

shift_lt : (c : ℕ) → c < 2 ^ 16 → shift_one c < 2 ^ 16
unfolding shift_one
shift_lt c h =
    let l : c / 2 ^ 15 < 2 = shr_lt 1 15 h in
    xor_lt 16 (c * 2 ^ 1 % 2 ^ 16) (c / 2 ^ 15 * poly) (mod-lt (c * 2 ^ 1) (pow_pos 16)) (omega (arith, l))

shifts_additive : (n : ℕ) → AdditiveBelow 16 (shifts n)
unfolding shifts
shifts_additive zero a b ha hb = refl
shifts_additive (suc n) a b ha hb =
    ap (shifts n) (shift_additive a b ha hb) ∙ shifts_additive n (shift_one a) (shift_one b) (shift_lt a ha) (shift_lt b hb)

-- ---- and so is a word folded

fall_once_additive : Additive fall_once
unfolding fall_once
fall_once_additive =
    sum_additive (λ w. bit_xor (bit_xor w (w / 2 ^ 4)) (w / 2 ^ 11)) (λ w. w / 2 ^ 16)
    (sum_additive (λ w. bit_xor w (w / 2 ^ 4)) (λ w. w / 2 ^ 11)
    (sum_additive (λ w. w) (λ w. w / 2 ^ 4) same_additive (down_additive 4)) (down_additive 11)) (down_additive 16)

fall_twice_additive : Additive fall_twice
unfolding fall_twice
fall_twice_additive =
    sum_additive (λ w. bit_xor (bit_xor w (w / 2 ^ 8)) (w / 2 ^ 22)) (λ w. w / 2 ^ 32)
    (sum_additive (λ w. bit_xor w (w / 2 ^ 8)) (λ w. w / 2 ^ 22)
    (sum_additive (λ w. w) (λ w. w / 2 ^ 8) same_additive (down_additive 8)) (down_additive 22)) (down_additive 32)

pub fall_four_additive : Additive fall_four
unfolding fall_four
fall_four_additive =
    sum_additive (λ w. bit_xor w (w / 2 ^ 16)) (λ w. w / 2 ^ 44)
    (sum_additive (λ w. w) (λ w. w / 2 ^ 16) same_additive (down_additive 16)) (down_additive 44)

pub fall_eight_additive : Additive fall_eight
unfolding fall_eight
fall_eight_additive = sum_additive (λ w. w) (λ w. w / 2 ^ 32) same_additive (down_additive 32)

spread_additive : Additive spread
unfolding spread
spread_additive =
    sum_additive (λ t. bit_xor t (t * 2 ^ 5 % 2 ^ 16)) (λ t. t * 2 ^ 12 % 2 ^ 16)
    (sum_additive (λ t. t) (λ t. t * 2 ^ 5 % 2 ^ 16) same_additive (shl_additive 5 16)) (shl_additive 12 16)

pub folded_additive : Additive folded
unfolding folded
folded_additive =
    after_additive fall_once (λ w. spread (fall_eight (fall_four (fall_twice w)) % 2 ^ 16)) fall_once_additive
    (after_additive fall_twice (λ w. spread (fall_eight (fall_four w) % 2 ^ 16)) fall_twice_additive
    (after_additive fall_four (λ w. spread (fall_eight w % 2 ^ 16)) fall_four_additive
    (after_additive fall_eight (λ w. spread (w % 2 ^ 16)) fall_eight_additive
    (after_additive (λ w. w % 2 ^ 16) spread (low_additive 16) spread_additive))))

pub folded_lt : (w : ℕ) → folded w < 2 ^ 16
unfolding folded spread
folded_lt w =
    let t = fall_eight (fall_four (fall_twice (fall_once w))) % 2 ^ 16 in
    xor_lt 16 (bit_xor t (t * 2 ^ 5 % 2 ^ 16)) (t * 2 ^ 12 % 2 ^ 16)
    (xor_lt 16 t (t * 2 ^ 5 % 2 ^ 16) (mod-lt (fall_eight (fall_four (fall_twice (fall_once w)))) (pow_pos 16)) (mod-lt (t * 2 ^ 5) (pow_pos 16)))
    (mod-lt (t * 2 ^ 12) (pow_pos 16))

-- ---- where they agree

pub below : (f : ℕ → ℕ) (k : ℕ) → Additive f → AdditiveBelow k f
below f k h a b ha hb = h a b

-- a register of 16 bits, folded, is the register 16 bits later
pub folded_shifts : (c : ℕ) → c < 2 ^ 16 → folded c ≡ shifts 16 c
unfolding agree folded fall_once fall_twice fall_four fall_eight spread shifts shift_one
folded_shifts = agreed folded (shifts 16) 16 (below folded 16 folded_additive) (shifts_additive 16) refl

-- the upper octet of a register falls out, the lower moves up
pub shifts_octet : (c : ℕ) → c < 2 ^ 16 → shifts 8 c ≡ bit_xor (c * 2 ^ 8 % 2 ^ 16) (folded (c / 2 ^ 8))
unfolding agree folded fall_once fall_twice fall_four fall_eight spread shifts shift_one
shifts_octet =
    agreed (shifts 8) (λ c. bit_xor (c * 2 ^ 8 % 2 ^ 16) (folded (c / 2 ^ 8))) 16 (shifts_additive 8)
    (below (λ c. bit_xor (c * 2 ^ 8 % 2 ^ 16) (folded (c / 2 ^ 8))) 16
    (sum_additive (λ c. c * 2 ^ 8 % 2 ^ 16) (λ c. folded (c / 2 ^ 8)) (shl_additive 8 16)
    (after_additive (λ c. c / 2 ^ 8) folded (down_additive 8) folded_additive)))
    refl

-- a word moved up by an octet
moved : (w : ℕ) → w < 2 ^ 56 → folded (w * 2 ^ 8) ≡ shifts 8 (folded w)
unfolding agree folded fall_once fall_twice fall_four fall_eight spread shifts shift_one
moved =
    agreed (λ w. folded (w * 2 ^ 8)) (λ w. shifts 8 (folded w)) 56
    (below (λ w. folded (w * 2 ^ 8)) 56 (after_additive (λ w. w * 2 ^ 8) folded (up_additive 8) folded_additive))
    (λ a b ha hb. ap (shifts 8) (folded_additive a b) ∙ shifts_additive 8 (folded a) (folded b) (folded_lt a) (folded_lt b))
    refl

-- an octet alone is as if it were added at the register's top
pub low_octet : (b : ℕ) → b < 2 ^ 8 → folded b ≡ shifts 8 (b * 2 ^ 8)
unfolding agree folded fall_once fall_twice fall_four fall_eight spread shifts shift_one
low_octet =
    agreed folded (λ b. shifts 8 (b * 2 ^ 8)) 8 (below folded 8 folded_additive)
    (λ a b ha hb. ap (shifts 8) (up_additive 8 a b) ∙ shifts_additive 8 (a * 2 ^ 8) (b * 2 ^ 8) (shl_lt 8 8 ha) (shl_lt 8 8 hb))
    refl

-- ---- octets of a word, one after the other

shifts_lt : (n c : ℕ) → c < 2 ^ 16 → shifts n c < 2 ^ 16
unfolding shifts
shifts_lt zero c h = h
shifts_lt (suc n) c h = shifts_lt n (shift_one c) (shift_lt c h)

-- a word that stands for the register c with an octet to come
joined : (w c b : ℕ) → c < 2 ^ 16 → b < 2 ^ 8 → folded w ≡ shifts 8 c → folded (bit_xor w b) ≡ octet_into c b
unfolding octet_into
joined w c b hc hb e =
    folded_additive w b ∙ ap₂ bit_xor e (low_octet b hb) ∙ sym (shifts_additive 8 c (b * 2 ^ 8) hc (shl_lt 8 8 hb))

-- one octet more in a word
pub word_more : (w b : ℕ) → w < 2 ^ 56 → b < 2 ^ 8 → folded (w * 2 ^ 8 + b) ≡ octet_into (folded w) b
word_more w b hw hb = ap folded (sym (xor_shifted w 8 b hb)) ∙ joined (w * 2 ^ 8) (folded w) b (folded_lt w) hb (moved w hw)

-- the first two octets meet the register
pub word_first : (c a b : ℕ) → c < 2 ^ 16 → a < 2 ^ 8 → b < 2 ^ 8 → folded (bit_xor c (a * 2 ^ 8 + b)) ≡ octet_into (octet_into c a) b
unfolding octet_into shifts
word_first c a b hc ha hb =
    let y = bit_xor c (a * 2 ^ 8) in
    let hy : y < 2 ^ 16 = xor_lt 16 c (a * 2 ^ 8) hc (shl_lt 8 8 ha) in
    ap (λ (x : ℕ). folded (bit_xor c x)) (sym (xor_shifted a 8 b hb))
    ∙ ap folded (sym (xor_assoc c (a * 2 ^ 8) b))
    ∙ joined y (octet_into c a) b (shifts_lt 8 y hy) hb (folded_shifts y hy)
