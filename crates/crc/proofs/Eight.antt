-- Eight octets at once: the word of them, the register added at its top, folded.
-- Assumes nothing.
use mathlib.Core.Path.{◌≡◌, sym, ap, ap₂, ◌∙◌}
use Prim.Native.Nat.{ℕ, ◌+◌, ◌*◌, ◌^◌, ◌<◌}
use native.Mathlib.Nat.{add-zero}
use native.Mathlib.Omega.{arith}
use lib.Pow.{pow_pos}
use lib.Bits.{bit_xor, xor_lt, xor_block}
use Rattle.crc.specs.Crc.{octet_into}
use Rattle.crc.specs.Words.{folded}
use Rattle.crc.proofs.Words.{word_more, word_first}

-- four octets as one number, the first at the top
abbrev pub four_of : ℕ → ℕ → ℕ → ℕ → ℕ
four_of a b c d = ((a * 256 + b) * 256 + c) * 256 + d

-- eight octets into the register r, one after the other
abbrev pub eight_into : ℕ → ℕ → ℕ → ℕ → ℕ → ℕ → ℕ → ℕ → ℕ → ℕ
eight_into r a b c d e f g h = octet_into (octet_into (octet_into (octet_into (octet_into (octet_into (octet_into (octet_into r a) b) c) d) e) f) g) h

-- the register is added to the first two octets, the other six stay
word_top : (r a b c d e f g h : ℕ) → c < 256 → d < 256 → e < 256 → f < 256 → g < 256 → h < 256
    → bit_xor (r * 2 ^ 48) (four_of a b c d * 2 ^ 32 + four_of e f g h)
    ≡ (((((bit_xor r (a * 2 ^ 8 + b) * 2 ^ 8 + c) * 2 ^ 8 + d) * 2 ^ 8 + e) * 2 ^ 8 + f) * 2 ^ 8 + g) * 2 ^ 8 + h
word_top r a b c d e f g h hc hd he hf hg hh =
    let low = ((((c * 256 + d) * 256 + e) * 256 + f) * 256 + g) * 256 + h in
    let l : low < 2 ^ 48 = omega arith in
    let t : four_of a b c d * 2 ^ 32 + four_of e f g h ≡ (a * 2 ^ 8 + b) * 2 ^ 48 + low = omega arith in
    ap₂ bit_xor (sym (add-zero (r * 2 ^ 48))) t ∙ xor_block 48 r (a * 2 ^ 8 + b) 0 low (pow_pos 48) l ∙ omega arith

pub folded_eight : (r a b c d e f g h : ℕ) → r < 2 ^ 16 → a < 256 → b < 256 → c < 256 → d < 256 → e < 256 → f < 256 → g < 256 → h < 256
    → folded (bit_xor (r * 2 ^ 48) (four_of a b c d * 2 ^ 32 + four_of e f g h)) ≡ eight_into r a b c d e f g h
folded_eight r a b c d e f g h hr ha hb hc hd he hf hg hh =
    let w₂ = bit_xor r (a * 2 ^ 8 + b) in
    let w₃ = w₂ * 2 ^ 8 + c in
    let w₄ = w₃ * 2 ^ 8 + d in
    let w₅ = w₄ * 2 ^ 8 + e in
    let w₆ = w₅ * 2 ^ 8 + f in
    let w₇ = w₆ * 2 ^ 8 + g in
    let l : w₂ < 2 ^ 16 = xor_lt 16 r (a * 2 ^ 8 + b) hr (omega arith) in
    ap folded (word_top r a b c d e f g h hc hd he hf hg hh)
    ∙ word_more w₇ h (omega arith) hh
    ∙ ap (λ (x : ℕ). octet_into x h) (word_more w₆ g (omega arith) hg)
    ∙ ap (λ (x : ℕ). octet_into (octet_into x g) h) (word_more w₅ f (omega arith) hf)
    ∙ ap (λ (x : ℕ). octet_into (octet_into (octet_into x f) g) h) (word_more w₄ e (omega arith) he)
    ∙ ap (λ (x : ℕ). octet_into (octet_into (octet_into (octet_into x e) f) g) h) (word_more w₃ d (omega arith) hd)
    ∙ ap (λ (x : ℕ). octet_into (octet_into (octet_into (octet_into (octet_into x d) e) f) g) h) (word_more w₂ c (omega arith) hc)
    ∙ ap (λ (x : ℕ). octet_into (octet_into (octet_into (octet_into (octet_into (octet_into x c) d) e) f) g) h) (word_first r a b hr ha hb)
