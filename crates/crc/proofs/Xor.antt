-- Functions that are additive: of the sum without carries they give the sum. Two of them that agree at each power of two agree everywhere.
-- Assumes nothing.
use mathlib.Core.Path.{◌≡◌, refl, sym, ap, ap₂, ◌∙◌, subst, subst₂}
use mathlib.Core.Bool.{Bool, true, false, ◌&&◌}
use Prim.Native.Nat.{ℕ, zero, suc, ◌+◌, ◌-◌, ◌*◌, ◌/◌, ◌%◌, ◌^◌, ◌≤◌, ◌<◌}
use native.Mathlib.Nat.{mod-lt, zero-lt-suc, add-zero, one-mul, not-suc-le-zero, le_of_suc-le-suc, pow-suc}
use native.Mathlib.Omega.{arith}
use lib.Arith.{bin_ind, lt-one}
use lib.Pow.{pow_pos, split}
use lib.Dec.{ltb, eqb}
use lib.Bits.{bit_xor, xor_comm, xor_block, xor_shr, xor_mod, xor_shifted, xor_lt}
use borrow.Author.Tests.{ltb-true, ltb-false, eqb-true}
use Rattle.laws.proofs.Choice.{both}

-- ---- the sum without carries

-- of three digits, any two can be added first
digits_assoc : (x y z : ℕ) → x < 2 → y < 2 → z < 2 → bit_xor (bit_xor x y) z ≡ bit_xor x (bit_xor y z)
digits_assoc zero y z hx hy hz = refl
digits_assoc (suc zero) zero z hx hy hz = refl
digits_assoc (suc zero) (suc zero) zero hx hy hz = refl
digits_assoc (suc zero) (suc zero) (suc zero) hx hy hz = refl
digits_assoc (suc zero) (suc zero) (suc (suc z)) hx hy hz = absurd (not-suc-le-zero (le_of_suc-le-suc (le_of_suc-le-suc hz)))
digits_assoc (suc zero) (suc (suc y)) z hx hy hz = absurd (not-suc-le-zero (le_of_suc-le-suc (le_of_suc-le-suc hy)))
digits_assoc (suc (suc x)) y z hx hy hz = absurd (not-suc-le-zero (le_of_suc-le-suc (le_of_suc-le-suc hx)))

-- the digit at the end, and the rest
block_assoc : (a b c r s t : ℕ) → r < 2 → s < 2 → t < 2 → bit_xor (bit_xor a b) c ≡ bit_xor a (bit_xor b c)
    → bit_xor (bit_xor (a * 2 + r) (b * 2 + s)) (c * 2 + t) ≡ bit_xor (a * 2 + r) (bit_xor (b * 2 + s) (c * 2 + t))
block_assoc a b c r s t hr hs ht e =
    ap (λ (x : ℕ). bit_xor x (c * 2 + t)) (xor_block 1 a b r s hr hs)
    ∙ xor_block 1 (bit_xor a b) c (bit_xor r s) t (xor_lt 1 r s hr hs) ht
    ∙ ap₂ (λ (x y : ℕ). x * 2 + y) e (digits_assoc r s t hr hs ht)
    ∙ sym (xor_block 1 a (bit_xor b c) r (bit_xor s t) hr (xor_lt 1 s t hs ht))
    ∙ ap (bit_xor (a * 2 + r)) (sym (xor_block 1 b c s t hs ht))

pub xor_assoc : (a b c : ℕ) → bit_xor (bit_xor a b) c ≡ bit_xor a (bit_xor b c)
xor_assoc =
    bin_ind (λ (n : ℕ). (b c : ℕ) → bit_xor (bit_xor n b) c ≡ bit_xor n (bit_xor b c)) (λ b c. refl)
    (λ n ih b c. halved n b c (block_assoc (n / 2) (b / 2) (c / 2) (n % 2) (b % 2) (c % 2) (odd n) (odd b) (odd c) (ih (b / 2) (c / 2))))
  where
    odd : (n : ℕ) → n % 2 < 2
    odd n = mod-lt n (zero-lt-suc 1)

    halved : (a b c : ℕ)
        → bit_xor (bit_xor (a / 2 * 2 + a % 2) (b / 2 * 2 + b % 2)) (c / 2 * 2 + c % 2) ≡ bit_xor (a / 2 * 2 + a % 2) (bit_xor (b / 2 * 2 + b % 2) (c / 2 * 2 + c % 2))
        → bit_xor (bit_xor a b) c ≡ bit_xor a (bit_xor b c)
    halved a b c e = subst₂ (λ (x y : ℕ). bit_xor (bit_xor x y) c ≡ bit_xor x (bit_xor y c)) (split a 1) (split b 1)
        (subst (λ (z : ℕ). bit_xor (bit_xor (a / 2 * 2 + a % 2) (b / 2 * 2 + b % 2)) z ≡ bit_xor (a / 2 * 2 + a % 2) (bit_xor (b / 2 * 2 + b % 2) z)) (split c 1) e)

-- two sums are added part by part
pub xor_parts : (a b c d : ℕ) → bit_xor (bit_xor a b) (bit_xor c d) ≡ bit_xor (bit_xor a c) (bit_xor b d)
xor_parts a b c d =
    xor_assoc a b (bit_xor c d)
    ∙ ap (bit_xor a) (sym (xor_assoc b c d) ∙ ap (λ (x : ℕ). bit_xor x d) (xor_comm b c) ∙ xor_assoc c b d)
    ∙ sym (xor_assoc a c (bit_xor b d))

-- ---- additive functions

abbrev pub Additive : (ℕ → ℕ) → Type 0
Additive f = (a b : ℕ) → f (bit_xor a b) ≡ bit_xor (f a) (f b)

-- the same of numbers of k bits alone
abbrev pub AdditiveBelow : ℕ → (ℕ → ℕ) → Type 0
AdditiveBelow k f = (a b : ℕ) → a < 2 ^ k → b < 2 ^ k → f (bit_xor a b) ≡ bit_xor (f a) (f b)

pub same_additive : Additive (λ a. a)
same_additive a b = refl

pub up_additive : (k : ℕ) → Additive (λ a. a * 2 ^ k)
up_additive k a b =
    sym (add-zero (bit_xor a b * 2 ^ k))
    ∙ sym (xor_block k a b 0 0 (pow_pos k) (pow_pos k))
    ∙ ap₂ bit_xor (add-zero (a * 2 ^ k)) (add-zero (b * 2 ^ k))

pub down_additive : (k : ℕ) → Additive (λ a. a / 2 ^ k)
down_additive k a b = xor_shr a b k

pub low_additive : (k : ℕ) → Additive (λ a. a % 2 ^ k)
low_additive k a b = xor_mod a b k

pub shl_additive : (k w : ℕ) → Additive (λ a. a * 2 ^ k % 2 ^ w)
shl_additive k w a b = ap (λ (x : ℕ). x % 2 ^ w) (up_additive k a b) ∙ low_additive w (a * 2 ^ k) (b * 2 ^ k)

pub sum_additive : (f g : ℕ → ℕ) → Additive f → Additive g → Additive (λ a. bit_xor (f a) (g a))
sum_additive f g hf hg a b = ap₂ bit_xor (hf a b) (hg a b) ∙ xor_parts (f a) (f b) (g a) (g b)

pub after_additive : (f g : ℕ → ℕ) → Additive f → Additive g → Additive (λ a. g (f a))
after_additive f g hf hg a b = ap g (hf a b) ∙ hg (f a) (f b)

-- ---- two that agree at zero and at each power of two

-- the test, to be computed
unfoldable pub agree : (ℕ → ℕ) → (ℕ → ℕ) → ℕ → Bool
agree f g zero = eqb (f 0) (g 0)
agree f g (suc k) = eqb (f (2 ^ k)) (g (2 ^ k)) && agree f g k

grown : (k : ℕ) {x : ℕ} → x < 2 ^ k → x < 2 ^ suc k
grown k l = omega (arith, pow-suc 2 k, l)

narrowed : (f : ℕ → ℕ) (k : ℕ) → AdditiveBelow (suc k) f → AdditiveBelow k f
narrowed f k h a b ha hb = h a b (grown k ha) (grown k hb)

-- a number with the top bit set is that bit and the rest
topped : (k a : ℕ) → 2 ^ k ≤ a → a - 2 ^ k < 2 ^ k → bit_xor (2 ^ k) (a - 2 ^ k) ≡ a
topped k a l d =
    let once : 1 * 2 ^ k ≡ 2 ^ k = one-mul (2 ^ k) in
    ap (λ (x : ℕ). bit_xor x (a - 2 ^ k)) (sym once) ∙ xor_shifted 1 k (a - 2 ^ k) d ∙ omega (arith, once, l)

one_more_lem : (f g : ℕ → ℕ) (k : ℕ) → AdditiveBelow (suc k) f → AdditiveBelow (suc k) g → f (2 ^ k) ≡ g (2 ^ k)
    → ((a : ℕ) → a < 2 ^ k → f a ≡ g a) → (a : ℕ) → a < 2 ^ suc k → (t : Bool) → ltb a (2 ^ k) ≡ t → f a ≡ g a
one_more_lem f g k hf hg e lower a h true p = lower a (ltb-true a (2 ^ k) p)
one_more_lem f g k hf hg e lower a h false p =
    let l : 2 ^ k ≤ a = ltb-false a (2 ^ k) p in
    let d : a - 2 ^ k < 2 ^ k = omega (arith, pow-suc 2 k, l, h) in
    let top : 2 ^ k < 2 ^ suc k = omega (arith, pow-suc 2 k, pow_pos k) in
    subst (λ (x : ℕ). f x ≡ g x) (topped k a l d)
    (hf (2 ^ k) (a - 2 ^ k) top (grown k d) ∙ ap₂ bit_xor e (lower (a - 2 ^ k) d) ∙ sym (hg (2 ^ k) (a - 2 ^ k) top (grown k d)))

pub agreed : (f g : ℕ → ℕ) (k : ℕ) → AdditiveBelow k f → AdditiveBelow k g → agree f g k ≡ true → (a : ℕ) → a < 2 ^ k → f a ≡ g a
unfolding agree
agreed f g zero hf hg t a h = subst (λ (x : ℕ). f x ≡ g x) (sym (lt-one h)) (eqb-true (f 0) (g 0) t)
agreed f g (suc k) hf hg t a h =
    let ts = both (eqb (f (2 ^ k)) (g (2 ^ k))) (agree f g k) t in
    one_more_lem f g k hf hg (eqb-true (f (2 ^ k)) (g (2 ^ k)) ts.0)
    (agreed f g k (narrowed f k hf) (narrowed g k hg) ts.1) a h (ltb a (2 ^ k)) refl
