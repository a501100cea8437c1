-- The rule of the table, by one test over the whole of it.
-- Assumes nothing.
use mathlib.Core.Path.{◌≡◌, refl, ap, ◌∙◌}
use mathlib.Core.Bool.{Bool, true, ◌&&◌}
use mathlib.Core.List.{List, [], ◌∷◌}
use Prim.Native.Nat.{ℕ, zero, suc, ◌+◌, ◌*◌, ◌%◌, ◌/◌, ◌^◌, ◌<◌}
use native.Mathlib.Nat.{zero-add, le_of_suc-le-suc, not-suc-le-zero}
use native.Mathlib.Omega.{arith}
use lib.Dec.{eqb}
use lib.ListN.{length, get_or}
use lib.Bits.{bit_xor}
use borrow.Author.Tests.{eqb-true}
use Rattle.laws.proofs.Choice.{both}
use Rattle.crc.specs.Crc.{shift_one, shifts}
use Rattle.crc.specs.Table.{table}
use Rattle.crc.specs.Words.{folded}
use Rattle.crc.proofs.Words.{low_octet, shifts_octet}

-- the test, to be computed: the numbers of a list, the first of which stands at the octet k
unfoldable ruled : ℕ → List ℕ → Bool
ruled k [] = true
ruled k (x ∷ l) = eqb x (shifts 8 (k * 2 ^ 8)) && ruled (suc k) l

ruled_at : (k : ℕ) (l : List ℕ) → ruled k l ≡ true → (i : ℕ) → i < length l → get_or l i 0 ≡ shifts 8 ((k + i) * 2 ^ 8)
unfolding ruled
ruled_at k [] t i h = absurd (not-suc-le-zero h)
ruled_at k (x ∷ l) t zero h =
    eqb-true x (shifts 8 (k * 2 ^ 8)) (both (eqb x (shifts 8 (k * 2 ^ 8))) (ruled (suc k) l) t).0 ∙ ap (λ (m : ℕ). shifts 8 (m * 2 ^ 8)) (omega arith)
ruled_at k (x ∷ l) t (suc i) h =
    ruled_at (suc k) l (both (eqb x (shifts 8 (k * 2 ^ 8))) (ruled (suc k) l) t).1 i (le_of_suc-le-suc h) ∙ ap (λ (m : ℕ). shifts 8 (m * 2 ^ 8)) (omega arith)

-- the number at an octet is what its eight bits, at the register's top, give
pub table_rule : (u : ℕ) → u < 256 → get_or table u 0 ≡ shifts 8 (u * 2 ^ 8)
unfolding ruled table shifts shift_one
table_rule u h = ruled_at 0 table refl u h ∙ ap (λ (m : ℕ). shifts 8 (m * 2 ^ 8)) (zero-add u)

-- an octet folded is the table's number
pub folded_entry : (u : ℕ) → u < 256 → folded u ≡ get_or table u 0
folded_entry u h = cc (low_octet u h, table_rule u h)

-- the upper octet of a register falls out and adds its number, the lower moves up
pub table_octet : (c : ℕ) → c < 2 ^ 16 → bit_xor (c * 2 ^ 8 % 2 ^ 16) (get_or table (c / 2 ^ 8) 0) ≡ shifts 8 c
table_octet c h =
    let l : c / 2 ^ 8 < 256 = omega arith in
    cc (shifts_octet c h, folded_entry (c / 2 ^ 8) l)
