-- Marks in a row, and eight of them as one word of the machine.
use Rattle.std.specs.Prelude.{ℕ, zero, suc, ◌+◌, ◌*◌, List, get_or, eqb, if◌then◌else◌}

-- of the n marks from a place on, in a row, how many are set before the first that is not; past the last mark none is set
unfoldable pub row_of : List ℕ → ℕ → ℕ → ℕ
row_of marks zero from = 0
row_of marks (suc n) from = if eqb (get_or marks from 0) 0 then 0 else suc (row_of marks n (from + 1))

-- the n marks from a place on as one number, the first in the lowest octet
unfoldable pub word_of : List ℕ → ℕ → ℕ → ℕ
word_of marks from zero = 0
word_of marks from (suc n) = word_of marks (from + 1) n * 256 + get_or marks from 0
