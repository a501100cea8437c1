-- The ring of slots: places from 0 to slots - 1, where 0 follows the last, and a mark at each, 0 or not (document 01, A channel's record and
-- memory). What the marks stand for is the caller's business.
use Rattle.std.specs.Prelude.{ℕ, zero, suc, ◌+◌, ◌-◌, List, get_or, set, ltb, eqb, if◌then◌else◌}

-- a place on the ring, at most one turn past its end
unfoldable pub round_of : ℕ → ℕ → ℕ
round_of slots x = if ltb x slots then x else x - slots

-- the place n before
unfoldable pub back_of : ℕ → ℕ → ℕ → ℕ
back_of slots place n = round_of slots (place + (slots - n))

-- of the n marks from a place on, round the ring, how many are set before the first that is not
unfoldable pub run_of : List ℕ → ℕ → ℕ → ℕ → ℕ
run_of marks slots zero from = 0
run_of marks slots (suc n) from =
    if eqb (get_or marks from 0) 0 then 0 else suc (run_of marks slots n (round_of slots (from + 1)))

-- the n marks from a place on, round the ring, set to 0
unfoldable pub cleared : List ℕ → ℕ → ℕ → ℕ → List ℕ
cleared marks slots zero from = marks
cleared marks slots (suc n) from = cleared (set marks from 0) slots n (round_of slots (from + 1))
