-- Whether octets are lines of a table of n records, 16 at most: as a test (13 where it fails), and as facts.
use Rattle.std.specs.Prelude.{ℕ, ◌+◌, ◌≤◌, ◌<◌, ◌≡◌, Bool, true, not, ◌&&◌, List, [], ◌∷◌, eqb, leb, ltb, length, get_or, drop, if◌then◌else◌}
use Rattle.lines.specs.Lines.{stands, line_octets, line_in, part_at, relist_all}

-- ---- as a test

-- each index is one of the table's
unfoldable pub below : ℕ → List ℕ → Bool
below n [] = true
below n (x ∷ l) = ltb x n && below n l

-- none stands twice
unfoldable pub apart : List ℕ → Bool
apart [] = true
apart (x ∷ l) = not (stands x l) && apart l

unfoldable pub blank : List ℕ → Bool
blank [] = true
blank (x ∷ l) = eqb x 0 && blank l

-- the 17 octets of a line: at most 16 stand, and past them all is 0
unfoldable pub fit_line : ℕ → List ℕ → Bool
fit_line n o = leb (get_or o 0 0) 16 && (below n (line_in o) && apart (line_in o)) && blank (drop (get_or o 0 0 + 1) o)

unfoldable pub fit_lines : ℕ → List ℕ → Bool
fit_lines n s = leb n 16 && eqb (length s) 51 && fit_line n (part_at 0 s) && fit_line n (part_at 1 s) && fit_line n (part_at 2 s)

-- a call that left channel i with a ready packet of each rank, or without; octets that are no lines stay
unfoldable pub relist_fit : ℕ → Bool → Bool → Bool → List ℕ → List ℕ
relist_fit i r0 r1 r2 s = if ltb i 16 && fit_lines 16 s then relist_all i r0 r1 r2 s else s

-- ---- as facts

pub record Line (n : ℕ) (l : List ℕ) : Type 0 where
  pub inside : below n l ≡ true
  pub once : apart l ≡ true

pub record FitLine (n : ℕ) (o : List ℕ) : Type 0 where
  pub few : n ≤ 16
  -- the octets are those of the line, and no others
  pub written : o ≡ line_octets (line_in o)
  pub line : Line n (line_in o)

pub record Fit (n : ℕ) (s : List ℕ) : Type 0 where
  pub size : length s ≡ 51
  pub each : (rank : ℕ) → rank < 3 → FitLine n (part_at rank s)
