-- Octets, and numbers of two octets, the most significant first.
use Rattle.std.specs.Prelude.{ℕ, ◌+◌, ◌*◌, ◌/◌, ◌%◌, ◌<◌, List, [], ◌∷◌, get_or}

-- each element of l is an octet, as in a slice of u8 (past the end get_or gives 0)
abbrev pub Octets : List ℕ → Type 0
Octets l = (k : ℕ) → get_or l k 0 < 256

-- the two octets of n
abbrev pub octets_of : ℕ → List ℕ
octets_of n = (n / 256) ∷ (n % 256) ∷ []

-- the number of two octets
abbrev pub pair_of : ℕ → ℕ → ℕ
pair_of hi lo = hi * 256 + lo

-- the number in the octets k and k + 1 of l
abbrev pub pair_at : List ℕ → ℕ → ℕ
pair_at l k = pair_of (get_or l k 0) (get_or l (k + 1) 0)
