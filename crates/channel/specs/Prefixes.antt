-- Source Address prefixes, as a record has them (document 02, A7; 000, 4.2.3.8.3 and 4.2.3.9).
use Rattle.std.specs.Prelude.{ℕ, zero, suc, ◌+◌, ◌-◌, Bool, true, ◌&&◌, List, [], ◌∷◌, ◌++◌, drop, replicate, ◌==◌, nat_le, slice_index}
use Rattle.packet.specs.Layout.{most_prefix}
use Rattle.channel.specs.declared.record.Prefix.{Prefix}

-- n octets from the i-th on
abbrev pub octets_from : List ℕ → ℕ → ℕ → List ℕ
octets_from l zero i = []
octets_from l (suc n) i = slice_index l i ∷ octets_from l n (i + 1)

-- n of them from the i-th on pass a test
unfoldable pub each : (ℕ → Bool) → ℕ → ℕ → Bool
each test zero i = true
each test (suc n) i = test i && each test n (i + 1)

-- the i-th octet is 0; it is the same in two
abbrev pub is_zero : List ℕ → ℕ → Bool
is_zero l i = slice_index l i == 0

abbrev pub is_same : List ℕ → List ℕ → ℕ → Bool
is_same l m i = slice_index l i == slice_index m i

-- the octets that a prefix has
unfoldable pub prefix_of : Prefix → List ℕ
prefix_of p = octets_from p.octets p.length 0

-- 15 octets at most, and 0 past them: so equal prefixes are equal parts
unfoldable pub fit_prefix : Prefix → Bool
fit_prefix p = nat_le p.length most_prefix && each (is_zero p.octets) (most_prefix - p.length) p.length

unfoldable pub same_prefix : Prefix → Prefix → Bool
same_prefix p q = p.length == q.length && each (is_same p.octets q.octets) most_prefix 0

-- n octets that are these, with 0 past them; a prefix of them, and one of none
abbrev pub padded : ℕ → List ℕ → List ℕ
padded n l = l ++ drop n (replicate most_prefix 0)

abbrev pub prefix_with : ℕ → List ℕ → Prefix
prefix_with n l = record { length = n; octets = padded n l }

abbrev pub no_prefix : Prefix
no_prefix = prefix_with 0 []
