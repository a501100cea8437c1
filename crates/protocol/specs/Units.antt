-- Units and their segments: how a unit is cut, and which units are complete among segments in order.
use Rattle.std.specs.Prelude.{ℕ, zero, suc, ◌+◌, Bool, false, not, ◌&&◌, ◌||◌, List, [], ◌∷◌, ◌++◌, ltb, eqb, length, if◌then◌else◌}
use Rattle.slots.specs.Units.{segments_of, segment_cut}

-- what the application hands over and takes: its octets
abbrev pub DataUnit : Type 0
DataUnit = List ℕ

-- Flags 01 first, 00 continuation, 10 last, 11 whole unit: the low bit is `first`, the high bit `last`
pub record Segment : Type 0 where
  pub first : Bool
  pub last : Bool
  pub octets : List ℕ

-- stands where there is no segment
abbrev pub blank : Segment
blank = record { first = false; last = false; octets = [] }

-- ---- cut

-- the i-th of the unit's `count` segments, of at most `payload` octets
abbrev pub segment_at : ℕ → DataUnit → ℕ → ℕ → Segment
segment_at payload u count i = record { first = eqb i 0; last = eqb (i + 1) count; octets = segment_cut payload u i }

-- n of them, from the i-th on
unfoldable pub segments_from : ℕ → DataUnit → ℕ → ℕ → ℕ → List Segment
segments_from payload u count zero i = []
segments_from payload u count (suc n) i = segment_at payload u count i ∷ segments_from payload u count n (i + 1)

-- 'All segments of a unit but the last have P octets; an empty unit is one whole segment of 0 octets'
unfoldable pub cut : ℕ → DataUnit → List Segment
cut payload u =
    let count = segments_of payload (length u) in
    segments_from payload u count count 0

-- units one after another
unfoldable pub cuts : ℕ → List DataUnit → List Segment
cuts payload [] = []
cuts payload (u ∷ us) = cut payload u ++ cuts payload us

-- ---- rejoined

-- the complete units among segments in order; `part` is what the unit on the way has before them
abbrev pub units : List ℕ → List Segment → List DataUnit
units part [] = []
units part (g ∷ l) = if g.last then (part ++ g.octets) ∷ units [] l else units (part ++ g.octets) l

-- how many units end among segments
abbrev pub endings : List Segment → ℕ
endings [] = 0
endings (g ∷ l) = if g.last then suc (endings l) else endings l

-- where the last complete unit ends: the index past its last segment. `at` is the index of the first segment given, `b` the answer so far
abbrev pub whole_to : ℕ → ℕ → List Segment → ℕ
whole_to b at [] = b
whole_to b at (g ∷ l) = if g.last then whole_to (suc at) (suc at) l else whole_to b (suc at) l

-- how many segments the first complete unit has, 0 if none is complete
abbrev pub one_more : ℕ → ℕ
one_more zero = 0
one_more (suc n) = suc (suc n)

abbrev pub first_unit : List Segment → ℕ
first_unit [] = 0
first_unit (g ∷ l) = if g.last then 1 else one_more (first_unit l)

-- ---- flags

-- how many segments the unit on the way has, n of them before these
abbrev pub on_way : ℕ → List Segment → ℕ
on_way n [] = n
on_way n (g ∷ l) = if g.last then on_way 0 l else on_way (suc n) l

-- 'flags must read 11, or 01, any 00s, 10, and a unit's M-th segment must end it': the next segment, where the unit on the way has n
abbrev pub fitting : ℕ → ℕ → Segment → Bool
fitting most n g = (if eqb n 0 then g.first else not g.first) && (g.last || ltb (suc n) most)
