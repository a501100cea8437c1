-- Units on the ring of slots (document 01, A channel's record and memory, Sending, Receiving): of the n segments in the slots from a place on,
-- round the ring, where units end, how many octets they have, and the octets themselves; and a unit filed there, segment by segment.
use Rattle.std.specs.Prelude.{ℕ, zero, suc, ◌+◌, ◌*◌, ◌≤◌, ◌<◌, Bool, List, [], ◌++◌, length, get_or, set, if◌then◌else◌}
use Rattle.slots.specs.Ring.{round_of}
use Rattle.slots.specs.Marks.{mark_of, ends}
use Rattle.slots.specs.Slots.{laid, segment_in}
use Rattle.slots.specs.Units.{segment_cut, flags_of}

-- ---- where units end, by the marks

-- how many of the n segments there are up to and with the first that ends a unit; n if none does
unfoldable pub unit_of : List ℕ → ℕ → ℕ → ℕ → ℕ
unit_of marks slots zero from = 0
unit_of marks slots (suc n) from =
    if ends (get_or marks from 0) then 1 else suc (unit_of marks slots n (round_of slots (from + 1)))

-- how many of the n segments end a unit
unfoldable pub ends_in : List ℕ → ℕ → ℕ → ℕ → ℕ
ends_in marks slots zero from = 0
ends_in marks slots (suc n) from =
    (if ends (get_or marks from 0) then 1 else 0) + ends_in marks slots n (round_of slots (from + 1))

-- up to and with the last end: of one segment, which ends a unit or not, and those behind it, of which r are up to and with the last end there
abbrev pub last_with : Bool → ℕ → ℕ
last_with here zero = if here then 1 else 0
last_with here (suc r) = suc (suc r)

-- how many of the n segments there are up to and with the last that ends a unit; 0 if none does
unfoldable pub last_end_in : List ℕ → ℕ → ℕ → ℕ → ℕ
last_end_in marks slots zero from = 0
last_end_in marks slots (suc n) from =
    last_with (ends (get_or marks from 0)) (last_end_in marks slots n (round_of slots (from + 1)))

-- ---- the octets of the n segments. Their lengths and octets lie in memory by slot, which the map `slot` gives for each place

-- each of the n lengths is at most a slot's
abbrev pub EachFits : (ℕ → ℕ) → ℕ → List ℕ → ℕ → ℕ → ℕ → Type 0
EachFits slot most lens slots n from = (i : ℕ) → i < n → get_or lens (slot (round_of slots (from + i))) 0 ≤ most

-- the sum of the n lengths
unfoldable pub size_in : (ℕ → ℕ) → List ℕ → ℕ → ℕ → ℕ → ℕ
size_in slot lens slots zero from = 0
size_in slot lens slots (suc n) from = get_or lens (slot from) 0 + size_in slot lens slots n (round_of slots (from + 1))

-- the octets of the n segments, one after another
unfoldable pub octets_in : (ℕ → ℕ) → ℕ → List ℕ → List ℕ → ℕ → ℕ → ℕ → List ℕ
octets_in slot most m lens slots zero from = []
octets_in slot most m lens slots (suc n) from =
    segment_in most m lens (slot from) ++ octets_in slot most m lens slots n (round_of slots (from + 1))

-- ---- a unit filed: n of its segments, the i-th at a place, the next at the next place, and so on round the ring

-- the memory, with the segments of the unit u
unfoldable pub filed_mem : (ℕ → ℕ) → ℕ → ℕ → List ℕ → List ℕ → ℕ → ℕ → ℕ → List ℕ
filed_mem slot most slots u m zero i from = m
filed_mem slot most slots u m (suc n) i from =
    filed_mem slot most slots u (laid m (slot from * most) (segment_cut most u i)) n (i + 1) (round_of slots (from + 1))

-- l with n values of f, the i-th where the map has a place, the next where it has the next place
unfoldable pub filed_by : (ℕ → ℕ) → (ℕ → ℕ) → ℕ → List ℕ → ℕ → ℕ → ℕ → List ℕ
filed_by slot f slots l zero i from = l
filed_by slot f slots l (suc n) i from = filed_by slot f slots (set l (slot from) (f i)) n (i + 1) (round_of slots (from + 1))

-- the lengths, with those of the unit's segments: by slot
unfoldable pub filed_lens : (ℕ → ℕ) → ℕ → ℕ → List ℕ → List ℕ → ℕ → ℕ → ℕ → List ℕ
filed_lens slot most slots u lens n i from = filed_by slot (λ (k : ℕ). length (segment_cut most u k)) slots lens n i from

-- the marks, with those of a unit of `count` segments: by place
unfoldable pub filed_marks : ℕ → ℕ → List ℕ → ℕ → ℕ → ℕ → List ℕ
filed_marks slots count marks n i from = filed_by (λ (place : ℕ). place) (λ (k : ℕ). mark_of (flags_of count k)) slots marks n i from
