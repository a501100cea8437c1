-- Segment numbers, and sequence numbers (document 01, Sending): 'Segments are numbered from 1 at each opening; a sequence number is that
-- modulo 256.' Here a segment is named by its index, its number less 1: how many segments of the opening come before it.
use Rattle.std.specs.Prelude.{ℕ, ◌+◌, ◌-◌, ◌%◌}

-- the sequence number of the segment with the index i
unfoldable pub number_at : ℕ → ℕ
number_at i = (i + 1) % 256

-- 'its number less the window start, taken round modulo 256'
unfoldable pub distance : ℕ → ℕ → ℕ
distance number start = (number + 256 - start) % 256
