-- Which channel is served next: Control and Heartbeats before resent Data before new Data, and within a rank by the line, from the head on (document
-- 02, A4).
-- Each channel has a grade, and the least is served; 48 is the grade of a channel that stands in no line with a packet of its rank ready.
use Rattle.std.specs.Prelude.{ℕ, ◌+◌, ◌*◌, min, Bool, ◌&&◌, List, if◌then◌else◌}
use Rattle.lines.specs.Lines.{stands, before, line_at}

-- how many stand before i; 16 where it does not stand
unfoldable pub place_in : ℕ → List ℕ → ℕ
place_in i l = if stands i l then before i l else 16

-- in the line of a rank. Who stands there and is not ready is passed over
unfoldable pub grade_in : ℕ → ℕ → Bool → List ℕ → ℕ
grade_in rank i ready s = if ready && stands i (line_at rank s) then rank * 16 + place_in i (line_at rank s) else 48

-- channel i, with a ready packet of each rank or without
unfoldable pub grade_of : ℕ → Bool → Bool → Bool → List ℕ → ℕ
grade_of i r0 r1 r2 s = min (grade_in 0 i r0 s) (min (grade_in 1 i r1 s) (grade_in 2 i r2 s))
