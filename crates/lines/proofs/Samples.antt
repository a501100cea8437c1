-- Three channels in one line, computed: what a hand-out, a call and a leaver do.
-- Assumes nothing.
use Prim.Native.Nat.{ℕ}
use mathlib.Core.Path.{◌≡◌, refl}
use mathlib.Core.Bool.{true, false}
use mathlib.Core.List.{List, [], ◌∷◌}
use Rattle.slots.specs.Slots.{laid}
use Rattle.lines.specs.Lines.{stands, joined, without, relisted, line_octets, line_in, part_at, line_at, with_line, no_lines, relist_all, served_from}

-- channels 0, 1 and 2 wait with new Data
unfoldable three : List ℕ
unfolding with_line laid line_octets
three = with_line 2 (0 ∷ 1 ∷ 2 ∷ []) no_lines

-- the head is served and has more: it rejoins at the tail
rejoins : line_at 2 (served_from 2 0 false false true three) ≡ 1 ∷ 2 ∷ 0 ∷ []
unfolding three served_from relist_all relisted joined without stands line_in part_at with_line laid line_octets
rejoins = refl

-- it has no more
leaves : line_at 2 (served_from 2 0 false false false three) ≡ 1 ∷ 2 ∷ []
unfolding three served_from relist_all relisted joined without stands line_in part_at with_line laid line_octets
leaves = refl

-- a call that leaves channel 1 ready of that rank too changes nothing; one that leaves it ready of Control alone moves it
stays : relist_all 1 false false true three ≡ three
unfolding three relist_all relisted joined without stands line_in part_at with_line laid line_octets
stays = refl

moves : (line_at 0 (relist_all 1 true false false three) ≡ 1 ∷ []) × (line_at 2 (relist_all 1 true false false three) ≡ 0 ∷ 2 ∷ [])
unfolding three relist_all relisted joined without stands line_in part_at with_line laid line_octets
moves = (refl, refl)
