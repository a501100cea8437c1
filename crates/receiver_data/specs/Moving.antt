-- The window start moves past every leading number held, and flags must read 11, or 01, any 00s, 10 (document 01, Receiving).
use Rattle.std.specs.Prelude.{ℕ, zero, suc, ◌+◌, ◌-◌, ◌%◌, Bool, true, false, not, ◌&&◌, ◌||◌, List, ◌==◌, nat_eq, nat_lt, slice_index, if◌then◌else◌}
use Rattle.slots.specs.Ring.{round_of}
use Rattle.slots.specs.Marks.{begins, ends}
use Rattle.channel.specs.declared.record.Limits.{Limits}
use Rattle.channel.specs.declared.record.Window.{Window}
use Rattle.receiver_data.specs.declared.moving.Moved.{Moved}

-- the next segment in order, where the unit on the way has so many already: it begins a unit or goes on, and a unit's M-th segment ends it
unfoldable pub fitting : ℕ → ℕ → ℕ → Bool
fitting most way mark = (if nat_eq way 0 then begins mark else not (begins mark)) && (ends mark || nat_lt (way + 1) most)

-- what the unit on the way has after a segment
abbrev pub way_after : ℕ → ℕ → ℕ
way_after way mark = if ends mark then 0 else way + 1

-- the start past one segment
abbrev pub passed : ℕ → Window → ℕ → Window
passed slots w mark =
    record {
      start = (w.start + 1) % 256;
      place = round_of slots (w.place + 1);
      behind = w.behind + 1;
      ahead = w.ahead;
      flight = w.flight;
      way = way_after w.way mark;
    }

-- past at most n segments, on a ring of so many slots, where a unit has so many segments at most: up to the first number not held, or to a break
unfoldable pub moved_by : ℕ → ℕ → List ℕ → ℕ → Window → Moved
moved_by slots most marks zero w = record { window = w; broken = false }
moved_by slots most marks (suc n) w =
    if slice_index marks w.place == 0 then record { window = w; broken = false }
    else if fitting most w.way (slice_index marks w.place) then moved_by slots most marks n (passed slots w (slice_index marks w.place))
    else record { window = w; broken = true }

-- the move stops too where every slot is kept: the next place is then the oldest segment's
abbrev pub moved_of : Limits → List ℕ → Window → Moved
moved_of l marks w = moved_by l.slots l.segments marks (l.slots - w.behind) w
