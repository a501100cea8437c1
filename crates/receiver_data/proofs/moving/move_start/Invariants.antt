-- `receiver_data::moving::move_start` meets its contract: the run of marks from here on, and the move from here on, are what is left of the whole.
use Rattle.std.proofs.Common.{◌≡◌, ◌-◌, ◌<◌, ◌≤◌}
use Rattle.slots.specs.Ring.{run_of}
use Rattle.receiver_data.specs.Moving.{moved_by}
use Rattle.receiver_data.proofs.moving.move_start.Given as goal

abbrev pub invariant-loop-i : goal.invariant-loop-i
invariant-loop-i l = (l.l.slots ≤ 128) × (l.at.place < l.l.slots) × (l.at.behind ≤ l.l.slots) × (l.at.way ≤ l.at.behind) × (l._i ≤ l.n) × (run_of l.marks l.l.slots (l.l.slots - l.at.behind) l.at.place ≡ l.n - l._i) × (moved_by l.l.slots l.l.segments l.marks (l.l.slots - l.at.behind) l.at ≡ moved_by l.l.slots l.l.segments l.marks (l.l.slots - l.initial.at.behind) l.initial.at)
