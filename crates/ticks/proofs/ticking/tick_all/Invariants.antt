-- What is to come of the channels that are left is what was to come of all.
use Rattle.std.proofs.Common.{◌≡◌, ◌≤◌, ◌<◌, ◌-◌, ℕ, ◌++◌, length, take, drop, get_or}
use Rattle.table.specs.Serving.{blank}
use Rattle.ticks.specs.Ticks.{ticks, swept_table, swept_round}
use Rattle.ticks.proofs.ticking.tick_all.Given as goal

abbrev pub invariant-loop-i : goal.invariant-loop-i
invariant-loop-i l =
    record {
      upto : l.i ≤ length l.t;
      left : (k : ℕ) → l.i ≤ k → k < length l.t → ticks (get_or l.t k blank);
      table : take l.i l.t ++ swept_table (drop l.i l.t) l.a ≡ swept_table l.initial.t l.initial.a;
      round : swept_round (drop l.i l.t) l.a ≡ swept_round l.initial.t l.initial.a;
    }

abbrev pub decreases-loop-i : goal.decreases-loop-i
decreases-loop-i l = length l.t - l.i
