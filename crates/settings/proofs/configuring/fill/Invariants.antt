-- The first records are made of the first of the settings.
use Rattle.std.proofs.Common.{◌≡◌, ◌≤◌, ◌-◌, length, map, take}
use Rattle.channel.specs.Record.{made_of}
use Rattle.settings.proofs.configuring.fill.Given as goal

abbrev pub invariant-loop-j : goal.invariant-loop-j
invariant-loop-j l =
    record {
      count : length l.t ≡ length l.s;
      upto : l.j ≤ length l.t;
      made : take l.j l.t ≡ map made_of (take l.j l.s);
    }

abbrev pub decreases-loop-j : goal.decreases-loop-j
decreases-loop-j l = length l.t - l.j
