-- What is counted, and what is to come, is what all ask for.
use Rattle.std.proofs.Common.{◌≡◌, ◌+◌, ◌*◌, ◌≤◌, drop}
use Rattle.table.specs.Lent.{all_slots, all_octets}
use Rattle.settings.specs.Configuring.{made_table}
use Rattle.settings.proofs.settling.sizes.Given as goal

abbrev pub invariant-loop-x : goal.invariant-loop-x
invariant-loop-x l =
    record {
      few : l.slots ≤ l.x-index * 128;
      small : l.octets ≤ l.x-index * 131072;
      slots : l.slots + all_slots (made_table (drop l.x-index l.s)) ≡ all_slots (made_table l.s);
      octets : l.octets + all_octets (made_table (drop l.x-index l.s)) ≡ all_octets (made_table l.s);
    }
