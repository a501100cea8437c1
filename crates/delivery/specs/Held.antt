-- What a tick leaves of the units that a sending record holds: all of them, whatever timer it ends (document 02, A2: 'a sender closed so holds its units as
-- in any close').
use Rattle.std.specs.Prelude.{◌≡◌, true, ◌<◌, length}
use Rattle.channel.specs.Record.{sends}
use Rattle.table.specs.Lent.{lawful}
use Rattle.delivery.specs.Calls.{End, ticks, Request, called_by, channel_of, units_of, after_call}

-- of every node whose table passes the test for 13, the lines apart, and of each of its sending records
abbrev pub HeldThroughTick : Type 0
HeldThroughTick =
    (e : End)
    → lawful e.table e.mem e.lens ≡ true
    → e.index < length e.table
    → (channel_of e).addresses.direction ≡ sends
    → (r : Request)
    → units_of (after_call e (called_by ticks e r)) ≡ units_of e
