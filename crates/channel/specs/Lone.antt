-- One packet that is sent alone: an Open or a Close (document 01, Sending), or a Heartbeat (document 02, A2).
use Rattle.std.specs.Prelude.{ℕ, ◌-◌, Bool, true, false, not, ◌||◌, ◌==◌, nat_le, if◌then◌else◌}
use Rattle.channel.specs.declared.record.Lone.{Lone}
use Rattle.channel.specs.declared.lone.Fallen.{Fallen}
use Rattle.channel.specs.Record.{lone_ready, lone_out, lone_again, no_lone}

-- becomes ready
abbrev pub ready_lone : Lone
ready_lone = record { state = lone_ready; timer = 0; tries = 0 }

-- it can be handed out
abbrev pub is_ready : Lone → Bool
is_ready l = l.state == lone_ready || l.state == lone_again

-- it was handed out, and an ack is awaited, also while it waits to be resent
abbrev pub is_out : Lone → Bool
is_out l = l.state == lone_out || l.state == lone_again

-- handed out: its timer starts at the timeout; the retries are the resends allowed to it
abbrev pub handed_out : Lone → ℕ → ℕ → Lone
handed_out l timeout retries =
    record { state = lone_out; timer = timeout; tries = if l.state == lone_again then l.tries - 1 else retries }

-- a tick: a timer that runs falls by one; if it ends, the packet is ready again, or its retries are used up
unfoldable pub fallen : Lone → Fallen
fallen l =
    if not (l.state == lone_out) then record { lone = l; spent = false }
    else if nat_le 2 l.timer then record { lone = record { state = lone_out; timer = l.timer - 1; tries = l.tries }; spent = false }
    else if l.tries == 0 then record { lone = no_lone; spent = true }
    else record { lone = record { state = lone_again; timer = 0; tries = l.tries }; spent = false }
