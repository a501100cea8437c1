-- A tick at a transmit end (document 01, Sending; document 02, A2): each timer falls by one. If one ends and its retries are used up, the channel goes
-- inactive; otherwise its packet is ready again.
use Rattle.std.specs.Prelude.{ℕ, ◌-◌, Bool, true, false, ◌||◌, ◌&&◌, List, [], ◌∷◌, map, eqb, if◌then◌else◌}
use Rattle.channel.specs.declared.record.Channel.{Channel}
use Rattle.channel.specs.declared.lone.Fallen.{Fallen}
use Rattle.channel.specs.declared.pulse.Beaten.{Beaten}
use Rattle.channel.specs.declared.step.Ticked.{Ticked}
use Rattle.channel.specs.Record.{enabled, opened, closing, retries_out, unanswered, with_control, with_pulse, with_timers}
use Rattle.channel.specs.Lone.{fallen}
use Rattle.channel.specs.Pulse.{beaten}
use Rattle.sender.specs.Directives.{shut_for}

-- a timer that runs falls by one; 0 is one that does not run
abbrev pub lowered : ℕ → ℕ
lowered left = left - 1

-- it ends now, and no resend is left
abbrev pub spent_now : ℕ → ℕ → Bool
spent_now left tries = eqb left 1 && eqb tries 0

-- some timer is so
unfoldable pub any_spent : List ℕ → List ℕ → Bool
any_spent [] tries = false
any_spent (x ∷ left) [] = false
any_spent (x ∷ left) (t ∷ tries) = spent_now x t || any_spent left tries

-- the control packet's timer, in ENABLED and CLOSING
abbrev pub control_tick : Channel → Fallen → Ticked
control_tick c f =
    if f.spent then record { channel = shut_for c retries_out; inactive = true }
    else record { channel = with_control c f.lone; inactive = false }

-- the Heartbeat's timer and the interval; that it got no answer has a reason of its own
abbrev pub beat_tick : Channel → Beaten → Ticked
beat_tick c b =
    if b.spent then record { channel = shut_for c unanswered; inactive = true }
    else record { channel = with_pulse c b.pulse; inactive = false }

abbrev pub data_fallen : Channel → Channel
data_fallen c = with_timers c (record { closing = c.timers.closing; left = map lowered c.timers.left; tries = c.timers.tries })

-- the segments' timers, in OPEN; then the Heartbeat, unless they have closed the channel
abbrev pub data_tick : Channel → Ticked
data_tick c =
    if any_spent c.timers.left c.timers.tries then record { channel = shut_for c retries_out; inactive = true }
    else beat_tick (data_fallen c) (beaten c.limits c.pulse)

unfoldable pub tick_step : Channel → Ticked
tick_step c =
    if eqb c.phase.state opened then data_tick c
    else if eqb c.phase.state enabled || eqb c.phase.state closing then control_tick c (fallen c.phase.control)
    else record { channel = c; inactive = false }
