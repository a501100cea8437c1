-- A transmit end: its directives, and what leaving OPEN keeps (document 01, Sending; 000, 4.4.3).
use Rattle.std.specs.Prelude.{ℕ, ◌+◌, not, eqb, if◌then◌else◌}
use Rattle.slots.specs.Ring.{round_of}
use Rattle.channel.specs.declared.record.Limits.{Limits}
use Rattle.channel.specs.declared.record.Lone.{Lone}
use Rattle.channel.specs.declared.record.Window.{Window}
use Rattle.channel.specs.declared.record.Channel.{Channel}
use Rattle.channel.specs.declared.step.Stepped.{Stepped}
use Rattle.channel.specs.declared.answer.Refusal.TheVariants as refusal
use Rattle.channel.specs.Record.{closed, enabled, opened, closing, no_lone, no_pulse, held_in, with_state, with_reason, with_kept, with_control, with_pulse, with_window}
use Rattle.channel.specs.Steps.{refusing, doing, enabled_of}
use Rattle.channel.specs.Lone.{ready_lone}
use Rattle.channel.specs.Standing.{oldest_of}

-- the place of the i-th segment from the window start on
abbrev pub place_at : Channel → ℕ → ℕ
place_at c i = round_of c.limits.slots (c.window.place + i)

-- ---- leaving OPEN never discards an unconfirmed unit (house): the window is brought back to the oldest segment held; no Heartbeat is left

abbrev pub parked_window : Limits → Window → Window
parked_window l w =
    record { start = 1; place = oldest_of l.slots w; behind = 0; ahead = held_in w; flight = 0; way = w.way }

unfoldable pub parked : Channel → ℕ → Lone → Channel
parked c state control =
    with_kept (with_control (with_window (with_pulse (with_state c state) no_pulse) (parked_window c.limits c.window)) control) 0

-- inactive: state CLOSED, and the record says why
abbrev pub shut_for : Channel → ℕ → Channel
shut_for c why = with_reason (parked c closed no_lone) why

-- ---- directives

-- CLOSED: an Open directive leads to ENABLED, an Open becomes ready; not while units are unreclaimed (10)
unfoldable pub open_step : Channel → Stepped
open_step c =
    if not (eqb c.phase.state closed) then refusing c refusal.State
    else if not (eqb (held_in c.window) 0) then refusing c refusal.Untaken
    else doing (enabled_of c ready_lone) 0

-- a Close directive in ENABLED is kept until the Open is acknowledged; in OPEN, CLOSING at once; others, a second Close too, give 5
unfoldable pub close_step : Channel → Stepped
close_step c =
    if eqb c.phase.state opened then doing (parked c closing ready_lone) 0
    else if not (eqb c.phase.state enabled) then refusing c refusal.State
    else if eqb c.phase.kept 0 then doing (with_kept c 1) 0
    else refusing c refusal.State
