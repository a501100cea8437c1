-- Acks at a transmit end (document 01, Sending; 000, 4.4.4.5).
use Rattle.std.specs.Prelude.{ℕ, ◌+◌, ◌-◌, ◌%◌, Bool, false, not, ◌||◌, List, ◌==◌, nat_lt, slice_index, slice_set, if◌then◌else◌}
use Rattle.slots.specs.Ring.{run_of, cleared}
use Rattle.store.specs.Store.{ends_in, last_end_in}
use Rattle.channel.specs.declared.record.Window.{Window}
use Rattle.channel.specs.declared.record.Channel.{Channel}
use Rattle.channel.specs.declared.step.Stepped.{Stepped}
use Rattle.channel.specs.declared.answer.Answer.TheVariants.{Done}
use Rattle.channel.specs.declared.answer.Refusal.TheVariants as refusal
use Rattle.channel.specs.Record.{closed, enabled, opened, closing, no_lone, with_state, with_control, with_pulse, with_window, with_timers, with_marks, with_acked}
use Rattle.channel.specs.Steps.{refusing, doing}
use Rattle.channel.specs.Lone.{ready_lone, is_out}
use Rattle.channel.specs.Pulse.{started_pulse}
use Rattle.channel.specs.Standing.{oldest_of}
use Rattle.sender.specs.Directives.{place_at, parked}

-- ---- Control Acks belong to ENABLED and CLOSING: numbered 0 and after the packet was handed out, else ignored

-- to OPEN, where the interval of the Heartbeat starts, or with a Close kept to CLOSING at once; from CLOSING to CLOSED
abbrev pub control_acked : Channel → Channel
control_acked c =
    if c.phase.state == closing then parked c closed no_lone
    else if c.phase.kept == 0 then with_pulse (with_control (with_state c opened) no_lone) (started_pulse c.limits)
    else parked c closing ready_lone

unfoldable pub control_ack_step : Channel → ℕ → Stepped
control_ack_step c number =
    if not (c.phase.state == enabled || c.phase.state == closing) then refusing c refusal.State
    else if not (number == 0) then refusing c refusal.Ignored
    else if not (is_out c.phase.control) then refusing c refusal.Ignored
    else doing (control_acked c) 0

-- ---- Data Acks belong to OPEN: for a number sent, in the window and not yet acknowledged, else ignored

abbrev pub away_of : Channel → ℕ → ℕ
away_of c number = (number + 256 - c.window.start) % 256

unfoldable pub is_awaited : Channel → ℕ → Bool
is_awaited c d = if nat_lt d c.window.flight then (slice_index c.acked (place_at c d) == 0) else false

-- recorded: acknowledged, and no timer runs
abbrev pub recorded : Channel → ℕ → Channel
recorded c d =
    with_timers
    (with_acked c (slice_set c.acked (place_at c d) 1))
    (record { closing = c.timers.closing; left = slice_set c.timers.left (place_at c d) 0; tries = c.timers.tries })

-- the start moves past every leading acknowledged number
abbrev pub run_at : Channel → ℕ
run_at c = run_of c.acked c.limits.slots c.window.flight c.window.place

-- of those passed, how many end a unit, and how many there are up to the last that does
abbrev pub confirmed_at : Channel → ℕ
confirmed_at c = ends_in c.marks c.limits.slots (run_at c) c.window.place

abbrev pub whole_at : Channel → ℕ
whole_at c = last_end_in c.marks c.limits.slots (run_at c) c.window.place

-- whole units are freed, and what is passed of an unconfirmed one stays behind the start
abbrev pub moved_window : Window → ℕ → ℕ → ℕ → Window
moved_window w place n done =
    record {
      start = (w.start + n) % 256;
      place = place;
      behind = if done == 0 then w.behind + n else n - done;
      ahead = w.ahead - n;
      flight = w.flight - n;
      way = w.way;
    }

abbrev pub freed_marks : Channel → ℕ → List ℕ
freed_marks c done =
    if done == 0 then c.marks
    else cleared c.marks c.limits.slots (c.window.behind + done) (oldest_of c.limits.slots c.window)

unfoldable pub advanced : Channel → Channel
advanced c = with_marks (with_window c (moved_window c.window (place_at c (run_at c)) (run_at c) (whole_at c))) (freed_marks c (whole_at c))

-- with the number of units confirmed: those whose last segment the start has passed
unfoldable pub data_ack_step : Channel → ℕ → Stepped
data_ack_step c number =
    if not (c.phase.state == opened) then refusing c refusal.State
    else if not (is_awaited c (away_of c number)) then refusing c refusal.Ignored
    else record { channel = advanced (recorded c (away_of c number)); answer = Done 0 (confirmed_at (recorded c (away_of c number))) }
