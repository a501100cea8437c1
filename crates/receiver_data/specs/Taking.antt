-- Taking complete units, the oldest first, in any state (document 01, Receiving; Answer numbers 12 and 11).
use Rattle.std.specs.Prelude.{ℕ, ◌-◌, List, length, ◌==◌, nat_lt, if◌then◌else◌}
use Rattle.slots.specs.Ring.{cleared}
use Rattle.slots.specs.Slots.{laid}
use Rattle.channel.specs.Places.{slot_of}
use Rattle.store.specs.Store.{unit_of, size_in, octets_in}
use Rattle.channel.specs.declared.record.Window.{Window}
use Rattle.channel.specs.declared.record.Channel.{Channel}
use Rattle.channel.specs.declared.step.Stepped.{Stepped}
use Rattle.channel.specs.declared.answer.Refusal.TheVariants as refusal
use Rattle.channel.specs.Record.{with_window, with_marks}
use Rattle.channel.specs.Steps.{refusing, doing}
use Rattle.channel.specs.Flow.{telling}
use Rattle.channel.specs.Standing.{oldest_of}

-- segments of complete units
abbrev pub complete_in : Window → ℕ
complete_in w = w.behind - w.way

-- how many segments the oldest complete unit has, and how many octets
abbrev pub unit_at : Channel → ℕ
unit_at c = unit_of c.marks c.limits.slots (complete_in c.window) (oldest_of c.limits.slots c.window)

abbrev pub size_at : Channel → List ℕ → ℕ
size_at c lens = size_in (slot_of c) lens c.limits.slots (unit_at c) (oldest_of c.limits.slots c.window)

-- the oldest n segments are gone
abbrev pub dropped : Channel → ℕ → Channel
dropped c n =
    with_marks
    (with_window c
    (record {
      start = c.window.start;
      place = c.window.place;
      behind = c.window.behind - n;
      ahead = c.window.ahead;
      flight = c.window.flight;
      way = c.window.way;
    }))
    (cleared c.marks c.limits.slots n (oldest_of c.limits.slots c.window))

-- and in OPEN, where the number stated has moved, Flow Control is to tell it (document 02, A5)
abbrev pub taken : Channel → ℕ → Channel
taken c n = telling c.window (dropped c n)

-- the answer, with a buffer of n octets
unfoldable pub take_step : Channel → List ℕ → ℕ → Stepped
take_step c lens n =
    if complete_in c.window == 0 then refusing c refusal.Nothing
    else if nat_lt n (size_at c lens) then refusing c (refusal.Small (size_at c lens))
    else doing (taken c (unit_at c)) (size_at c lens)

-- the buffer afterwards
unfoldable pub take_out : Channel → List ℕ → List ℕ → List ℕ → List ℕ
take_out c lens mem out =
    if complete_in c.window == 0 then out
    else if nat_lt (length out) (size_at c lens) then out
    else laid out 0 (octets_in (slot_of c) c.limits.payload mem lens c.limits.slots (unit_at c) (oldest_of c.limits.slots c.window))
