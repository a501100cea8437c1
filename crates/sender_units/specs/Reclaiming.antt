-- In CLOSED the application reclaims the units held, whole and oldest first (document 01, Sending; Answer numbers 5, 12, 11).
use Rattle.std.specs.Prelude.{ℕ, ◌+◌, ◌-◌, not, List, ltb, eqb, length, if◌then◌else◌}
use Rattle.slots.specs.Ring.{round_of, cleared}
use Rattle.slots.specs.Slots.{laid}
use Rattle.channel.specs.Places.{slot_of}
use Rattle.store.specs.Store.{unit_of, size_in, octets_in}
use Rattle.channel.specs.declared.record.Channel.{Channel}
use Rattle.channel.specs.declared.step.Stepped.{Stepped}
use Rattle.channel.specs.declared.answer.Refusal.TheVariants as refusal
use Rattle.channel.specs.Record.{closed, with_window, with_marks}
use Rattle.channel.specs.Steps.{refusing, doing}

-- out of OPEN the oldest segment held lies at the window's place
abbrev pub unit_at : Channel → ℕ
unit_at c = unit_of c.marks c.limits.slots c.window.ahead c.window.place

abbrev pub size_at : Channel → List ℕ → ℕ
size_at c lens = size_in (slot_of c) lens c.limits.slots (unit_at c) c.window.place

-- the oldest n segments are gone
abbrev pub dropped : Channel → ℕ → Channel
dropped c n =
    with_marks
    (with_window c
    (record {
      start = c.window.start;
      place = round_of c.limits.slots (c.window.place + n);
      behind = c.window.behind;
      ahead = c.window.ahead - n;
      flight = c.window.flight;
      way = c.window.way;
    }))
    (cleared c.marks c.limits.slots n c.window.place)

unfoldable pub reclaim_step : Channel → List ℕ → ℕ → Stepped
reclaim_step c lens n =
    if not (eqb c.phase.state closed) then refusing c refusal.State
    else if eqb c.window.ahead 0 then refusing c refusal.Nothing
    else if ltb n (size_at c lens) then refusing c (refusal.Small (size_at c lens))
    else doing (dropped c (unit_at c)) (size_at c lens)

unfoldable pub reclaim_out : Channel → List ℕ → List ℕ → List ℕ → List ℕ
reclaim_out c lens mem out =
    if not (eqb c.phase.state closed) then out
    else if eqb c.window.ahead 0 then out
    else if ltb (length out) (size_at c lens) then out
    else laid out 0 (octets_in (slot_of c) c.limits.payload mem lens c.limits.slots (unit_at c) c.window.place)
