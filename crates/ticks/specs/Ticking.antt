-- A tick of one channel, at either end (document 01, Answer numbers: 'A tick treats each channel alone'), and what a tick of the table has seen so
-- far.
use Rattle.std.specs.Prelude.{ℕ, ◌+◌, List, ltb, eqb, if◌then◌else◌, Option, Some, None, is_some}
use Rattle.channel.specs.declared.record.Channel.{Channel}
use Rattle.channel.specs.declared.step.Ticked.{Ticked}
use Rattle.channel.specs.declared.answer.Answer.{Answer}
use Rattle.channel.specs.declared.answer.Answer.TheVariants.{Done, Inactive}
use Rattle.lines.specs.Fit.{relist_fit}
use Rattle.channel.specs.Record.{sends}
use Rattle.sender.specs.Ticking as sender
use Rattle.receiver.specs.Receiving as receiver
use Rattle.table.specs.Waiting.{waits}
use Rattle.ticks.specs.declared.ticking.First.{First}
use Rattle.ticks.specs.declared.ticking.Round.{Round}
use Rattle.ticks.specs.declared.ticking.Turned.{Turned}

unfoldable pub ticked_by : Channel → Ticked
ticked_by c = if eqb c.addresses.direction sends then sender.tick_step c else receiver.tick_step c

-- ---- as the sweep goes

-- none went inactive before the channel with this index
abbrev pub quiet : ℕ → First
quiet index = record { index = index; reason = None }

unfoldable pub first_by : Ticked → First → First
first_by x r =
    if is_some r.reason then r
    else if x.inactive then record { index = r.index; reason = Some x.channel.phase.reason }
    else if ltb r.index 16 then quiet (r.index + 1)
    else quiet r.index

-- 9 if some went inactive, for the reason of the first; else 0
abbrev pub answer_by : Option ℕ → Answer
answer_by (Some reason) = Inactive reason
answer_by None = Done 0 0

-- the place of the next channel, where there may be one
abbrev pub next_at : ℕ → ℕ
next_at at = if ltb at 16 then at + 1 else at

-- the channel joins and leaves by what the tick has left of it
abbrev pub lined_by : ℕ → Channel → List ℕ → List ℕ
lined_by at c lines = relist_fit at (waits 0 c) (waits 1 c) (waits 2 c) lines

abbrev pub round_by : Ticked → Round → Round
round_by x r = record { first = first_by x r.first; at = next_at r.at; lines = lined_by r.at x.channel r.lines }

abbrev pub turned_by : Channel → Round → Turned
turned_by c r = record { channel = (ticked_by c).channel; round = round_by (ticked_by c) r }
