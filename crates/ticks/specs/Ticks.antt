-- The call `tick`, as one function of what it is given: every channel is ticked, each alone (document 01, Answer numbers),
-- and then joins and leaves the lines by what is ready (document 02, A4).
use Rattle.std.specs.Prelude.{Bool, false, ◌||◌, List, [], ◌∷◌, map, ℕ, suc, ◌+◌, eqb, length, if◌then◌else◌}
use Rattle.walks.specs.Sweep.{sweep_t, sweep_a}
use Rattle.walks.specs.Serving.{Changed, changes}
use Rattle.lines.specs.Lines.{no_lines}
use Rattle.channel.specs.declared.record.Channel.{Channel}
use Rattle.channel.specs.declared.answer.Answer.{Answer}
use Rattle.channel.specs.declared.answer.Answer.TheVariants.{Done, Inactive, Refused}
use Rattle.channel.specs.declared.answer.Refusal.TheVariants as refusal
use Rattle.channel.specs.Asked.{Ringed}
use Rattle.table.specs.declared.deciding.Told.{Told}
use Rattle.table.specs.Lent.{passes}
use Rattle.table.specs.Waiting.{relisted_for}
use Rattle.table.specs.Serving.{record_at, told_of}
use Rattle.ticks.specs.declared.ticking.Round.{Round}
use Rattle.ticks.specs.Ticking.{ticked_by, answer_by, quiet, turned_by}

-- one channel after the tick
abbrev pub tick_of : Channel → Channel
tick_of c = (ticked_by c).channel

-- whether any goes inactive in it, and the lowest index of those that do; as many as there are records where none does
unfoldable pub any_inactive : List Channel → Bool
any_inactive [] = false
any_inactive (c ∷ t) = (ticked_by c).inactive || any_inactive t

unfoldable pub first_inactive : List Channel → ℕ
first_inactive [] = 0
first_inactive (c ∷ t) = if (ticked_by c).inactive then 0 else suc (first_inactive t)

-- 9 if any channel went inactive in it, for the reason that its record then says; else 0
abbrev pub tick_answer : List Channel → Answer
tick_answer t = if any_inactive t then Inactive (record_at (map tick_of t) (first_inactive t)).phase.reason else Done 0 0

-- each channel from index i on joins and leaves, one after another: so of those that join in one tick the lower index stands first (document 02,
-- A4: 'two that join in the same call stand by index')
unfoldable pub relisted_from : ℕ → List Channel → List ℕ → List ℕ
relisted_from i [] lines = lines
relisted_from i (c ∷ t) lines = relisted_from (i + 1) t (relisted_for i c lines)

unfoldable pub ticked : List Channel → List ℕ → List ℕ → List ℕ → Changed Answer Channel
ticked t mem lens lines =
    if passes t mem lens lines then changes (tick_answer t) (map tick_of t) (relisted_from 0 (map tick_of t) lines)
    else changes (Refused refusal.Settings) t lines

-- the index that is told with the answer
unfoldable pub tick_index : List Channel → List ℕ → List ℕ → List ℕ → ℕ
tick_index t mem lens lines = if passes t mem lens lines then first_inactive t else length t

-- ---- as the sweep goes: what a channel must have, what is carried along, and what it tells at the end

abbrev pub ticks : Channel → Type 0
ticks c = Ringed c.limits c.window

abbrev pub swept_table : List Channel → Round → List Channel
swept_table t before = sweep_t (λ x. x.channel) (λ x. x.round) turned_by t before

abbrev pub swept_round : List Channel → Round → Round
swept_round t before = sweep_a (λ x. x.channel) (λ x. x.round) turned_by t before

-- the lines at first; such as are not 51 octets are none, and the tick is refused
abbrev pub tick_start : List ℕ → Round
tick_start lines = record { first = quiet 0; at = 0; lines = if eqb (length lines) 51 then lines else no_lines }

abbrev pub tick_end : Round → Told
tick_end r = told_of r.first.index (answer_by r.first.reason)

abbrev pub end_lines : Round → List ℕ → List ℕ
end_lines r lines = if eqb (length lines) 51 then r.lines else lines
