-- What a tick does: every record is counted up, and has the peer of the one before.
use Rattle.std.specs.Prelude.{ℕ, ◌+◌, true, List, length}
use Rattle.walks.specs.Sweep.{sweep_t, sweep_a}
use Rattle.walks.specs.Serving.{Changed, changes, done_by}
use Rattle.walks_sample.specs.declared.plain.Channel.{Channel}
use Rattle.walks_sample.specs.declared.plain.Told.{Told}
use Rattle.walks_sample.specs.declared.plain.Survey.{Survey}
use Rattle.walks_sample.specs.declared.plain.Verdict.{Verdict}
use Rattle.walks_sample.specs.declared.plain.Round.{Round}
use Rattle.walks_sample.specs.declared.plain.Swept.{Swept}
use Rattle.walks_sample.specs.Surveying.{surveyed}

abbrev pub swept : Swept → Channel
swept s = s.channel

abbrev pub summed : Swept → Round
summed s = s.round

abbrev pub turned : Channel → Round → Swept
turned c a = record { channel = record { peer = a.peer; count = c.count + 1 }; round = record { peer = c.peer } }

abbrev pub begun : List ℕ → Survey
begun lines = record { sound = true; at = 0 }

abbrev pub judged : Survey → ℕ → ℕ → ℕ → Verdict
judged v n m l = record { holds = v.sound; told = record { code = 1; index = n } }

abbrev pub started : List ℕ → Round
started lines = record { peer = 0 }

abbrev pub concluded : Round → Told
concluded z = record { code = 0; index = 0 }

abbrev pub end_lines : Round → List ℕ → List ℕ
end_lines z lines = lines

-- what the test says of a table
abbrev pub tried : List Channel → List ℕ → List ℕ → List ℕ → Verdict
tried t mem lens lines = judged (surveyed t lens (begun lines)) (length t) (length mem) (length lens)

-- what is carried at the end of the table
abbrev pub carried_out : List Channel → List ℕ → Round
carried_out t lines = sweep_a swept summed turned t (started lines)

abbrev pub ticked : List Channel → List ℕ → List ℕ → List ℕ → Changed Told Channel
ticked t mem lens lines =
    done_by (tried t mem lens lines).told (tried t mem lens lines).holds t lines
    (changes (concluded (carried_out t lines)) (sweep_t swept summed turned t (started lines)) (end_lines (carried_out t lines) lines))
