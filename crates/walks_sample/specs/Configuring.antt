-- What the call with settings does: where there are as many as records, each record is made of one.
use Rattle.std.specs.Prelude.{ℕ, List, length, map, eqb}
use Rattle.walks.specs.Serving.{Changed, changes, done_by}
use Rattle.walks_sample.specs.declared.plain.Channel.{Channel}
use Rattle.walks_sample.specs.declared.plain.Settings.{Settings}
use Rattle.walks_sample.specs.declared.plain.Told.{Told}
use Rattle.walks_sample.specs.declared.plain.Survey.{Survey}
use Rattle.walks_sample.specs.declared.plain.Verdict.{Verdict}
use Rattle.walks_sample.specs.Ticking.{begun}

abbrev pub made : Settings → Channel
made x = record { peer = x.peer; count = 0 }

abbrev pub seen : List Settings → List ℕ → Survey → Survey
seen s lens v = v

abbrev pub weighed : Survey → ℕ → ℕ → ℕ → ℕ → Verdict
weighed v n k m l = record { holds = eqb n k; told = record { code = 1; index = n } }

abbrev pub counted : ℕ → Told
counted n = record { code = 0; index = n }

abbrev pub filled_lines : ℕ → List ℕ → List ℕ
filled_lines n lines = lines

-- what the test says of a table and settings
abbrev pub tried : List Channel → List ℕ → List ℕ → List ℕ → List Settings → Verdict
tried t mem lens lines s = weighed (seen s lens (begun lines)) (length t) (length s) (length mem) (length lens)

abbrev pub configured : List Channel → List ℕ → List ℕ → List ℕ → List Settings → Changed Told Channel
configured t mem lens lines s =
    done_by (tried t mem lens lines s).told (tried t mem lens lines s).holds t lines
    (changes (counted (length s)) (map made s) (filled_lines (length s) lines))
