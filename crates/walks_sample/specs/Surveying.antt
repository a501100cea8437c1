-- What the survey of the sample's table shows: whether every record can be counted up once more.
use Rattle.std.specs.Prelude.{ℕ, ◌<◌, ◌&&◌, List, ltb}
use Rattle.walks.specs.Fold.{fold_from}
use Rattle.walks_sample.specs.declared.plain.Channel.{Channel}
use Rattle.walks_sample.specs.declared.plain.Survey.{Survey}

-- any record: no proof looks into it
abbrev pub blank : Channel
blank = record { peer = 0; count = 0 }

abbrev pub is_low : Channel → Type 0
is_low c = c.count < 4294967295

abbrev pub noted : Survey → Channel → List ℕ → ℕ → Survey
noted v c lens j = record { sound = v.sound && ltb c.count 4294967295; at = v.at }

abbrev pub surveyed : List Channel → List ℕ → Survey → Survey
surveyed t lens v = fold_from noted lens 0 v t
