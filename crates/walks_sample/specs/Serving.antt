-- What a request does: the record that it names is counted up, where the survey shows that each can be.
use Rattle.std.specs.Prelude.{ℕ, ◌+◌, true, List, length, if◌then◌else◌}
use Rattle.walks.specs.Serving.{Roles, Performed, performs, Called, serving}
use Rattle.walks_sample.specs.declared.plain.Channel.{Channel}
use Rattle.walks_sample.specs.declared.plain.Told.{Told}
use Rattle.walks_sample.specs.declared.plain.Placed.{Placed}
use Rattle.walks_sample.specs.declared.plain.Decision.{Decision}
use Rattle.walks_sample.specs.declared.plain.Survey.{Survey}
use Rattle.walks_sample.specs.declared.plain.Request.{Request}
use Rattle.walks_sample.specs.declared.plain.Request.TheVariants.{Open, Move, Transfer, Take, Arrival}
use Rattle.walks_sample.specs.Surveying.{blank, surveyed}

-- the index that a request names
abbrev pub named : Request → ℕ
named (Open i) = i
named (Move i j) = i
named (Transfer i) = i
named (Take i) = i
named (Arrival i) = i

abbrev pub begun : List ℕ → Request → List ℕ → ℕ → Survey
begun lines n x room = record { sound = true; at = named n }

abbrev pub decided : Survey → ℕ → ℕ → ℕ → Decision
decided v n m l = record { at = if v.sound then v.at else n; told = record { code = 1; index = n } }

abbrev pub stepped : Channel → Decision → Request → List ℕ → List ℕ → List ℕ → List ℕ → List ℕ → Performed Placed
stepped c d n mem lens lines x out =
    performs (record { channel = record { peer = c.peer; count = c.count + 1 }; told = record { code = 0; index = d.at } }) mem lens lines out

abbrev pub roles : Roles Channel Told Placed Decision
roles = record { at = λ d. d.at; unserved = λ d. d.told; stored = λ s. s.channel; said = λ s. s.told; blank = blank }

abbrev pub served : List Channel → List ℕ → List ℕ → List ℕ → Request → List ℕ → List ℕ → Called Told Channel
served t mem lens lines n x out =
    serving roles stepped (decided (surveyed t lens (begun lines n x (length out))) (length t) (length mem) (length lens)) t mem lens lines n x out
