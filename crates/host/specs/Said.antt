-- The answer of a call, as C sees it: document 01's number, the values or zeros, and the index of the channel that was served.
use Rattle.std.specs.Prelude.{ℕ, eqb, if◌then◌else◌}
use Rattle.walks.specs.Serving.{Called, Changed, saying, telling}
use Rattle.channel.specs.declared.record.Channel.{Channel}
use Rattle.channel.specs.declared.answer.Answer.{Answer}
use Rattle.channel.specs.Answers.{number_of, length_of, wanted_of, confirmed_of, reason_of}
use Rattle.table.specs.declared.deciding.Told.{Told}
use Rattle.table.specs.Serving.{told_of}
use Rattle.host.specs.declared.answers.Said.{Said}

-- with 0 and 15 the octets written, with 11 the octets that are wanted
abbrev pub octets_told : Answer → ℕ
octets_told a = if eqb (number_of a) 11 then wanted_of a else length_of a

abbrev pub said_of : Told → Said
said_of t =
    record {
      number = number_of t.answer;
      reason = reason_of t.answer;
      length = octets_told t.answer;
      confirmed = confirmed_of t.answer;
      index = t.index;
    }

-- what a call leaves, its answer told so with an index
abbrev pub said_at : ℕ → Called Answer Channel → Called Said Channel
said_at index g = saying (λ a. said_of (told_of index a)) g

-- the same of a call that changes the table and the lines alone
abbrev pub told_at : ℕ → Changed Answer Channel → Changed Said Channel
told_at index g = telling (λ a. said_of (told_of index a)) g
