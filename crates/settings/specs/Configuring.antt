-- Settings for a whole table (document 01, A channel's record and memory): 'Settings come for a whole table at once: that call reads no old
-- record, makes every channel CLOSED and empty, and alone may drop held units'. All others are refused with 13, and nothing changes.
use Rattle.std.specs.Prelude.{ℕ, Bool, ◌&&◌, List, map, eqb, length, if◌then◌else◌}
use Rattle.walks.specs.Serving.{Changed, changes}
use Rattle.lines.specs.Lines.{no_lines}
use Rattle.channel.specs.declared.record.Settings.{Settings}
use Rattle.channel.specs.declared.record.Channel.{Channel}
use Rattle.channel.specs.declared.answer.Answer.{Answer}
use Rattle.channel.specs.declared.answer.Answer.TheVariants.{Done, Refused}
use Rattle.channel.specs.declared.answer.Refusal.TheVariants as refusal
use Rattle.channel.specs.Record.{made_of}
use Rattle.channel.specs.Tables.{fit_table}
use Rattle.table.specs.Lent.{all_slots, all_octets}

-- the records that settings make, each CLOSED and empty
abbrev pub made_table : List Settings → List Channel
made_table s = map made_of s

-- 1 to 16 settings, each fit, and no two that clash; as many as there are records; and a length for each of their slots, and lent memory of
-- exactly their size, and 51 octets for the lines
unfoldable pub settled : List Channel → List ℕ → List ℕ → List ℕ → List Settings → Bool
settled t mem lens lines s =
    fit_table s
    && eqb (length t) (length s)
    && eqb (length lens) (all_slots (made_table s))
    && eqb (length mem) (all_octets (made_table s))
    && eqb (length lines) 51

-- of the old table only the number of its records counts, and of the lines only that of their octets: nobody waits then (document 02, A4)
unfoldable pub configured : List Channel → List ℕ → List ℕ → List ℕ → List Settings → Changed Answer Channel
configured t mem lens lines s =
    if settled t mem lens lines s then changes (Done 0 0) (made_table s) no_lines
    else changes (Refused refusal.Settings) t lines
