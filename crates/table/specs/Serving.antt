-- A call that serves one channel: the test for 13, then the record that it is for (14, 12), then that channel's own step on its record, its
-- octets and its lengths, and its place in the lines (document 02, A4); all else stays as it was (document 01, Answer numbers: 'reads and changes its own channel alone').
use Rattle.std.specs.Prelude.{ℕ, not, List, length, get_or, set, if◌then◌else◌}
use Rattle.slots.specs.Slots.{laid}
use Rattle.walks.specs.Serving.{Worked, Called, Changed, works, leaves, changes}
use Rattle.channel.specs.declared.record.Settings.{Settings}
use Rattle.channel.specs.declared.record.Channel.{Channel}
use Rattle.channel.specs.declared.answer.Answer.{Answer}
use Rattle.channel.specs.declared.answer.Answer.TheVariants.{Refused}
use Rattle.channel.specs.declared.answer.Refusal.TheVariants as refusal
use Rattle.channel.specs.declared.step.Stepped.{Stepped}
use Rattle.channel.specs.Record.{made_of}
use Rattle.channel.specs.Prefixes.{no_prefix}
use Rattle.table.specs.declared.looking.Look.{Look}
use Rattle.table.specs.declared.deciding.Told.{Told}
use Rattle.table.specs.declared.looking.Sought.{Sought}
use Rattle.table.specs.Waiting.{rank_in, moved}
use Rattle.table.specs.Looking.{Chosen, chosen, is_found, missing}
use Rattle.table.specs.Lent.{area_of, part_of, slot_at, octet_at, passes}

-- any settings, and a channel made of them: what `get_or` gives past the end of a table, where nothing looks
pub unset : Settings
unset =
    record {
      addresses = record { channel = 0; remote = 0; direction = 0; prefix = no_prefix; own = no_prefix };
      limits = record { window = 0; slots = 0; payload = 0; segments = 0; timeout = 0; closing = 0; retries = 0; interval = 0; flow = 0; spare = 0; lead = 0 };
    }

pub blank : Channel
blank = made_of unset

-- the record at an index
abbrev pub record_at : List Channel → ℕ → Channel
record_at t i = get_or t i blank

-- a channel's own octets and lengths
abbrev pub own_mem : List Channel → ℕ → List ℕ → List ℕ
own_mem t i mem = part_of (octet_at t i) (area_of (record_at t i).limits) mem

abbrev pub own_lens : List Channel → ℕ → List ℕ → List ℕ
own_lens t i lens = part_of (slot_at t i) (record_at t i).limits.slots lens

-- a step of one channel: of its record, the rank of its grade (which counts for a hand-out alone), its octets, its lengths and the lent buffer
abbrev pub Step : Type 0
Step = Channel → ℕ → List ℕ → List ℕ → List ℕ → Worked Stepped

-- the table, the memory, the lengths and the lines once the channel that was chosen has been stepped
unfoldable pub stored : Sought → List Channel → List ℕ → List ℕ → List ℕ → Chosen → Worked Stepped → Called Answer Channel
stored sought t mem lens lines x w =
    leaves
    w.made.answer
    (set t x.at w.made.channel)
    (laid mem (octet_at t x.at) w.mem)
    (laid lens (slot_at t x.at) w.lens)
    (moved sought (rank_in x.grade) x.at w.made lines)
    w.out

-- the step of the channel that was chosen, on its record, its octets and its lengths
abbrev pub worked : Step → List Channel → List ℕ → List ℕ → List ℕ → Chosen → Worked Stepped
worked step t mem lens out x = step (record_at t x.at) (rank_in x.grade) (own_mem t x.at mem) (own_lens t x.at lens) out

unfoldable pub serve_one : Look → Step → List Channel → List ℕ → List ℕ → List ℕ → List ℕ → Called Answer Channel
serve_one look step t mem lens lines out =
    if not (passes t mem lens lines) then leaves (Refused refusal.Settings) t mem lens lines out
    else if not (is_found (chosen look lines t)) then leaves (Refused (missing look.sought)) t mem lens lines out
    else stored look.sought t mem lens lines (chosen look lines t) (worked step t mem lens out (chosen look lines t))

-- the index of the channel that is served; as many as the table has records where none is
unfoldable pub index_served : Look → List Channel → List ℕ → List ℕ → List ℕ → ℕ
index_served look t mem lens lines =
    if not (passes t mem lens lines) then length t
    else if not (is_found (chosen look lines t)) then length t
    else (chosen look lines t).at

abbrev pub told_of : ℕ → Answer → Told
told_of index answer = record { answer = answer; index = index }

-- of a call that is lent nothing that it could change but the table and the lines
abbrev pub table_of : Called Answer Channel → Changed Answer Channel
table_of x = changes x.answer x.table x.lines

-- a step that changes the record alone
abbrev pub alone : (Channel → Stepped) → Step
alone step c rank mem lens out = works (step c) mem lens out
