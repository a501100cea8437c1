-- Transfer of a unit: ask, then file (document 01, Sending; Answer numbers 5, 6, 7).
use Rattle.std.specs.Prelude.{ℕ, ◌+◌, Bool, not, List, ltb, eqb, length, if◌then◌else◌}
use Rattle.slots.specs.Ring.{cleared}
use Rattle.channel.specs.Places.{slot_of}
use Rattle.slots.specs.Units.{segments_of}
use Rattle.store.specs.Store.{filed_mem, filed_lens, filed_marks}
use Rattle.channel.specs.declared.record.Window.{Window}
use Rattle.channel.specs.declared.record.Channel.{Channel}
use Rattle.channel.specs.declared.step.Stepped.{Stepped}
use Rattle.channel.specs.declared.answer.Answer.{Answer}
use Rattle.channel.specs.declared.answer.Answer.TheVariants.{Done, Refused}
use Rattle.channel.specs.declared.answer.Refusal.TheVariants as refusal
use Rattle.channel.specs.Answers.{number_of}
use Rattle.channel.specs.Record.{opened, held_in, with_window, with_marks, with_acked}
use Rattle.sender.specs.Directives.{place_at}

-- what a transfer of n octets answers: units are accepted in OPEN only; over M segments gives 6; slots held + slots needed > slots gives 7
unfoldable pub would_transfer : Channel → ℕ → Answer
would_transfer c n =
    if not (eqb c.phase.state opened) then Refused refusal.State
    else if ltb c.limits.segments (segments_of c.limits.payload n) then Refused refusal.Long
    else if ltb c.limits.slots (held_in c.window + segments_of c.limits.payload n) then Refused refusal.NoRoom
    else Done 0 0

unfoldable pub is_accepted : Channel → ℕ → Bool
is_accepted c n = eqb (number_of (would_transfer c n)) 0

-- where the next segment is filed
abbrev pub free_at : Channel → ℕ
free_at c = place_at c c.window.ahead

abbrev pub longer : Window → ℕ → Window
longer w n =
    record { start = w.start; place = w.place; behind = w.behind; ahead = w.ahead + n; flight = w.flight; way = w.way }

-- the channel with a unit of n octets filed, none of its segments acknowledged
abbrev pub filed_unit : Channel → ℕ → Channel
filed_unit c n =
    let count = segments_of c.limits.payload n in
    with_acked
    (with_marks (with_window c (longer c.window count)) (filed_marks c.limits.slots count c.marks count 0 (free_at c)))
    (cleared c.acked c.limits.slots count (free_at c))

-- that answer, and with 0 the unit filed
unfoldable pub transfer_step : Channel → ℕ → Stepped
transfer_step c n = record { channel = if is_accepted c n then filed_unit c n else c; answer = would_transfer c n }

unfoldable pub transfer_mem : Channel → List ℕ → List ℕ → List ℕ
transfer_mem c u mem =
    if is_accepted c (length u)
    then filed_mem (slot_of c) c.limits.payload c.limits.slots u mem (segments_of c.limits.payload (length u)) 0 (free_at c)
    else mem

unfoldable pub transfer_lens : Channel → List ℕ → List ℕ → List ℕ
transfer_lens c u lens =
    if is_accepted c (length u)
    then filed_lens (slot_of c) c.limits.payload c.limits.slots u lens (segments_of c.limits.payload (length u)) 0 (free_at c)
    else lens
