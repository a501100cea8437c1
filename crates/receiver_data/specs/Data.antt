-- Data at a receive end: sorted by its number, filed where it is new, and the start moved (document 01, Receiving; 000, 4.5.3.4 (1)).
use Rattle.std.specs.Prelude.{ℕ, ◌*◌, Bool, false, not, List, length, ◌==◌, slice_set, if◌then◌else◌}
use Rattle.slots.specs.Slots.{laid}
use Rattle.channel.specs.Places.{slot_of}
use Rattle.slots.specs.Marks.{mark_of}
use Rattle.channel.specs.declared.record.Channel.{Channel}
use Rattle.channel.specs.declared.step.Stepped.{Stepped}
use Rattle.channel.specs.declared.answer.Refusal.TheVariants as refusal
use Rattle.channel.specs.Record.{opened, data_number, broken_flags, with_accepted, with_window, with_marks}
use Rattle.channel.specs.Steps.{refusing, doing, repeating, failing}
use Rattle.receiver_data.specs.declared.sorting.Sort.{Sort}
use Rattle.receiver_data.specs.declared.sorting.Sort.TheVariants.{New, Held, Behind, Other}
use Rattle.receiver_data.specs.declared.moving.Moved.{Moved}
use Rattle.receiver_data.specs.Sorting.{distance, place_at, no_room, sort_at}
use Rattle.receiver_data.specs.Moving.{moved_of}
use Rattle.receiver.specs.Receiving.{ack_length, shut_for}

-- the new segment is filed at a place, and the start moves; at a break the channel is inactive and no ack is sent
abbrev pub moved_answer : Channel → Moved → Stepped
moved_answer c m =
    if m.broken then failing (shut_for (with_window c m.window) broken_flags) broken_flags
    else doing (with_window c m.window) (ack_length c)

abbrev pub marking : Channel → ℕ → ℕ → Channel
marking c place flags = with_accepted (with_marks c (slice_set c.marks place (mark_of flags))) 1

unfoldable pub accept_step : Channel → ℕ → ℕ → Stepped
accept_step c place flags = moved_answer (marking c place flags) (moved_of c.limits (marking c place flags).marks c.window)

-- what each sort of Data answers, d past the start
abbrev pub data_by : Sort → Channel → ℕ → ℕ → Stepped
data_by New c d flags =
    if no_room c.limits c.window d then refusing c refusal.Full
    else accept_step c (place_at c.limits c.window d) flags
data_by Held c d flags = repeating c (ack_length c)
data_by Behind c d flags = repeating c (ack_length c)
data_by Other c d flags = failing (shut_for c data_number) data_number

-- how far past the start a number lies, and its sort
abbrev pub away_of : Channel → ℕ → ℕ
away_of c number = distance number c.window.start

abbrev pub sort_of : Channel → ℕ → Sort
sort_of c number = sort_at c.limits c.window c.marks (away_of c number)

unfoldable pub data_step : Channel → ℕ → ℕ → Stepped
data_step c number flags =
    if c.phase.state == opened then data_by (sort_of c number) c (away_of c number) flags
    else refusing c refusal.State

-- the segment is filed: new, with room, in OPEN
abbrev pub files_by : Sort → Channel → ℕ → Bool
files_by New c d = not (no_room c.limits c.window d)
files_by Held c d = false
files_by Behind c d = false
files_by Other c d = false

-- the memory and the lengths after a segment with the payload p, d past the start, by its sort
abbrev pub mem_by : Sort → Channel → ℕ → List ℕ → List ℕ → List ℕ
mem_by sort c d p mem = if files_by sort c d then laid mem (slot_of c (place_at c.limits c.window d) * c.limits.payload) p else mem

abbrev pub lens_by : Sort → Channel → ℕ → List ℕ → List ℕ → List ℕ
lens_by sort c d p lens = if files_by sort c d then slice_set lens (slot_of c (place_at c.limits c.window d)) (length p) else lens

unfoldable pub is_filed : Channel → ℕ → Bool
is_filed c number = if c.phase.state == opened then files_by (sort_of c number) c (away_of c number) else false

abbrev pub place_of : Channel → ℕ → ℕ
place_of c number = place_at c.limits c.window (away_of c number)

-- the memory and the lengths afterwards, with the payload p
unfoldable pub data_mem : Channel → ℕ → List ℕ → List ℕ → List ℕ
data_mem c number p mem = if is_filed c number then laid mem (slot_of c (place_of c number) * c.limits.payload) p else mem

unfoldable pub data_lens : Channel → ℕ → List ℕ → List ℕ → List ℕ
data_lens c number p lens = if is_filed c number then slice_set lens (slot_of c (place_of c number)) (length p) else lens
