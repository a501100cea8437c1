-- Who waits to hand out a packet, and in which line (document 02, A4): 'a channel joins the line of a rank when it first has a ready packet of
-- that rank, is served from the head, and rejoins at the tail if it has more'.
use Rattle.std.specs.Prelude.{ℕ, Bool, true, false, ◌&&◌, List, ltb, eqb, if◌then◌else◌}
use Rattle.lines.specs.Lines.{relist_all, served_from}
use Rattle.lines.specs.Grades.{grade_of}
use Rattle.lines.specs.declared.ranks.Ranks.{Ranks}
use Rattle.channel.specs.declared.record.Channel.{Channel}
use Rattle.channel.specs.declared.answer.Answer.{Answer}
use Rattle.channel.specs.declared.answer.Answer.TheVariants.{Done, Repeated, Inactive, Refused}
use Rattle.channel.specs.declared.step.Stepped.{Stepped}
use Rattle.channel.specs.Record.{sends}
use Rattle.sender_packets.specs.HandingOut.{ready_open, ready}
use Rattle.table.specs.declared.looking.Sought.{Sought}
use Rattle.table.specs.declared.looking.Sought.TheVariants.{Index, Question, Packet, Ready, Nobody}

-- a sender with a ready packet of this rank; a receiver hands out its Heartbeat and Flow Control alone (document 02, A2 and A5)
unfoldable pub waits : ℕ → Channel → Bool
waits rank c = if eqb c.addresses.direction sends then ready rank c else eqb rank 0 && ready_open c

abbrev pub waiting_of : Channel → Ranks
waiting_of c = record { control = waits 0 c; again = waits 1 c; fresh = waits 2 c }

-- its grade, at index i of the table: the least is served next, and 48 is not served
abbrev pub grade_at : ℕ → Channel → List ℕ → ℕ
grade_at i c lines = grade_of i (waits 0 c) (waits 1 c) (waits 2 c) lines

-- the rank of a grade
abbrev pub rank_in : ℕ → ℕ
rank_in grade = if ltb grade 16 then 0 else if ltb grade 32 then 1 else 2

-- ---- what a call does to the lines, that has left the channel at index i so

-- it joins the lines that it now waits in and leaves the others; where it stood and waits still, it keeps its place
abbrev pub relisted_for : ℕ → Channel → List ℕ → List ℕ
relisted_for i c lines = relist_all i (waits 0 c) (waits 1 c) (waits 2 c) lines

-- its packet of a rank was handed out
abbrev pub served_for : ℕ → ℕ → Channel → List ℕ → List ℕ
served_for rank i c lines = served_from rank i (waits 0 c) (waits 1 c) (waits 2 c) lines

-- by what the call looked for, and by what is ready then; a question moves nobody
abbrev pub moved_with : Sought → ℕ → ℕ → Ranks → List ℕ → List ℕ
moved_with (Index index) rank i w lines = relist_all i w.control w.again w.fresh lines
moved_with (Question index) rank i w lines = lines
moved_with (Packet f start x) rank i w lines = relist_all i w.control w.again w.fresh lines
moved_with Ready rank i w lines = served_from rank i w.control w.again w.fresh lines
moved_with (Nobody why) rank i w lines = lines

abbrev pub moved_by : Sought → ℕ → ℕ → Channel → List ℕ → List ℕ
moved_by sought rank i c lines = moved_with sought rank i (waiting_of c) lines

-- only 0, 9 and 15 change a record
abbrev pub may_move : Answer → Bool
may_move (Done length confirmed) = true
may_move (Repeated length) = true
may_move (Inactive reason) = true
may_move (Refused why) = false

unfoldable pub moved : Sought → ℕ → ℕ → Stepped → List ℕ → List ℕ
moved sought rank i s lines = if may_move s.answer then moved_by sought rank i s.channel lines else lines
