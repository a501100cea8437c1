-- How long a channel waits in its line (document 02, A4): 'while a channel stands in a line, at most fifteen packets of that rank are handed out
-- before its own'. Of every list of calls to a node whose table and lines settings and our calls alone have written. Packets of a rank that goes
-- before are not counted.
use Rattle.std.specs.Prelude.{ℕ, suc, ◌+◌, ◌≤◌, ◌<◌, ◌≡◌, Bool, true, false, ◌&&◌, List, [], ◌∷◌, eqb, length, if◌then◌else◌}
use Rattle.walks.specs.Serving.{Called, Changed}
use Rattle.lines.specs.Lines.{stands, before, line_at}
use Rattle.channel.specs.declared.record.Settings.{Settings}
use Rattle.channel.specs.declared.record.Channel.{Channel}
use Rattle.channel.specs.declared.answer.Answer.{Answer}
use Rattle.channel.specs.Answers.{number_of}
use Rattle.table.specs.declared.looking.Sought.TheVariants.{Ready}
use Rattle.table.specs.Waiting.{waits, rank_in}
use Rattle.table.specs.Looking.{seeking, chosen}
use Rattle.table.specs.Lent.{passes}
use Rattle.table.specs.Serving.{record_at}
use Rattle.settings.specs.Configuring.{configured, settled}
use Rattle.ticks.specs.Ticks.{ticked}
use Rattle.node.specs.declared.request.Request.{Request}
use Rattle.node.specs.declared.request.Request.TheVariants.{Open, Close, Transfer, WouldTransfer, Take, Reclaim, Arrival, NextPacket, Unknown}
use Rattle.node.specs.Calls.{served, served_index}
use Rattle.keeps.specs.Keeping.{Wide}

-- ---- calls, and what they leave of a node

pub record Lent : Type 0 where
  pub table : List Channel
  pub mem : List ℕ
  pub lens : List ℕ
  pub lines : List ℕ

-- whatever is asked of one channel, with the octets that are read and the buffer that is lent; a tick; settings
pub data Call : Type 0 where
  asks : Request → List ℕ → List ℕ → Call
  tick : Call
  settings : List Settings → Call

abbrev pub left : Called Answer Channel → Lent
left g = record { table = g.table; mem = g.mem; lens = g.lens; lines = g.lines }

-- of a call that changes the table and the lines alone
abbrev pub left_of : Lent → Changed Answer Channel → Lent
left_of s g = record { table = g.table; mem = s.mem; lens = s.lens; lines = g.lines }

-- the door at one request
abbrev pub at_door : Lent → Request → List ℕ → List ℕ → Called Answer Channel
at_door s n x out = served s.table s.mem s.lens s.lines n x out

abbrev pub after : Call → Lent → Lent
after (asks n x out) s = left (at_door s n x out)
after tick s = left_of s (ticked s.table s.mem s.lens s.lines)
after (settings l) s = left_of s (configured s.table s.mem s.lens s.lines l)

-- ---- what our calls alone make

-- a channel stands in the line of a rank exactly if a packet of that rank is ready in it
abbrev pub Stood : List Channel → List ℕ → Type 0
Stood t lines = (i rank : ℕ) → i < length t → rank < 3 → stands i (line_at rank lines) ≡ waits rank (record_at t i)

pub record Sound (s : Lent) : Type 0 where
  pub tested : passes s.table s.mem s.lens s.lines ≡ true
  pub wide : Wide s.table
  pub stood : Stood s.table s.lines

-- settings that answer 0 make it of whatever is lent, and every call keeps it
abbrev pub SettingsSound : Type 0
SettingsSound = (s : Lent) (l : List Settings) → settled s.table s.mem s.lens s.lines l ≡ true → Sound (after (settings l) s)

abbrev pub KeepsSound : Type 0
KeepsSound = (x : Call) (s : Lent) → Sound s → Sound (after x s)

-- ---- hand-outs

abbrev pub is_next : Request → Bool
is_next (Open index) = false
is_next (Close index) = false
is_next (Transfer index) = false
is_next (WouldTransfer index count) = false
is_next (Take index) = false
is_next (Reclaim index) = false
is_next (Arrival node) = false
is_next (NextPacket node) = true
is_next Unknown = false

-- the rank of the packet that is next
abbrev pub next_rank : Lent → ℕ
next_rank s = rank_in (chosen (seeking Ready) s.lines s.table).grade

-- the call hands out a packet of this rank
abbrev pub hands_out : ℕ → Call → Lent → Bool
hands_out rank (asks n x out) s = is_next n && (eqb (number_of (at_door s n x out).answer) 0 && eqb (next_rank s) rank)
hands_out rank tick s = false
hands_out rank (settings l) s = false

-- and it is channel c's
abbrev pub hands_out_of : ℕ → ℕ → Call → Lent → Bool
hands_out_of c rank (asks n x out) s =
    hands_out rank (asks n x out) s && eqb (served_index s.table s.mem s.lens s.lines n x out) c
hands_out_of c rank tick s = false
hands_out_of c rank (settings l) s = false

abbrev pub hand_outs : ℕ → List Call → Lent → ℕ
hand_outs rank [] s = 0
hand_outs rank (x ∷ l) s = (if hands_out rank x s then 1 else 0) + hand_outs rank l (after x s)

-- ---- two that join in the same call stand by index

abbrev pub ByIndex : Type 0
ByIndex =
    (s : Lent) → Sound s → (x : Call) (i k rank : ℕ) → rank < 3 → i < k
    → stands i (line_at rank s.lines) ≡ false
    → stands k (line_at rank s.lines) ≡ false
    → stands i (line_at rank (after x s).lines) ≡ true
    → stands k (line_at rank (after x s).lines) ≡ true
    → before i (line_at rank (after x s).lines) < before k (line_at rank (after x s).lines)

-- ---- at most fifteen

-- c stands in the line before each call, and none of them hands out a packet of c of that rank
abbrev pub WaitsThrough : ℕ → ℕ → List Call → Lent → Type 0
WaitsThrough c rank [] s = Unit {0}
WaitsThrough c rank (x ∷ l) s =
    (stands c (line_at rank s.lines) ≡ true) × (hands_out_of c rank x s ≡ false) × WaitsThrough c rank l (after x s)

-- no more packets of the rank are handed out than channels stood before c, and so fifteen at most
abbrev pub Fifteen : Type 0
Fifteen =
    (s : Lent) → Sound s → (c rank : ℕ) → rank < 3 → (calls : List Call) → WaitsThrough c rank calls s
    → (hand_outs rank calls s ≤ before c (line_at rank s.lines)) × (hand_outs rank calls s ≤ 15)

-- ---- from the head, and to the tail

abbrev pub FromTheHead : Type 0
FromTheHead =
    (s : Lent) → Sound s → (c rank : ℕ) (x : Call) → rank < 3 → hands_out_of c rank x s ≡ true
    → (stands c (line_at rank s.lines) ≡ true) × (before c (line_at rank s.lines) ≡ 0)

-- who was served and has more stands last
abbrev pub ToTheTail : Type 0
ToTheTail =
    (s : Lent) → Sound s → (c rank : ℕ) (x : Call) → rank < 3 → hands_out_of c rank x s ≡ true
    → stands c (line_at rank (after x s).lines) ≡ true
    → suc (before c (line_at rank (after x s).lines)) ≡ length (line_at rank (after x s).lines)
