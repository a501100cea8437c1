-- What is shown of every call of the node (document 01, A channel's record and memory; Answer numbers).
use Rattle.std.specs.Prelude.{◌≡◌, true, ◌⊎◌, List, [], map, ℕ, ◌+◌, ◌<◌, length, take, drop}
use Rattle.slots.specs.Slots.{Sized}
use Rattle.walks.specs.Serving.{Worked, Called, Changed, leaves, changes}
use Rattle.channel.specs.declared.record.Addresses.{Addresses}
use Rattle.channel.specs.declared.record.Limits.{Limits}
use Rattle.channel.specs.declared.record.Channel.{Channel}
use Rattle.channel.specs.declared.answer.Answer.{Answer}
use Rattle.channel.specs.declared.step.Stepped.{Stepped}
use Rattle.channel.specs.Answers.{number_of}
use Rattle.channel.specs.Record.{opened, no_pulse}
use Rattle.channel.specs.Standing.{Standing}
use Rattle.table.specs.declared.looking.Look.{Look}
use Rattle.table.specs.Waiting.{rank_in}
use Rattle.table.specs.Looking.{graded}
use Rattle.table.specs.Lent.{area_of, slot_at, octet_at, lawful, passes}
use Rattle.table.specs.Serving.{record_at, own_mem, own_lens, Step}

-- ---- 'Two outcomes it admits are proved equal'

abbrev pub OneOutcome : Called Answer Channel → Type 0
OneOutcome g =
    (r r2 : Answer) (t t2 : List Channel) (m m2 l l2 i i2 o o2 : List ℕ)
    → leaves r t m l i o ≡ g
    → leaves r2 t2 m2 l2 i2 o2 ≡ g
    → (r ≡ r2) × (t ≡ t2) × (m ≡ m2) × (l ≡ l2) × (i ≡ i2) × (o ≡ o2)

-- of a call that changes the table and the lines alone
abbrev pub OneChange : Changed Answer Channel → Type 0
OneChange g =
    (r r2 : Answer) (t t2 : List Channel) (i i2 : List ℕ)
    → changes r t i ≡ g
    → changes r2 t2 i2 ≡ g
    → (r ≡ r2) × (t ≡ t2) × (i ≡ i2)

-- ---- 'every call keeps the condition'

abbrev pub KeepsLawful : List Channel → List ℕ → List ℕ → Called Answer Channel → Type 0
KeepsLawful t mem lens g = lawful t mem lens ≡ true → lawful g.table g.mem g.lens ≡ true

-- the memory and the lengths stay
abbrev pub KeepsTable : List Channel → List ℕ → List ℕ → Changed Answer Channel → Type 0
KeepsTable t mem lens g = lawful t mem lens ≡ true → lawful g.table mem lens ≡ true

-- 'one mark for each of 128 slots, used or not': every value of the type of records has it
abbrev pub Wide : List Channel → Type 0
Wide t = (i : ℕ) → i < length t → length (record_at t i).marks ≡ 128

-- out of OPEN an end has no Heartbeat, and no interval runs (document 02, A2)
abbrev pub Rests : Channel → Type 0
Rests c = (c.phase.state ≡ opened → ⊥) → c.pulse ≡ no_pulse

abbrev pub Resting : List Channel → Type 0
Resting t = (i : ℕ) → i < length t → Rests (record_at t i)

-- what a step is given by the call: a record that stands with its lengths, with a memory of its size, and that suits what is looked for, by some
-- lines; the rank is that of its grade
pub record Given (look : Look) (at rank : ℕ) (c : Channel) (mem lens : List ℕ) : Type 0 where
  pub standing : Standing c lens
  pub sized : Sized c.limits.slots c.limits.payload mem lens
  pub lines : List ℕ
  pub grade : ℕ
  pub suits : grade ≡ graded look lines at c
  pub found : grade < 48
  pub ranked : rank ≡ rank_in grade

-- what it leaves: a record with the same addresses and limits that stands with the lengths left, and memory and lengths of their size
pub record Kept (c : Channel) (w : Worked Stepped) : Type 0 where
  pub addresses : w.made.channel.addresses ≡ c.addresses
  pub limits : w.made.channel.limits ≡ c.limits
  pub standing : Standing w.made.channel w.lens
  pub sized : Sized c.limits.slots c.limits.payload w.mem w.lens

-- of every record that suits, with the lent buffer
abbrev pub Keeps : Look → Step → List ℕ → Type 0
Keeps look step out = (at rank : ℕ) (c : Channel) (mem lens : List ℕ) → Given look at rank c mem lens → Kept c (step c rank mem lens out)

-- ---- 'All but 0, 9 and 15 change no record and no octet'

abbrev pub MayChange : Answer → Type 0
MayChange r = (number_of r ≡ 0) ⊎ (number_of r ≡ 9) ⊎ (number_of r ≡ 15)

abbrev pub RefusalsChangeNothing : List Channel → List ℕ → List ℕ → List ℕ → List ℕ → Called Answer Channel → Type 0
RefusalsChangeNothing t mem lens lines out g =
    (MayChange g.answer → ⊥)
    → (g.table ≡ t) × (g.mem ≡ mem) × (g.lens ≡ lens) × (g.lines ≡ lines) × (g.out ≡ out)

abbrev pub RefusalsChangeNoRecord : List Channel → List ℕ → Changed Answer Channel → Type 0
RefusalsChangeNoRecord t lines g = (MayChange g.answer → ⊥) → (g.table ≡ t) × (g.lines ≡ lines)

-- '9 writes no reply'
abbrev pub NineWritesNothing : List ℕ → Called Answer Channel → Type 0
NineWritesNothing out g = number_of g.answer ≡ 9 → g.out ≡ out

-- ---- 'an arrival or request reads and changes its own channel alone'

-- what a call leaves that changes no octet and no length
abbrev pub staying : Changed Answer Channel → List ℕ → List ℕ → Called Answer Channel
staying g mem lens = leaves g.answer g.table mem lens g.lines []

-- past what the channel at index i has, all is as it was
pub record OthersStay (t : List Channel) (mem lens : List ℕ) (i : ℕ) (g : Called Answer Channel) : Type 0 where
  -- channel by channel
  pub records : (j : ℕ) → (j ≡ i → ⊥) → record_at g.table j ≡ record_at t j
  pub octets : (j : ℕ) → j < length t → (j ≡ i → ⊥) → own_mem g.table j g.mem ≡ own_mem t j mem
  pub lengths : (j : ℕ) → j < length t → (j ≡ i → ⊥) → own_lens g.table j g.lens ≡ own_lens t j lens
  -- and all of it: the octets and the lengths before the own part, and those behind it
  pub mem_before : take (octet_at t i) g.mem ≡ take (octet_at t i) mem
  pub mem_behind : drop (octet_at t i + area_of (record_at t i).limits) g.mem ≡ drop (octet_at t i + area_of (record_at t i).limits) mem
  pub lens_before : take (slot_at t i) g.lens ≡ take (slot_at t i) lens
  pub lens_behind : drop (slot_at t i + (record_at t i).limits.slots) g.lens ≡ drop (slot_at t i + (record_at t i).limits.slots) lens

-- the channel at index i has the same record, octets and lengths in two nodes
pub record SameOwn (i : ℕ) (t : List Channel) (mem lens : List ℕ) (t2 : List Channel) (mem2 lens2 : List ℕ) : Type 0 where
  pub channel : record_at t i ≡ record_at t2 i
  pub octets : own_mem t i mem ≡ own_mem t2 i mem2
  pub lengths : own_lens t i lens ≡ own_lens t2 i lens2

-- two calls answer the same, leave the same of the channel at index i, and the same buffer
pub record SameFor (i : ℕ) (g g2 : Called Answer Channel) : Type 0 where
  pub answer : g.answer ≡ g2.answer
  pub own : SameOwn i g.table g.mem g.lens g2.table g2.mem g2.lens
  pub out : g.out ≡ g2.out

-- the table's addresses and limits, which are fixed
abbrev pub addresses_in : List Channel → List Addresses
addresses_in t = map (λ c. c.addresses) t

abbrev pub limits_in : List Channel → List Limits
limits_in t = map (λ c. c.limits) t

abbrev pub SettingsStay : List Channel → List Channel → Type 0
SettingsStay t t2 = (addresses_in t2 ≡ addresses_in t) × (limits_in t2 ≡ limits_in t)

-- in every node with the same addresses that has the same channel at index i the call does the same, whatever the other channels and the lines are
abbrev pub OwnChannelAlone : (List Channel → List ℕ → List ℕ → List ℕ → Called Answer Channel) → ℕ → List Channel → List ℕ → List ℕ → List ℕ → Type 0
OwnChannelAlone call i t mem lens lines =
    (t2 : List Channel) (mem2 lens2 lines2 : List ℕ)
    → passes t mem lens lines ≡ true
    → passes t2 mem2 lens2 lines2 ≡ true
    → addresses_in t ≡ addresses_in t2
    → SameOwn i t mem lens t2 mem2 lens2
    → SameFor i (call t mem lens lines) (call t2 mem2 lens2 lines2)
