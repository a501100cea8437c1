-- What the calls that file nothing leave as it was: the memory and the lengths, though they are lent so that they could be written; and a question all.
-- Assumes nothing.
use mathlib.Core.Path.{◌≡◌, refl, ap, ◌∙◌}
use mathlib.Core.Bool.{Bool, true, false}
use mathlib.Core.List.{List}
use Prim.Native.Nat.{ℕ}
use lib.Dec.{eqb}
use lib.ListN.{length}
use lib.Seq.{set-get_or}
use Rattle.std.specs.Prelude.{if◌then◌else◌}
use Rattle.slots.specs.Slots.{laid}
use Rattle.walks.specs.Serving.{Called, works}
use Rattle.channel.specs.declared.record.Node.{Node}
use Rattle.channel.specs.declared.record.Channel.{Channel}
use Rattle.channel.specs.declared.answer.Answer.{Answer}
use Rattle.channel.specs.declared.answer.Refusal.TheVariants as refusal
use Rattle.channel.specs.declared.step.Stepped.{Stepped}
use Rattle.channel.specs.Record.{sends, receives}
use Rattle.channel.specs.Steps.{refusing}
use Rattle.sender_units.specs.Reclaiming.{reclaim_step, reclaim_out}
use Rattle.receiver_data.specs.Taking.{take_step, take_out}
use Rattle.table.specs.declared.looking.Look.{Look}
use Rattle.table.specs.declared.looking.Sought.TheVariants.{Index, Question, Ready}
use Rattle.table.specs.Looking.{seeking}
use Rattle.table.specs.Looking.{chosen as choice}
use Rattle.table.specs.Waiting.{rank_in, may_move, moved}
use Rattle.table.specs.Lent.{area_of, slot_at, octet_at}
use Rattle.table.specs.Serving.{blank, record_at, own_mem, own_lens, Step, alone, stored, serve_one}
use Rattle.table.proofs.Parts.{laid_own}
use Rattle.requests.specs.Requests.{opened_by, closed_by, asked_by, take_for, reclaim_for}
use Rattle.requests.specs.Handing.{next_for}
use Rattle.node.specs.declared.request.Request.TheVariants.{Open, Close, WouldTransfer, Take, Reclaim, NextPacket}
use Rattle.node.specs.Calls.{served}
use Rattle.keeps.proofs.Serving.{served_at, worked, serve_cases}

-- a step that files nothing, with the lent buffer
abbrev FilesNothing : Step → List ℕ → Type 0
FilesNothing step out = (c : Channel) (rank : ℕ) (m l : List ℕ) → ((step c rank m l out).mem ≡ m) × ((step c rank m l out).lens ≡ l)

-- what is lent beside the table is as it was
abbrev pub MemoryStays : List ℕ → List ℕ → Called Answer Channel → Type 0
MemoryStays mem lens g = (g.mem ≡ mem) × (g.lens ≡ lens)

module _ (look : Look) (step : Step) (t : List Channel) (mem lens lines out : List ℕ) where
  files_nothing : FilesNothing step out → MemoryStays mem lens (serve_one look step t mem lens lines out)
  unfolding stored
  files_nothing still =
      serve_cases look step t mem lens lines out (MemoryStays mem lens) (refl, refl) (refl, refl)
      (λ h below g.
      let i = served_at look step t mem lens lines out in
      let s = still (record_at t i) (rank_in (choice look lines t).grade) (own_mem t i mem) (own_lens t i lens) in (
        ap (laid mem (octet_at t i)) s.0 ∙ laid_own mem (octet_at t i) (area_of (record_at t i).limits),
        ap (laid lens (slot_at t i)) s.1 ∙ laid_own lens (slot_at t i) (record_at t i).limits.slots,
      ))

-- a choice between two that leave memory and lengths
either_stays : (b : Bool) (m l : List ℕ) (v w : Stepped) (o p : List ℕ)
    → ((if b then works v m l o else works w m l p).mem ≡ m) × ((if b then works v m l o else works w m l p).lens ≡ l)
either_stays true m l v w o p = (refl, refl)
either_stays false m l v w o p = (refl, refl)

take_files_nothing : (out : List ℕ) → FilesNothing take_for out
unfolding take_for
take_files_nothing out c rank m l =
    either_stays (eqb c.addresses.direction receives) m l (take_step c l (length out)) (refusing c refusal.State) (take_out c l m out) out

reclaim_files_nothing : (out : List ℕ) → FilesNothing reclaim_for out
unfolding reclaim_for
reclaim_files_nothing out c rank m l =
    either_stays (eqb c.addresses.direction sends) m l (reclaim_step c l (length out)) (refusing c refusal.State) (reclaim_out c l m out) out

next_files_nothing : (node : Node) (out : List ℕ) → FilesNothing (next_for node) out
unfolding next_for
next_files_nothing node out c rank m l = (refl, refl)

-- ---- each call

module _ (t : List Channel) (mem lens lines x out : List ℕ) where
  pub open_stays : (index : ℕ) → MemoryStays mem lens (served t mem lens lines (Open index) x out)
  open_stays index = files_nothing (seeking (Index index)) (alone opened_by) t mem lens lines out (λ c rank m l. (refl, refl))

  pub close_stays : (index : ℕ) → MemoryStays mem lens (served t mem lens lines (Close index) x out)
  close_stays index = files_nothing (seeking (Index index)) (alone closed_by) t mem lens lines out (λ c rank m l. (refl, refl))

  pub take_stays : (index : ℕ) → MemoryStays mem lens (served t mem lens lines (Take index) x out)
  take_stays index = files_nothing (seeking (Index index)) take_for t mem lens lines out (take_files_nothing out)

  pub reclaim_stays : (index : ℕ) → MemoryStays mem lens (served t mem lens lines (Reclaim index) x out)
  reclaim_stays index = files_nothing (seeking (Index index)) reclaim_for t mem lens lines out (reclaim_files_nothing out)

  pub next_stays : (node : Node) → MemoryStays mem lens (served t mem lens lines (NextPacket node) x out)
  next_stays node = files_nothing (seeking Ready) (next_for node) t mem lens lines out (next_files_nothing node out)

  pub question_stays : (index count : ℕ) → MemoryStays mem lens (served t mem lens lines (WouldTransfer index count) x out)
  question_stays index count = files_nothing (seeking (Question index)) (alone (asked_by count)) t mem lens lines out (λ c rank m l. (refl, refl))

  -- and no record changes
  pub question_changes_nothing : (index count : ℕ) → (served t mem lens lines (WouldTransfer index count) x out).table ≡ t
  unfolding stored asked_by
  question_changes_nothing index count =
      serve_cases (seeking (Question index)) (alone (asked_by count)) t mem lens lines out (λ (g : Called Answer Channel). g.table ≡ t) refl refl
      (λ h below g. set-get_or t (served_at (seeking (Question index)) (alone (asked_by count)) t mem lens lines out) blank)

  -- and no place in a line
  pub question_lines_stay : (index count : ℕ) → (served t mem lens lines (WouldTransfer index count) x out).lines ≡ lines
  unfolding stored moved
  question_lines_stay index count =
      serve_cases (seeking (Question index)) (alone (asked_by count)) t mem lens lines out (λ (g : Called Answer Channel). g.lines ≡ lines) refl refl
      (λ h below g. stay (may_move (worked (seeking (Question index)) (alone (asked_by count)) t mem lens lines out).made.answer))
    where
      stay : (b : Bool) → (if b then lines else lines) ≡ lines
      stay true = refl
      stay false = refl
