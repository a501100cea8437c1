-- What the door keeps, whatever it is asked, with any octets and any buffer: the test for 13, one mark for each of 128 slots, and the table's addresses
-- and limits; and what a question reads (document 01, A channel's record and memory; Answer numbers).
-- Assumes nothing.
use mathlib.Core.Path.{refl, subst}
use mathlib.Core.List.{List, []}
use Prim.Native.Nat.{ℕ}
use lib.ListN.{length}
use Rattle.channel.specs.declared.record.Channel.{Channel}
use Rattle.channel.specs.declared.answer.Refusal.TheVariants as refusal
use Rattle.channel.specs.Steps.{refusing}
use Rattle.table.specs.declared.looking.Look.{Look}
use Rattle.table.specs.declared.looking.Sought.TheVariants.{Index, Question, Ready, Nobody}
use Rattle.table.specs.Looking.{seeking}
use Rattle.table.specs.Serving.{record_at, own_mem, own_lens, alone, serve_one}
use Rattle.requests.specs.Requests.{opened_by, closed_by, asked_by, take_for, reclaim_for}
use Rattle.requests.specs.Handing.{next_for}
use Rattle.arrivals.specs.Finding.{look_of}
use Rattle.arrivals.specs.Arriving.{arrival_for}
use Rattle.node.specs.declared.request.Request.{Request}
use Rattle.node.specs.declared.request.Request.TheVariants.{Open, Close, Transfer, WouldTransfer, Take, Reclaim, Arrival, NextPacket, Unknown}
use Rattle.node.specs.Calls.{look_in, step_for, served, question_call}
use Rattle.keeps.specs.Keeping.{KeepsLawful, Wide, Given, Kept, Keeps, SettingsStay, staying, SameFor, OwnChannelAlone}
use Rattle.keeps.proofs.Serving.{served_at, serve_keeps}
use Rattle.keeps.proofs.StepsKeep.{open_keeps, close_keeps, transfer_keeps, take_keeps, reclaim_keeps, next_keeps, arrival_keeps}
use Rattle.keeps.proofs.Marks.{Full, Marking, serve_wide, open_marking, close_marking, transfer_marking, take_marking, reclaim_marking, next_marking, arrival_marking}
use Rattle.walks.specs.Serving.{Called}
use Rattle.channel.specs.declared.answer.Answer.{Answer}
use Rattle.keeps.proofs.Alone.{asked_served, question_by_addresses, own_channel_alone}
use Rattle.keeps.proofs.CallsAlone.{shapes, alone_called}
use Rattle.keeps.proofs.Settled.{Fixing, keeps_fixing, transfer_fixing, settings_stay}

-- ---- a question leaves the record, and so does a request that is none

pub question_keeps : (look : Look) (count : ℕ) (out : List ℕ) → Keeps look (alone (asked_by count)) out
unfolding asked_by
question_keeps look count out at rank c mem lens g = record { addresses = refl; limits = refl; standing = g.standing; sized = g.sized }

question_marking : (count : ℕ) (out : List ℕ) → Marking (alone (asked_by count)) out
unfolding asked_by
question_marking count out c rank mem lens w = w

pub unknown_keeps : (look : Look) (out : List ℕ) → Keeps look (alone (λ c. refusing c refusal.NoChannel)) out
unknown_keeps look out at rank c mem lens g = record { addresses = refl; limits = refl; standing = g.standing; sized = g.sized }

-- ---- the step of each request

step_keeps : (n : Request) (x out : List ℕ) (at rank : ℕ) (c : Channel) (mem lens : List ℕ) → Full c
    → Given (look_in n x (length out)) at rank c mem lens → Kept c (step_for n x c rank mem lens out)
step_keeps (Open index) x out at rank c mem lens w = open_keeps (seeking (Index index)) out at rank c mem lens
step_keeps (Close index) x out at rank c mem lens w = close_keeps (seeking (Index index)) out at rank c mem lens
step_keeps (Transfer index) x out at rank c mem lens w = transfer_keeps (seeking (Index index)) x out at rank c mem lens w
step_keeps (WouldTransfer index count) x out at rank c mem lens w = question_keeps (seeking (Question index)) count out at rank c mem lens
step_keeps (Take index) x out at rank c mem lens w = take_keeps (seeking (Index index)) out at rank c mem lens
step_keeps (Reclaim index) x out at rank c mem lens w = reclaim_keeps (seeking (Index index)) out at rank c mem lens
step_keeps (Arrival node) x out at rank c mem lens w = arrival_keeps node x out at rank c mem lens
step_keeps (NextPacket node) x out at rank c mem lens w = next_keeps node out at rank c mem lens
step_keeps Unknown x out at rank c mem lens w = unknown_keeps (seeking (Nobody refusal.NoChannel)) out at rank c mem lens

step_marking : (n : Request) (x out : List ℕ) → Marking (step_for n x) out
step_marking (Open index) x out = open_marking out
step_marking (Close index) x out = close_marking out
step_marking (Transfer index) x out = transfer_marking x out
step_marking (WouldTransfer index count) x out = question_marking count out
step_marking (Take index) x out = take_marking out
step_marking (Reclaim index) x out = reclaim_marking out
step_marking (Arrival node) x out = arrival_marking node x out
step_marking (NextPacket node) x out = next_marking node out
step_marking Unknown x out = λ c rank mem lens w. w

step_fixing : (n : Request) (x out : List ℕ) → Fixing (look_in n x (length out)) (step_for n x) out
step_fixing (Open index) x out = keeps_fixing (seeking (Index index)) (alone opened_by) out (open_keeps (seeking (Index index)) out)
step_fixing (Close index) x out = keeps_fixing (seeking (Index index)) (alone closed_by) out (close_keeps (seeking (Index index)) out)
step_fixing (Transfer index) x out = transfer_fixing (seeking (Index index)) x out
step_fixing (WouldTransfer index count) x out =
    keeps_fixing (seeking (Question index)) (alone (asked_by count)) out (question_keeps (seeking (Question index)) count out)
step_fixing (Take index) x out = keeps_fixing (seeking (Index index)) take_for out (take_keeps (seeking (Index index)) out)
step_fixing (Reclaim index) x out = keeps_fixing (seeking (Index index)) reclaim_for out (reclaim_keeps (seeking (Index index)) out)
step_fixing (Arrival node) x out = keeps_fixing (look_of node x (length out)) (arrival_for node x) out (arrival_keeps node x out)
step_fixing (NextPacket node) x out = keeps_fixing (seeking Ready) (next_for node) out (next_keeps node out)
step_fixing Unknown x out = λ at rank c mem lens g. (refl, refl)

-- ---- the door

module _ (t : List Channel) (mem lens lines : List ℕ) (n : Request) (x out : List ℕ) where
  -- a table of records as they are made: each has its 128 marks
  pub served_lawful : Wide t → KeepsLawful t mem lens (served t mem lens lines n x out)
  served_lawful wide =
      let look = look_in n x (length out) in
      let i = served_at look (step_for n x) t mem lens lines out in
      serve_keeps look (step_for n x) t mem lens lines out
      (λ below g. step_keeps n x out i _ (record_at t i) (own_mem t i mem) (own_lens t i lens) (wide i below) g)

  pub served_wide : Wide t → Wide (served t mem lens lines n x out).table
  served_wide = serve_wide (look_in n x (length out)) (step_for n x) t mem lens lines out (step_marking n x out)

  pub served_settings_stay : SettingsStay t (served t mem lens lines n x out).table
  served_settings_stay = settings_stay (look_in n x (length out)) (step_for n x) t mem lens lines out (step_fixing n x out)

-- ---- a question reads its own channel alone, whatever the lines are

pub question_own_channel_alone : (t : List Channel) (mem lens lines : List ℕ) (index count : ℕ)
    → OwnChannelAlone (λ s m l li. staying (question_call s m l li index count) m l) index t mem lens lines
question_own_channel_alone t mem lens lines index count t2 mem2 lens2 lines2 e e2 same own =
    let look = seeking (Question index) in
    let step = alone (asked_by count) in
    subst (λ (g : Called Answer Channel). SameFor index g (staying (question_call t2 mem2 lens2 lines2 index count) mem2 lens2))
    (alone_called look (asked_by count) t mem lens lines)
    (subst (λ (g : Called Answer Channel). SameFor index (serve_one look step t mem lens lines []) g)
    (alone_called look (asked_by count) t2 mem2 lens2 lines2)
    (own_channel_alone look step [] (shapes look step [] (question_keeps look count [])) (question_by_addresses index) t mem lens lines index
    (λ g. asked_served index _ _ _ _ _ g) t2 mem2 lens2 lines2 e e2 same own))
