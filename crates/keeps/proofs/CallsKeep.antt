-- Every call keeps the test for 13 (document 01, A channel's record and memory: 'every call keeps the condition'), and where a table does not pass
-- it nothing changes.
-- Assumes nothing.
use mathlib.Core.Path.{◌≡◌, refl, sym, ap, ap₂, ◌∙◌}
use mathlib.Core.Bool.{Bool, true, false}
use mathlib.Core.List.{List, [], ◌∷◌, map}
use Prim.Native.Nat.{ℕ, suc, ◌+◌}
use native.Mathlib.Omega.{arith}
use lib.ListN.{length, take, drop}
use Rattle.laws.proofs.Choice.{chosen}
use Rattle.table.proofs.Parts.{laid_own}
use Rattle.walks.specs.Serving.{Called, Changed, leaves, changes}
use Rattle.channel.specs.declared.record.Limits.{Limits}
use Rattle.channel.specs.declared.record.Node.{Node}
use Rattle.channel.specs.declared.record.Channel.{Channel}
use Rattle.channel.specs.declared.answer.Answer.{Answer}
use Rattle.channel.specs.declared.answer.Answer.TheVariants.{Refused}
use Rattle.channel.specs.declared.answer.Refusal.TheVariants as refusal
use Rattle.channel.specs.declared.step.Stepped.{Stepped}
use Rattle.channel.specs.Standing.{standing}
use Rattle.channel.proofs.StandingLaws.{stands_is, is_stands}
use Rattle.table.specs.declared.looking.Look.{Look}
use Rattle.table.specs.declared.looking.Sought.TheVariants.{Index, Ready}
use Rattle.table.specs.Looking.{seeking}
use Rattle.table.specs.Lent.{area_of, slot_at, octet_at, all_slots, all_octets, each_stands, lawful, passes}
use Rattle.table.specs.Serving.{record_at, own_mem, own_lens, Step, alone, stored, serve_one, table_of}
use Rattle.table.proofs.SurveyLaws.{stands_first, stands_both}
use Rattle.table.proofs.ServeLaws.{Lawful, lawful_is, is_lawful}
use Rattle.requests.specs.Requests.{opened_by, closed_by, transfer_for, take_for, reclaim_for}
use Rattle.requests.specs.Handing.{next_for}
use Rattle.arrivals.specs.Finding.{look_of}
use Rattle.arrivals.specs.Arriving.{arrival_for}
use Rattle.ticks.specs.Ticks.{tick_of, ticked}
use Rattle.node.specs.Calls.{open_call, close_call, transfer_call, take_call, reclaim_call, next_packet_call, arrival_call}
use Rattle.keeps.specs.Keeping.{KeepsLawful, KeepsTable, Wide, Keeps}
use Rattle.keeps.proofs.Serving.{served_at, serve_cases, serve_keeps, serve_lawful, serve_unlawful}
use Rattle.keeps.proofs.StepsKeep.{open_keeps, close_keeps, transfer_keeps, take_keeps, reclaim_keeps, next_keeps, arrival_keeps, tick_keeps}

-- ---- a table that does not pass the test: 13, and nothing changes

pub unlawful_changes_nothing : (look : Look) (step : Step) (t : List Channel) (mem lens lines out : List ℕ) → passes t mem lens lines ≡ false
    → serve_one look step t mem lens lines out ≡ leaves (Refused refusal.Settings) t mem lens lines out
unlawful_changes_nothing look step t mem lens lines out e = serve_unlawful look step t mem lens lines out e

pub tick_unlawful_changes_nothing : (t : List Channel) (mem lens lines : List ℕ) → passes t mem lens lines ≡ false
    → ticked t mem lens lines ≡ changes (Refused refusal.Settings) t lines
unfolding ticked
tick_unlawful_changes_nothing t mem lens lines e = simp (e)

-- ---- a call that is lent nothing that it could change but the table and the lines

module _ (look : Look) (step : Channel → Stepped) (t : List Channel) (mem lens lines out : List ℕ) where
  -- it leaves memory and lengths
  alone_stays : ((serve_one look (alone step) t mem lens lines out).mem ≡ mem) × ((serve_one look (alone step) t mem lens lines out).lens ≡ lens)
  unfolding stored
  alone_stays =
      serve_cases look (alone step) t mem lens lines out (λ (g : Called Answer Channel). (g.mem ≡ mem) × (g.lens ≡ lens)) (refl, refl) (refl, refl)
      (λ h below g.
      let i = served_at look (alone step) t mem lens lines out in
      (laid_own mem (octet_at t i) (area_of (record_at t i).limits), laid_own lens (slot_at t i) (record_at t i).limits.slots))

  alone_lawful : Keeps look (alone step) out → KeepsTable t mem lens (table_of (serve_one look (alone step) t mem lens lines out))
  alone_lawful keeps e =
      ap₂ (λ (m l : List ℕ). lawful (serve_one look (alone step) t mem lens lines out).table m l) (sym alone_stays.0) (sym alone_stays.1)
      ∙ serve_lawful look (alone step) t mem lens lines out keeps e

-- ---- each call

module _ (t : List Channel) (mem lens lines : List ℕ) where
  pub arrival_lawful : (node : Node) (packet reply : List ℕ) → KeepsLawful t mem lens (arrival_call t mem lens lines node packet reply)
  arrival_lawful node packet reply =
      serve_lawful (look_of node packet (length reply)) (arrival_for node packet) t mem lens lines reply (arrival_keeps node packet reply)

  pub next_packet_lawful : (node : Node) (out : List ℕ) → KeepsLawful t mem lens (next_packet_call t mem lens lines node out)
  next_packet_lawful node out = serve_lawful (seeking Ready) (next_for node) t mem lens lines out (next_keeps node out)

  pub open_lawful : (index : ℕ) → KeepsTable t mem lens (open_call t mem lens lines index)
  open_lawful index = alone_lawful (seeking (Index index)) opened_by t mem lens lines [] (open_keeps (seeking (Index index)) [])

  pub close_lawful : (index : ℕ) → KeepsTable t mem lens (close_call t mem lens lines index)
  close_lawful index = alone_lawful (seeking (Index index)) closed_by t mem lens lines [] (close_keeps (seeking (Index index)) [])

  -- a table of records as they are made: each has its 128 marks
  pub transfer_lawful : (index : ℕ) (unit : List ℕ) → Wide t → KeepsLawful t mem lens (transfer_call t mem lens lines index unit)
  transfer_lawful index unit wide =
      let look = seeking (Index index) in
      let i = served_at look (transfer_for unit) t mem lens lines [] in
      serve_keeps look (transfer_for unit) t mem lens lines []
      (λ below g. transfer_keeps look unit [] i _ (record_at t i) (own_mem t i mem) (own_lens t i lens) (wide i below) g)

  pub take_lawful : (index : ℕ) (out : List ℕ) → KeepsLawful t mem lens (take_call t mem lens lines index out)
  take_lawful index out = serve_lawful (seeking (Index index)) take_for t mem lens lines out (take_keeps (seeking (Index index)) out)

  pub reclaim_lawful : (index : ℕ) (out : List ℕ) → KeepsLawful t mem lens (reclaim_call t mem lens lines index out)
  reclaim_lawful index out = serve_lawful (seeking (Index index)) reclaim_for t mem lens lines out (reclaim_keeps (seeking (Index index)) out)

-- ---- a tick

tick_stands_all : (t : List Channel) (lens : List ℕ) → each_stands t lens ≡ true → each_stands (map tick_of t) lens ≡ true
unfolding each_stands
tick_stands_all [] lens e = refl
tick_stands_all (c ∷ t) lens e =
    let p = stands_first c t lens e in
    let own = take c.limits.slots lens in
    let k = tick_keeps c own (stands_is c own p.0) in
    stands_both (tick_of c) (map tick_of t) lens
    (ap (λ (l : Limits). standing (tick_of c) (take l.slots lens)) k.0.1 ∙ is_stands (tick_of c) own k.1)
    (ap (λ (l : Limits). each_stands (map tick_of t) (drop l.slots lens)) k.0.1
    ∙ tick_stands_all t (drop c.limits.slots lens) p.1)

tick_sizes : (t : List Channel) (lens : List ℕ) → each_stands t lens ≡ true
    → (length (map tick_of t) ≡ length t) × (all_slots (map tick_of t) ≡ all_slots t) × (all_octets (map tick_of t) ≡ all_octets t)
unfolding all_slots all_octets
tick_sizes [] lens e = (refl, refl, refl)
tick_sizes (c ∷ t) lens e =
    let p = stands_first c t lens e in
    let own = take c.limits.slots lens in
    let k = tick_keeps c own (stands_is c own p.0) in
    let r = tick_sizes t (drop c.limits.slots lens) p.1 in (
      ap suc r.0,
      ap₂ (λ (l : Limits) (n : ℕ). l.slots + n) k.0.1 r.1,
      ap₂ (λ (l : Limits) (n : ℕ). area_of l + n) k.0.1 r.2,
    )

pub tick_lawful : (t : List Channel) (mem lens lines : List ℕ) → KeepsTable t mem lens (ticked t mem lens lines)
unfolding ticked
tick_lawful t mem lens lines e = go (passes t mem lens lines) refl
  where
    h : Lawful t mem lens
    h = lawful_is t mem lens e

    s : (length (map tick_of t) ≡ length t) × (all_slots (map tick_of t) ≡ all_slots t) × (all_octets (map tick_of t) ≡ all_octets t)
    s = tick_sizes t lens h.stand

    go : (b : Bool) → passes t mem lens lines ≡ b → lawful (ticked t mem lens lines).table mem lens ≡ true
    go true p =
        ap (λ (g : Changed Answer Channel). lawful g.table mem lens) (chosen (passes t mem lens lines) _ _ p)
        ∙ is_lawful (map tick_of t) mem lens
        (record {
          some = omega (arith, s.0, h.some);
          few = omega (arith, s.0, h.few);
          slots = h.slots ∙ sym s.1;
          octets = h.octets ∙ sym s.2;
          stand = tick_stands_all t lens h.stand;
        })
    go false p = ap (λ (g : Changed Answer Channel). lawful g.table mem lens) (tick_unlawful_changes_nothing t mem lens lines p) ∙ e
