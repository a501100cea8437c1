-- What the subscriber tells the host by a packet that it hands out: Flow Control, with the number of its window.
-- Assumes nothing.
use mathlib.Core.Path.{◌≡◌, refl, sym, ap, ◌∙◌, subst}
use mathlib.Core.Bool.{Bool, true, false, false≢true, not, ◌&&◌, ◌||◌}
use mathlib.Core.List.{List}
use Prim.Native.Nat.{ℕ, ◌<◌}
use native.Mathlib.Omega.{arith}
use borrow.Author.Tests.{eqb-true, eqb-false, eq-eqb}
use lib.Dec.{eqb}
use lib.ListN.{length}
use Rattle.std.specs.Prelude.{if◌then◌else◌}
use Rattle.laws.proofs.Choice.{both, either_way, chosen}
use Rattle.packet.specs.declared.kinds.Kind as packets
use Rattle.packet.specs.declared.kinds.Kind.TheVariants as kinds
use Rattle.packet.specs.Kinds.{kind_of, code_of}
use Rattle.packet.proofs.KindLaws.{kind_back}
use Rattle.packet.specs.declared.fields.Fields.{Fields}
use Rattle.packet.specs.Layout.{fields_at}
use Rattle.walks.specs.Serving.{Worked}
use Rattle.channel.specs.declared.record.Node.{Node}
use Rattle.channel.specs.declared.record.Channel.{Channel}
use Rattle.channel.specs.declared.answer.Answer.TheVariants.{Refused}
use Rattle.channel.specs.declared.answer.Refusal.TheVariants as refusal
use Rattle.channel.specs.declared.step.Stepped.{Stepped}
use Rattle.channel.specs.Record as state
use Rattle.channel.specs.Record.{receives}
use Rattle.channel.specs.Lone.{is_ready}
use Rattle.channel.specs.Flow.{stated}
use Rattle.sender_packets.specs.HandingOut.{is_flow, single_fields, single_out, ready_beside, ready, next_fields, next_out, next_length}
use Rattle.table.specs.Waiting.{rank_in}
use Rattle.table.specs.declared.looking.Look.{Look}
use Rattle.table.specs.declared.looking.Sought.TheVariants as sought
use Rattle.table.specs.Looking.{seeking, chosen as choice}
use Rattle.table.specs.Serving.{record_at, own_mem, own_lens}
use Rattle.requests.specs.Handing.{next_for}
use Rattle.keeps.specs.Keeping.{Given}
use Rattle.keeps.proofs.StepsKeep.{next_keeps, given_ready}
use Rattle.keeps.proofs.CallsAlone.{shapes}
use Rattle.protocol.specs.Sending.{Sender}
use Rattle.protocol.specs.Receiving.{Receiver}
use Rattle.delivery.specs.Calls.{End, Kind, hands, code, Request, called_by, index_told}
use Rattle.delivery.specs.History.{subscriber, Event, is, Toward}
use Rattle.delivery.proofs.Own.{Seen, Left, own_cases}
use Rattle.delivery.proofs.Nodes.{end_with, own_asked}
use Rattle.delivery.proofs.Handed.{next_destination, next_channel, next_single, next_data, payload_single, Carries, hand_cases}
use Rattle.delivery.proofs.SubscriberFrame.{subscriber_call}
use Rattle.delivery.proofs.SubscriberEnd.{Stage, below, asked}
use Rattle.room.specs.Order.{wrote_by, is_flow as isSix}
use Rattle.room.proofs.Says.{Saying, says_flow, unsaid, other_end, one_stated}

-- ---- Flow Control that is handed out

-- of a packet of rank 0
single_six : (node : Node) (c : Channel) → kind_of (single_fields node c).kind ≡ kinds.FlowControl → is_flow c ≡ true
unfolding kind_of
single_six node c = go (is_flow c) (eqb c.phase.state state.enabled) (eqb c.phase.state state.opened)
  where
    go : (v b d : Bool) → kind_of (code_of (if v then kinds.FlowControl else if b then kinds.Open else if d then kinds.Heartbeat else kinds.Close)) ≡ kinds.FlowControl → v ≡ true
    go true b d e = refl
    go false true d e = absurd (omega (arith, ap code_of e))
    go false false true e = absurd (omega (arith, ap code_of e))
    go false false false e = absurd (omega (arith, ap code_of e))

-- a receiver alone hands it out, with rank 0
module _ (node : Node) (c : Channel) (rank : ℕ) where
  abbrev Six : Type 0
  Six = (rank ≡ 0) × (is_flow c ≡ true) × (c.addresses.direction ≡ receives)

  ready_receives : is_flow c ≡ true → ready 0 c ≡ true → c.addresses.direction ≡ receives
  unfolding ready
  ready_receives flow is =
      let q = both (eqb c.phase.state state.opened) (not (is_ready c.pulse.beat)) flow in
      go (is_ready c.pulse.beat) q.1 (sym (chosen (eqb c.phase.state state.opened) (ready_beside c) _ q.0) ∙ is)
    where
      go : (b : Bool) → not b ≡ true → (b || (eqb c.addresses.direction receives && is_ready c.pulse.flow.packet)) ≡ true → c.addresses.direction ≡ receives
      go true e r = absurd (false≢true e)
      go false e r = eqb-true _ _ (both (eqb c.addresses.direction receives) _ r).0

  flow_handed : ready rank c ≡ true → kind_of (next_fields node c rank).kind ≡ kinds.FlowControl → Six
  flow_handed is kind = either_way (eqb rank 0) (λ e. single (eqb-true rank 0 e)) (λ e. segment (eqb-false rank 0 e))
    where
      single : rank ≡ 0 → Six
      single zero =
          let flow = single_six node c (sym (ap (λ (f : Fields). kind_of f.kind) (next_single node c rank zero)) ∙ kind) in
          (zero, flow, ready_receives flow (subst (λ (r : ℕ). ready r c ≡ true) zero is))

      segment : (rank ≡ 0 → ⊥) → Six
      segment some =
          let same_kind = sym (kind_back kinds.Data refl) ∙ sym (ap (λ (f : Fields). kind_of f.kind) (next_data node c rank some)) ∙ kind in
          absurd (omega (arith, ap code_of same_kind))

  single_left : rank ≡ 0 → next_out c rank ≡ single_out c
  unfolding next_out
  single_left zero = chosen (eqb rank 0) (single_out c) _ (eq-eqb rank 0 zero)

-- ---- the next packet

module _ {h s : End} {past : List Event} {x : Sender} {y : Receiver} {t : List Channel} {mem lens lines : List ℕ} {n : ℕ} (w : Stage h s past x y t mem lens lines n)
    (channel : ℕ) (u buffer : List ℕ) (copy : ℕ) where
  abbrev c : Channel
  c = record_at t s.index

  abbrev m : List ℕ
  m = own_mem t s.index mem

  abbrev l : List ℕ
  l = own_lens t s.index lens

  abbrev f : Fields
  f = fields_at u

  abbrev request : Kind → Request
  request kind = record { kind = kind; channel = channel; octets = u; buffer = buffer }

  abbrev next : Look
  next = seeking sought.Ready

  -- what is handed out for the host is Flow Control
  six_is : (kind : packets.Kind) → is subscriber (wrote_by (isSix kind)) (subscriber_call (request hands) copy) ≡ true → kind ≡ kinds.FlowControl
  six_is kinds.Data e = absurd (false≢true e)
  six_is kinds.DataAck e = absurd (false≢true e)
  six_is kinds.Open e = absurd (false≢true e)
  six_is kinds.Close e = absurd (false≢true e)
  six_is kinds.Heartbeat e = absurd (false≢true e)
  six_is kinds.HeartbeatAck e = absurd (false≢true e)
  six_is kinds.FlowControl e = refl
  six_is kinds.ControlAck e = absurd (false≢true e)
  six_is (kinds.Lacking code) e = absurd (false≢true e)

  carried_six : (d : Channel) (m2 l2 : List ℕ) (rank : ℕ) (packet : List ℕ) → ready rank d ≡ true → Carries s.node d m2 l2 rank packet → kind_of (fields_at packet).kind ≡ kinds.FlowControl
      → Six s.node d rank
  carried_six d m2 l2 rank packet is got kind = flow_handed s.node d rank is (sym (ap (λ (f : Fields). kind_of f.kind) got.fields) ∙ kind)

  hands_elsewhere : (j : ℕ) → j < length t → (j ≡ s.index → ⊥) → index_told (end_with s t mem lens lines n) (request hands) ≡ j → (rank : ℕ)
      → Given next j rank (record_at t j) (own_mem t j mem) (own_lens t j lens)
      → let v = next_for s.node (record_at t j) rank (own_mem t j mem) (own_lens t j lens) buffer in
      Saying w (request hands) copy v.made.answer v.out c m l
  hands_elsewhere j there apart index rank g =
      let d = record_at t j in
      let m2 = own_mem t j mem in
      let l2 = own_lens t j lens in
      let turn = given_ready j rank d m2 l2 g in
      hand_cases s.node d m2 l2 (own_asked s t mem lens w.now.kept j there) rank turn
      (λ (v : Worked Stepped). Saying w (request hands) copy v.made.answer v.out c m l) buffer
      (unsaid w (request hands) copy (Refused (refusal.Small (next_length d l2 rank))) buffer c m l refl)
      (λ z o carries i packet told named.
      let got = subst (Carries s.node d m2 l2 rank) told.1 carries in
      let six = carried_six d m2 l2 rank packet turn.is got (six_is _ told.0) in
      absurd
      (other_end w (request hands) copy j there apart (subst (Toward s) index told.2) six.2 packet
      (ap (λ (f : Fields). f.destination) got.fields ∙ next_destination s.node d rank)
      (ap (λ (f : Fields). f.channel) got.fields ∙ next_channel s.node d rank) named))

  hands_own : (rank : ℕ) → Given next s.index rank c m l → Left (Saying w (request hands) copy) (next_for s.node c rank m l buffer)
  hands_own rank g =
      let turn = given_ready s.index rank c m l g in
      hand_cases s.node c m l (asked w) rank turn (Left (Saying w (request hands) copy)) buffer
      (unsaid w (request hands) copy (Refused (refusal.Small (next_length c l rank))) buffer c m l refl)
      (λ z o carries i packet told named.
      let got = subst (Carries s.node c m l rank) told.1 carries in
      let kind = six_is _ told.0 in
      let six = carried_six c m l rank packet turn.is got kind in
      let left = single_left s.node c rank six.0 in
      says_flow s c.limits u packet (next_out c rank) kind
      (ap (λ (d : Channel). d.phase.state) left ∙ eqb-true _ _ (both (eqb c.phase.state state.opened) _ six.1).0)
      (one_stated (is_flow c) _ packet (got.payload ∙ payload_single c m l rank six.0) six.1
      ∙ sym (ap (λ (d : Channel). stated c.limits d.window) left)))

  pub says_hands : Seen (Saying w (request hands) copy) s.index (called_by hands (end_with s t mem lens lines n) (request hands))
  says_hands =
      own_cases next (next_for s.node) t mem lens lines buffer (shapes next (next_for s.node) buffer (next_keeps s.node buffer)) s.index (below w)
      (Saying w (request hands) copy)
      (λ why. unsaid w (request hands) copy (Refused why) buffer c m l refl)
      (λ j there apart at g. hands_elsewhere j there apart at (rank_in (choice next lines t).grade) g)
      (λ at g. hands_own (rank_in (choice next lines t).grade) g)
