-- Every call at the host, seen at the channel that is watched: what it does to the number recorded.
-- Assumes nothing.
use mathlib.Core.Path.{◌≡◌, refl, sym, ap, ◌∙◌, subst}
use mathlib.Core.Bool.{true, false≢true}
use mathlib.Core.List.{List}
use Prim.Native.Nat.{ℕ, ◌<◌}
use native.Mathlib.Omega.{arith}
use borrow.Author.Tests.{ne_eqb}
use lib.Dec.{ltb, eqb}
use lib.ListN.{length}
use Rattle.laws.proofs.Choice.{either, passed_by}
use Rattle.packet.specs.declared.kinds.Kind as packets
use Rattle.packet.specs.declared.kinds.Kind.TheVariants as kinds
use Rattle.packet.specs.declared.fields.Fields.{Fields}
use Rattle.packet.specs.Kinds.{kind_of}
use Rattle.packet.specs.Layout.{fields_at, length_at, payload_in}
use Rattle.channel.specs.declared.record.Addresses.{Addresses}
use Rattle.channel.specs.declared.record.Channel.{Channel}
use Rattle.channel.specs.declared.answer.Refusal.TheVariants as refusal
use Rattle.channel.specs.declared.step.Stepped.{Stepped}
use Rattle.channel.specs.declared.step.Ticked.{Ticked}
use Rattle.channel.specs.Record.{sends, receives}
use Rattle.channel.specs.Steps.{refusing}
use Rattle.channel.specs.Flow.{flows}
use Rattle.channel.specs.Pairs.{filed}
use Rattle.table.specs.Waiting.{rank_in}
use Rattle.table.specs.declared.looking.Look.{Look}
use Rattle.table.specs.declared.looking.Sought.TheVariants as sought
use Rattle.table.specs.declared.looking.Sought.TheVariants.{Index, Question, Nobody}
use Rattle.table.specs.Looking.{seeking, looks_for, same, chosen as choice}
use Rattle.table.specs.Serving.{alone}
use Rattle.table.proofs.OneLaws.{kind_finds}
use Rattle.requests.specs.Requests.{opened_by, closed_by, asked_by, take_for, transfer_for, reclaim_for}
use Rattle.requests.specs.Handing.{next_for}
use Rattle.requests.proofs.RequestLaws.{opened_sends, closed_sends}
use Rattle.arrivals.specs.Arriving.{arrive_as, arrive_by, arrival_for}
use Rattle.arrivals.specs.Data.{reply_length, unfit}
use Rattle.arrivals.specs.Finding.{look_of, prefix_read}
use Rattle.arrivals.proofs.FindLaws.{found_packet}
use Rattle.ticks.proofs.TickLaws.{tick_sends}
use Rattle.keeps.specs.Keeping.{Given}
use Rattle.keeps.proofs.Alone.{asked_served}
use Rattle.keeps.proofs.StepsKeep.{open_keeps, close_keeps, take_keeps, reclaim_keeps, next_keeps, arrival_keeps, given_ready}
use Rattle.keeps.proofs.CallsAlone.{shapes, transfer_shapes}
use Rattle.keeps.proofs.DoorKeeps.{question_keeps, unknown_keeps}
use Rattle.protocol.specs.Sending.{Sender}
use Rattle.protocol.specs.Receiving.{Receiver}
use Rattle.delivery.specs.Calls.{End, Kind, opens, closes, transfers, asks, takes, reclaims, hands, arrives, strays, ticks, Request, called_by, called, channel_of}
use Rattle.delivery.specs.History.{Event, names}
use Rattle.delivery.proofs.Nodes.{end_with, same_limits}
use Rattle.delivery.proofs.Own.{View, Seen, Left, own_cases}
use Rattle.delivery.proofs.Packets.{names_so}
use Rattle.delivery.proofs.Replies.{arrival_framed}
use Rattle.delivery.proofs.Handed.{hand_cases}
use Rattle.delivery.proofs.Ticked.{tick_seen}
use Rattle.delivery.proofs.HostRequests.{by_name, by_index}
use Rattle.delivery.proofs.HostNow.{HostAt, own, octets, lengths, own_below, own_addresses, own_sends, asked}
use Rattle.room.proofs.HostFlow.{Flows, unchanged, open_flows, close_flows, transfer_flows, reclaim_flows, tick_flows, hand_flows, beat_flows, beat_ack_flows, data_ack_flows, control_ack_flows, flow_flows}

module _ {h s : End} {past : List Event} {x : Sender} {y : Receiver} {t : List Channel} {mem lens lines : List ℕ} {n : ℕ}
    (k : HostAt h s past x y t mem lens lines n) (used : flows (channel_of h).limits ≡ true) (r : Request) where
  abbrev pub Flowing : View
  Flowing a o c m l = Flows h r (own k) c

  abbrev u : List ℕ
  u = r.octets

  abbrev b : List ℕ
  b = r.buffer

  stays : Flows h r (own k) (own k)
  stays = unchanged h r (own k)

  opening : Seen Flowing h.index (called_by opens (end_with h t mem lens lines n) r)
  opening =
      by_index k Flowing r.channel (alone opened_by) b (shapes (seeking (Index r.channel)) (alone opened_by) b (open_keeps (seeking (Index r.channel)) b)) (λ a o e. stays)
      (λ at rank. subst (λ (w : Stepped). Flows h r (own k) w.channel) (sym (opened_sends (own k) (own_sends k))) (open_flows h r (own k)))

  closing : Seen Flowing h.index (called_by closes (end_with h t mem lens lines n) r)
  closing =
      by_index k Flowing r.channel (alone closed_by) b (shapes (seeking (Index r.channel)) (alone closed_by) b (close_keeps (seeking (Index r.channel)) b)) (λ a o e. stays)
      (λ at rank. subst (λ (w : Stepped). Flows h r (own k) w.channel) (sym (closed_sends (own k) (own_sends k))) (close_flows h r (own k)))

  transferring : Seen Flowing h.index (called_by transfers (end_with h t mem lens lines n) r)
  unfolding transfer_for
  transferring =
      by_index k Flowing r.channel (transfer_for u) b (transfer_shapes (seeking (Index r.channel)) u b) (λ a o e. stays)
      (λ at rank. either (Left Flowing) (eqb (own k).addresses.direction sends) _ _ (transfer_flows h r (own k) (length (filed (own k).limits u))) stays)

  asking_one : Seen Flowing h.index (called_by asks (end_with h t mem lens lines n) r)
  unfolding asked_by
  asking_one =
      by_name k (seeking (Question r.channel)) Flowing r.channel (asked_served r.channel) (alone (asked_by (length u))) b
      (shapes (seeking (Question r.channel)) (alone (asked_by (length u))) b (question_keeps (seeking (Question r.channel)) (length u) b)) (λ a o e. stays)
      (λ at rank. stays)

  -- a sender gives no unit
  taking : Seen Flowing h.index (called_by takes (end_with h t mem lens lines n) r)
  unfolding take_for
  taking =
      by_index k Flowing r.channel take_for b (shapes (seeking (Index r.channel)) take_for b (take_keeps (seeking (Index r.channel)) b)) (λ a o e. stays)
      (λ at rank.
      subst (Left Flowing) (sym (passed_by (eqb (own k).addresses.direction receives) _ _ (ne_eqb (own k).addresses.direction receives (λ q. omega (arith, q, own_sends k))))) stays)

  reclaiming : Seen Flowing h.index (called_by reclaims (end_with h t mem lens lines n) r)
  unfolding reclaim_for
  reclaiming =
      by_index k Flowing r.channel reclaim_for b (shapes (seeking (Index r.channel)) reclaim_for b (reclaim_keeps (seeking (Index r.channel)) b)) (λ a o e. stays)
      (λ at rank. either (Left Flowing) (eqb (own k).addresses.direction sends) _ _ (reclaim_flows h r (own k) (lengths k) (length b)) stays)

  straying : Seen Flowing h.index (called_by strays (end_with h t mem lens lines n) r)
  straying =
      own_cases (seeking (Nobody refusal.NoChannel)) (alone (λ c. refusing c refusal.NoChannel)) t mem lens lines b
      (shapes (seeking (Nobody refusal.NoChannel)) (alone (λ c. refusing c refusal.NoChannel)) b (unknown_keeps (seeking (Nobody refusal.NoChannel)) b)) h.index (own_below k) Flowing
      (λ why. stays) (λ j there apart at g. stays) (λ at g. stays)

  handing : Seen Flowing h.index (called_by hands (end_with h t mem lens lines n) r)
  handing =
      own_cases (seeking sought.Ready) (next_for h.node) t mem lens lines b (shapes (seeking sought.Ready) (next_for h.node) b (next_keeps h.node b)) h.index (own_below k) Flowing
      (λ why. stays) (λ j there apart at g. stays)
      (λ at g.
      let ready = given_ready h.index _ (own k) _ _ g in
      hand_cases h.node (own k) (octets k) (lengths k) (asked k) (rank_in (choice (seeking sought.Ready) lines t).grade) ready (Left Flowing) b stays
      (λ z o carries. hand_flows h r (own k) (rank_in (choice (seeking sought.Ready) lines t).grade) ready))

  ticking_one : Seen Flowing h.index (called_by ticks (end_with h t mem lens lines n) r)
  ticking_one =
      tick_seen Flowing t mem lens lines h.index (own_below k) stays
      (subst (Flows h r (own k)) (sym (ap (λ (z : Ticked). z.channel) (tick_sends (own k) (own_sends k)))) (tick_flows h r (own k)))

  -- ---- an arrival

  abbrev look : Look
  look = look_of h.node u (length b)

  module _ (is : r.kind ≡ arrives) (rank : ℕ) (g : Given look h.index rank (own k) (octets k) (lengths k)) where
    abbrev f : Fields
    f = fields_at u

    ours : same (own k).addresses f (length_at u) (prefix_read u) ≡ true
    ours = (arrival_framed h.node u b h.index rank (own k) (octets k) (lengths k) g).ours

    named : names h u ≡ true
    named =
        let q = found_packet h.node u (length b) g.lines h.index (own k) (subst (λ (z : ℕ). z < 48) g.suits g.found) in
        names_so h u q.1 q.2 (subst (λ (a : Addresses). same a f (length_at u) (prefix_read u) ≡ true) (own_addresses k) ours)

    looks : (kind : packets.Kind) → kind_of f.kind ≡ kind → looks_for kind (length_at u) sends ≡ true
    looks kind e = ap (looks_for kind (length_at u)) (sym (own_sends k)) ∙ kind_finds (own k).addresses f (length_at u) (prefix_read u) kind ours e

    uses : flows (own k).limits ≡ true
    uses = ap flows (same_limits h t mem lens k.now.kept h.index) ∙ used

    by_kind : (kind : packets.Kind) → kind_of f.kind ≡ kind → Left Flowing (arrive_as kind h.node f (payload_in u) (own k) rank (octets k) (lengths k) b)
    by_kind kinds.DataAck e = data_ack_flows h r (own k) uses (is, named) e f.number
    by_kind kinds.ControlAck e = control_ack_flows h r (own k) uses (is, named) e f.number
    by_kind kinds.HeartbeatAck e = beat_ack_flows h r (own k) f.number
    by_kind kinds.Heartbeat e = beat_flows h r (own k) f.number
    by_kind kinds.FlowControl e =
        subst (Left Flowing) (sym (passed_by (eqb (own k).addresses.direction receives) _ _ (ne_eqb (own k).addresses.direction receives (λ q. omega (arith, own_sends k, q)))))
        (flow_flows h r (own k) uses (is, named) e f.number)
    by_kind kinds.Data e = absurd (false≢true (looks kinds.Data e))
    by_kind kinds.Open e = absurd (false≢true (looks kinds.Open e))
    by_kind kinds.Close e = absurd (false≢true (looks kinds.Close e))
    by_kind (kinds.Lacking code) e = absurd (false≢true (looks (kinds.Lacking code) e))

    own_arrival : Left Flowing (arrival_for h.node u (own k) rank (octets k) (lengths k) b)
    unfolding arrival_for arrive_by
    own_arrival =
        either (Left Flowing) (ltb (length b) (reply_length (own k) (kind_of f.kind) (length_at u))) _ _ stays
        (either (Left Flowing) (unfit (own k) f (length_at u)) _ _ stays (by_kind (kind_of f.kind) refl))

  arriving : r.kind ≡ arrives → Seen Flowing h.index (called_by arrives (end_with h t mem lens lines n) r)
  arriving is =
      own_cases look (arrival_for h.node u) t mem lens lines b (shapes look (arrival_for h.node u) b (arrival_keeps h.node u b)) h.index (own_below k) Flowing
      (λ why. stays) (λ j there apart at g. stays) (λ at g. own_arrival is _ g)

  by_call : (kind : Kind) → r.kind ≡ kind → Seen Flowing h.index (called_by kind (end_with h t mem lens lines n) r)
  by_call opens e = opening
  by_call closes e = closing
  by_call transfers e = transferring
  by_call asks e = asking_one
  by_call takes e = taking
  by_call reclaims e = reclaiming
  by_call hands e = handing
  by_call arrives e = arriving e
  by_call strays e = straying
  by_call ticks e = ticking_one

  pub host_flows : Seen Flowing h.index (called (end_with h t mem lens lines n) r)
  host_flows = by_call r.kind refl
