-- An arrival at the host: a Data Ack for the channel that is watched is the protocol's, a Control Ack moves its phase, a Heartbeat and its Ack are
-- nothing to the protocol, and what else is for another channel does not name this one.
-- Assumes nothing.
use mathlib.Core.Path.{◌≡◌, refl, sym, ap, ◌∙◌, subst}
use mathlib.Core.Bool.{Bool, true, false, true≢false, false≢true}
use mathlib.Core.List.{List}
use Prim.Native.Nat.{ℕ, ◌+◌, ◌≤◌, ◌<◌}
use native.Mathlib.Omega.{arith}
use borrow.Author.Tests.{ne_eqb, ltb-true, ltb-false}
use lib.Dec.{ltb, eqb}
use lib.ListN.{length}
use Rattle.std.specs.Prelude.{if◌then◌else◌}
use Rattle.laws.proofs.Choice.{either, either_way, chosen, passed_by}
use Rattle.packet.specs.declared.kinds.Kind as packets
use Rattle.packet.specs.declared.kinds.Kind.TheVariants as packet-kind
use Rattle.packet.specs.Kinds.{kind_of}
use Rattle.packet.specs.declared.fields.Fields.{Fields}
use Rattle.packet.specs.Layout.{least, fields_at, prefix_at, length_at, payload_at, payload_in}
use Rattle.channel.specs.declared.record.Node.{Node}
use Rattle.channel.specs.declared.record.Addresses.{Addresses}
use Rattle.channel.specs.declared.record.Pulse.{Pulse}
use Rattle.channel.specs.declared.record.Channel.{Channel}
use Rattle.channel.specs.declared.answer.Answer.{Answer}
use Rattle.channel.specs.declared.answer.Answer.TheVariants.{Refused}
use Rattle.channel.specs.declared.step.Stepped.{Stepped}
use Rattle.channel.specs.Answers.{number_of, confirmed_of}
use Rattle.channel.specs.declared.answer.Refusal.TheVariants as refusal
use Rattle.channel.specs.Record.{sends, receives, with_pulse}
use Rattle.channel.specs.Steps.{refusing}
use Rattle.channel.specs.Pulse.{heartbeat_step, heartbeat_ack_step}
use Rattle.channel.specs.Flow.{flow_step, flow_ack_step}
use Rattle.receiver.specs.declared.acks.Acked.{Acked}
use Rattle.receiver.specs.declared.acks.Acked.TheVariants as acked
use Rattle.receiver.specs.Receiving.{carrying}
use Rattle.walks.specs.Serving.{Worked, works}
use Rattle.sender_acks.specs.Acks.{control_ack_step, data_ack_step}
use Rattle.sender_acks.specs.Stated.{data_ack_stated, control_ack_stated}
use Rattle.ends.proofs.Stated.{data_pulse, control_pulse, data_stated, control_stated}
use Rattle.table.specs.Waiting.{rank_in}
use Rattle.table.specs.declared.looking.Look.{Look}
use Rattle.table.specs.Looking.{looks_for, same, graded, chosen as choice}
use Rattle.table.proofs.OneLaws.{kind_finds}
use Rattle.table.specs.Serving.{record_at}
use Rattle.arrivals.specs.Arriving.{stated_in, six_for, arrive_as, arrive_by, arrival_for, Framed}
use Rattle.arrivals.specs.Replying.{replied_by, acknowledging, replying}
use Rattle.arrivals.specs.Finding.{look_of, prefix_read}
use Rattle.arrivals.specs.Data.{reply_length, unfit_as, unfit}
use Rattle.arrivals.proofs.DataLaws.{fit_as}
use Rattle.arrivals.proofs.ArriveLaws.{framed, by_small, by_unfit, by_kind}
use Rattle.arrivals.proofs.FindLaws.{found_packet}
use Rattle.node.specs.declared.request.Request.TheVariants.{Arrival}
use Rattle.node.specs.Calls.{served}
use Rattle.keeps.specs.Keeping.{Given}
use Rattle.keeps.proofs.StepsKeep.{arrival_keeps}
use Rattle.keeps.proofs.CallsAlone.{shapes}
use Rattle.protocol.specs.Numbers.{number_at, distance}
use Rattle.protocol.specs.Ends.{Limits, is_open}
use Rattle.protocol.specs.Sending as sending
use Rattle.protocol.specs.Sending.{Sender, SenderCall, sender_step, acknowledged}
use Rattle.protocol.specs.Receiving.{Receiver}
use Rattle.protocol.specs.History as protocol
use Rattle.ends.proofs.SenderCases.{control_ack_cases}
use Rattle.ends.proofs.PulseCases.{heartbeat_cases, heartbeat_ack_cases, flow_cases, flow_ack_cases}
use Rattle.means.proofs.Sends.{Sends, open_state, state_opened}
use Rattle.means.proofs.SenderControl.{stays, control_ack_sends, pulse_sender_moves}
use Rattle.means.proofs.Pulses.{pulse_sends, heartbeat_sends, heartbeat_ack_sends, flow_sends}
use Rattle.means.proofs.SenderAcks.{ack_sends, ack_near}
use Rattle.delivery.specs.Calls.{End, arrives, Request, channel_of}
use Rattle.delivery.specs.History.{Event, names, is_free, binds, IsDataAck, Replied, confirmed}
use Rattle.delivery.specs.Delivery.{NotLate}
use Rattle.delivery.proofs.Nodes.{end_with}
use Rattle.delivery.proofs.Known.{limits}
use Rattle.delivery.proofs.HostFrame.{host_event, host_next}
use Rattle.delivery.proofs.Own.{Seen, Left, own_cases}
use Rattle.delivery.proofs.Packets.{named_is, names_so, binds_so, same_rivals}
use Rattle.delivery.proofs.HostNow.{HostAt, asking, own, octets, lengths, own_below, own_addresses, own_sends, own_limits, asked, small, alone_here, index_for, Next, waits_on, stays_so, counts, was_open, moves_on}

-- ---- what a packet that is found a channel has shown

-- a Control Ack confirms nothing
control_confirms : (c : Channel) (number : ℕ) → confirmed_of (control_ack_step c number).answer ≡ 0
control_confirms c number =
    control_ack_cases c (λ (s : Stepped). confirmed_of s.answer ≡ 0) number refl refl (λ e. refl) (λ e. refl) (λ e. refl)

-- nor does a Heartbeat or its Ack
heartbeat_confirms : (c : Channel) → confirmed_of (heartbeat_step c).answer ≡ 0
heartbeat_confirms c = heartbeat_cases c (λ (s : Stepped). confirmed_of s.answer ≡ 0) refl (λ e. refl)

heartbeat_ack_confirms : (c : Channel) (number : ℕ) → confirmed_of (heartbeat_ack_step c number).answer ≡ 0
heartbeat_ack_confirms c number = heartbeat_ack_cases c (λ (s : Stepped). confirmed_of s.answer ≡ 0) refl number refl (λ e. refl)

flow_confirms : (c : Channel) (number : ℕ) → confirmed_of (flow_step c number).answer ≡ 0
flow_confirms c number = flow_cases c (λ (s : Stepped). confirmed_of s.answer ≡ 0) refl number (λ e. refl)

flow_ack_confirms : (c : Channel) (number : ℕ) → confirmed_of (flow_ack_step c number).answer ≡ 0
flow_ack_confirms c number = flow_ack_cases c (λ (s : Stepped). confirmed_of s.answer ≡ 0) refl number refl (λ e. refl)

beats_confirm : (node : Node) (u : List ℕ) (c : Channel) (rank : ℕ) (mem lens out : List ℕ) → is_free (kind_of (fields_at u).kind) ≡ true
    → confirmed_of (arrival_for node u c rank mem lens out).made.answer ≡ 0
unfolding arrival_for arrive_by
beats_confirm node u c rank mem lens out = go (ltb (length out) (reply_length c (kind_of f.kind) (length_at u))) (unfit c f (length_at u)) (kind_of f.kind)
  where
    f : Fields
    f = fields_at u

    go : (small over : Bool) (kind : packets.Kind) → is_free kind ≡ true
        → confirmed_of
        (if small then works (refusing c (refusal.Small (reply_length c kind (length_at u)))) mem lens out
        else if over then works (refusing c refusal.Strange) mem lens out
        else arrive_as kind node f (payload_in u) c rank mem lens out).made.answer
        ≡ 0
    go true over kind e = refl
    go false true kind e = refl
    go false false packet-kind.Heartbeat e = heartbeat_confirms c
    go false false packet-kind.HeartbeatAck e = heartbeat_ack_confirms c f.number
    go false false packet-kind.FlowControl e =
        either (λ (z : Worked Stepped). confirmed_of z.made.answer ≡ 0) (eqb c.addresses.direction receives) _ _ (flow_ack_confirms c f.number) (flow_confirms c (stated_in (payload_in u)))
    go false false packet-kind.Data e = absurd (false≢true e)
    go false false packet-kind.DataAck e = absurd (false≢true e)
    go false false packet-kind.Open e = absurd (false≢true e)
    go false false packet-kind.Close e = absurd (false≢true e)
    go false false packet-kind.ControlAck e = absurd (false≢true e)
    go false false (packet-kind.Lacking code) e = absurd (false≢true e)

-- ---- what the protocol's ack leaves

module _ (L : Limits) (x : Sender) where
  acked_phase : (o w : Bool) (i : ℕ) → (acknowledged L o w x i).0.phase ≡ x.phase
  acked_phase false w i = refl
  acked_phase true false i = refl
  acked_phase true true i = refl

  -- the start moves in OPEN alone
  acked_still : (o w : Bool) (i : ℕ) → (o ≡ true → ⊥) → x.start ≡ (acknowledged L o w x i).0.start
  acked_still false w i e = refl
  acked_still true w i e = absurd (e refl)

  -- a refusal has no count
  acked_count : (o w : Bool) (i m : ℕ) → (if protocol.done (acknowledged L o w x i).1 then m + (acknowledged L o w x i).1.count else m) ≡ m + (acknowledged L o w x i).1.count
  acked_count false w i m = omega arith
  acked_count true false i m = omega arith
  acked_count true true i m = refl

module _ {h s : End} {past : List Event} {x : Sender} {y : Receiver} {t : List Channel} {mem lens lines : List ℕ} {n : ℕ}
    (k : HostAt h s past x y t mem lens lines n) (copy i : ℕ) (u b : List ℕ) where
  abbrev request : Request
  request = asking arrives i u b

  -- what the link must have shown
  abbrev pub FairReply : Type 0
  FairReply = binds h u ≡ true → Replied s past copy u × (IsDataAck u → NotLate (end_with h t mem lens lines n) copy)

  confirms : (m : ℕ) (v : Bool) → (v ≡ true → m ≡ 0) → (if v then confirmed h past + m else confirmed h past) ≡ confirmed h past
  confirms m true e = omega (arith, e refl)
  confirms m false e = refl

  arrive_quiet : (a : Answer) (o : List ℕ) → (names h u ≡ true → confirmed_of a ≡ 0) → Next k request copy a o (own k) (octets k) (lengths k)
  arrive_quiet a o e = stays_so k request copy a o refl (confirms (confirmed_of a) (names h u) e) refl (λ packet q. absurd (true≢false (sym q)))

  -- ---- for another channel

  abbrev looked : Look
  looked = look_of h.node u (length b)

  told : (j : ℕ) (c : Channel) (r : ℕ) (m l : List ℕ) → Given looked j r c m l → Framed c (fields_at u) (payload_at (prefix_at u)) (length_at u) u b
  told j c r m l g =
      let suits = subst (λ (z : ℕ). z < 48) g.suits g.found in
      framed h.node u b g.lines j c looked (fields_at u) (payload_at (prefix_at u)) (length_at u) refl suits
      (ap (λ (l : Look). l.sought) (found_packet h.node u (length b) g.lines j c suits).3)

  arrive_elsewhere : (j : ℕ) → j < length t → (j ≡ h.index → ⊥) → (r : ℕ) (m l : List ℕ) → Given looked j r (record_at t j) m l
      → let v = arrival_for h.node u (record_at t j) r m l b in
      Next k request copy v.made.answer v.out (own k) (octets k) (lengths k)
  arrive_elsewhere j there apart r m l g =
      arrive_quiet _ _
      (λ named.
      either_way (is_free (kind_of (fields_at u).kind)) (λ e. beats_confirm h.node u (record_at t j) r m l b e)
      (λ e.
      absurd (alone_here k j there apart
      (same_rivals (record_at t j).addresses (channel_of h).addresses (fields_at u) (length_at u) (prefix_read u) e (told j (record_at t j) r m l g).ours (named_is h u named).same))))

  -- ---- for its own

  abbrev number : ℕ
  number = (fields_at u).number

  ack_own : (p : Pulse) → names h u ≡ true → IsDataAck u → Replied s past copy u → NotLate (end_with h t mem lens lines n) copy
      → Next k request copy (data_ack_step (own k) number).answer b (with_pulse (data_ack_step (own k) number).channel p) (octets k) (lengths k)
  ack_own p named kind replied late =
      let a = (data_ack_step (own k) number).answer in
      let c = with_pulse (data_ack_step (own k) number).channel p in
      let call = SenderCall.ack copy number in
      let L = limits h s in
      let before = subst Acked (own_limits k) (
        ack_sends (own k) (octets k) (lengths k) x (asked k) (own_sends k) k.now.means number copy,
        ack_near (own k) (octets k) (lengths k) x (asked k) (own_sends k) k.now.means number copy,
      )
      in
      let z = (sender_step L x call).0 in
      let means = pulse_sends (data_ack_step (own k) number).channel (octets k) (lengths k) z p before.0.0 in
      let d = distance number (number_at x.start) in
      let o = is_open x.phase in
      let v = sending.is_awaited L x d in
      let phase = acked_phase L x o v (x.start + d) in
      let window = ap (λ (l : Limits). l.window) (own_limits k) in
      host_next h s past y x k.inv k.numbered (small k) request copy n (index_for k request) a b call (
        record { packet = u; replied = replied; named = named; is_ack = kind },
        k.numbered.back copy u replied named kind,
        omega (arith, late, k.now.counted, window),
      )
      (refl, named, kind, refl, k.numbered.back copy u replied named kind)
      refl
      (chosen (names h u) (confirmed h past + confirmed_of a) (confirmed h past) named
      ∙ ap (λ (m : ℕ). confirmed h past + m) before.0.2
      ∙ sym (acked_count L x o v (x.start + d) (confirmed h past)))
      refl
      (λ j packet q. absurd (true≢false (sym q)))
      (own k) c (octets k) (lengths k) means
      (counts k c (octets k) (lengths k) z means before.1.0 (let e = before.1.1 in omega (arith, e)) (was_open k phase)
      (λ q. acked_still L x o v (x.start + d) (λ e. q (phase ∙ state_opened x.phase (open_state x.phase e)))))
      (λ q. phase ∙ waits_on k (host_event request copy n (index_for k request) a b) q)
    where
      Acked : Limits → Type 0
      Acked L =
          let r = sender_step L x (SenderCall.ack copy number) in
          (Sends (data_ack_step (own k) number).channel (octets k) (lengths k) r.0
          × (number_of (data_ack_step (own k) number).answer ≡ r.1.number)
          × (confirmed_of (data_ack_step (own k) number).answer ≡ r.1.count))
          × ((x.start ≤ r.0.start) × (r.0.start ≤ x.start + 128))

  abbrev m : ℕ
  m = stated_in (payload_in u)

  -- what the Ack states moves the pulse alone
  ack_stated_own : names h u ≡ true → IsDataAck u → Replied s past copy u → NotLate (end_with h t mem lens lines n) copy
      → Left (Next k request copy) (works (data_ack_stated (own k) number m) (octets k) (lengths k) b)
  ack_stated_own named kind replied late =
      subst (λ (z : Stepped). Left (Next k request copy) (works z (octets k) (lengths k) b)) (sym (data_stated (own k) number m)) (ack_own (data_pulse (own k) number m) named kind replied late)

  control_ack_own : Left (Next k request copy) (works (control_ack_stated (own k) number m) (octets k) (lengths k) b)
  control_ack_own =
      let a = (control_ack_step (own k) number).answer in
      let p = control_pulse (own k) number m in
      let moved = control_ack_sends (own k) (octets k) (lengths k) x (asked k) (own_sends k) k.now.means number in
      subst (λ (z : Stepped). Left (Next k request copy) (works z (octets k) (lengths k) b)) (sym (control_stated (own k) number m))
      (moves_on k request copy a b refl (confirms (confirmed_of a) (names h u) (λ _. control_confirms (own k) number)) refl refl
      (with_pulse (control_ack_step (own k) number).channel p)
      (pulse_sender_moves (own k) (control_ack_step (own k) number).channel (octets k) (lengths k) x p moved))

  -- a step with its reply that moves the pulse alone: the record means the same
  beside_own : (of : Acked) (step : Stepped) → confirmed_of step.answer ≡ 0 → Sends step.channel (octets k) (lengths k) x
      → Left (Next k request copy) (replying h.node (own k) of number step (octets k) (lengths k) b)
  beside_own of step none same =
      moves_on k request copy step.answer (replied_by step.answer h.node (own k).addresses of number (carrying of (own k).limits step.channel.window) b) refl
      (confirms (confirmed_of step.answer) (names h u) (λ _. none)) refl refl
      (acknowledging number step).channel
      (stays _ (octets k) (lengths k) x (own k) (pulse_sends step.channel (octets k) (lengths k) x (acknowledging number step).channel.pulse same))

  -- a Heartbeat, with its reply, and the Ack of one
  beat_own : Left (Next k request copy) (replying h.node (own k) acked.Heartbeat number (heartbeat_step (own k)) (octets k) (lengths k) b)
  beat_own = beside_own acked.Heartbeat (heartbeat_step (own k)) (heartbeat_confirms (own k)) (heartbeat_sends (own k) (octets k) (lengths k) x k.now.means)

  beat_ack_own : Next k request copy (heartbeat_ack_step (own k) number).answer b (heartbeat_ack_step (own k) number).channel (octets k) (lengths k)
  beat_ack_own =
      let a = (heartbeat_ack_step (own k) number).answer in
      moves_on k request copy a b refl (confirms (confirmed_of a) (names h u) (λ _. heartbeat_ack_confirms (own k) number)) refl refl
      (heartbeat_ack_step (own k) number).channel
      (stays _ (octets k) (lengths k) x (own k) (heartbeat_ack_sends (own k) (octets k) (lengths k) x k.now.means number))

  -- Flow Control
  flow_own : Left (Next k request copy) (six_for h.node number m (own k) (octets k) (lengths k) b)
  flow_own =
      subst (Left (Next k request copy)) (sym (passed_by (eqb (own k).addresses.direction receives) _ _ (ne_eqb (own k).addresses.direction receives (λ e. omega (arith, own_sends k, e)))))
      (beside_own acked.Flow (flow_step (own k) m) (flow_confirms (own k) m) (flow_sends (own k) (octets k) (lengths k) x k.now.means m))

  arrive_own : FairReply → (r : ℕ) → Given looked h.index r (own k) (octets k) (lengths k)
      → Left (Next k request copy) (arrival_for h.node u (own k) r (octets k) (lengths k) b)
  unfolding arrival_for
  arrive_own fair r g = as_kind (kind_of (fields_at u).kind) refl
    where
      f : Fields
      f = fields_at u

      suits : graded looked g.lines h.index (own k) < 48
      suits = subst (λ (z : ℕ). z < 48) g.suits g.found

      ours : same (own k).addresses f (length_at u) (prefix_read u) ≡ true
      ours = (told h.index (own k) r (octets k) (lengths k) g).ours

      named : names h u ≡ true
      named =
          let q = found_packet h.node u (length b) g.lines h.index (own k) suits in
          names_so h u q.1 q.2 (subst (λ (a : Addresses). same a f (length_at u) (prefix_read u) ≡ true) (own_addresses k) ours)

      looks : (kind : packets.Kind) → kind_of f.kind ≡ kind → looks_for kind (length_at u) sends ≡ true
      looks kind is = ap (looks_for kind (length_at u)) (sym (own_sends k)) ∙ kind_finds (own k).addresses f (length_at u) (prefix_read u) kind ours is

      -- no reply is due to an Ack, so what was asked for first is enough
      least_room : least ≤ length b
      least_room = (told h.index (own k) r (octets k) (lengths k) g).room

      Result : Type 0
      Result = Left (Next k request copy) (arrive_by h.node f (length_at u) (payload_in u) (own k) r (octets k) (lengths k) b)

      -- what the channel cannot take is refused, and what it can is taken by its kind
      fitting : (kind : packets.Kind) → kind_of f.kind ≡ kind → reply_length (own k) kind (length_at u) ≤ length b
          → (unfit_as kind (own k) (length_at u) ≡ false → Left (Next k request copy) (arrive_as kind h.node f (payload_in u) (own k) r (octets k) (lengths k) b)) → Result
      fitting kind is room next =
          let enough = subst (λ (z : packets.Kind). reply_length (own k) z (length_at u) ≤ length b) (sym is) room in
          either_way (unfit_as kind (own k) (length_at u))
          (λ e.
          subst (Left (Next k request copy)) (sym (by_unfit h.node f (length_at u) (payload_in u) (own k) r (octets k) (lengths k) b enough (fit_as (own k) f (length_at u) kind is ∙ e)))
          (arrive_quiet _ b (λ _. refl)))
          (λ e.
          subst (Left (Next k request copy)) (sym (by_kind h.node f (length_at u) (payload_in u) (own k) r (octets k) (lengths k) b enough (fit_as (own k) f (length_at u) kind is ∙ e) kind is))
          (next e))

      -- with room for its reply
      answered : (kind : packets.Kind) → kind_of f.kind ≡ kind
          → (unfit_as kind (own k) (length_at u) ≡ false → Left (Next k request copy) (arrive_as kind h.node f (payload_in u) (own k) r (octets k) (lengths k) b)) → Result
      answered kind is next =
          either_way (ltb (length b) (reply_length (own k) kind (length_at u)))
          (λ e.
          subst (Left (Next k request copy))
          (sym (by_small h.node f (length_at u) (payload_in u) (own k) r (octets k) (lengths k) b kind is (ltb-true _ _ e)))
          (arrive_quiet _ b (λ _. refl)))
          (λ e. fitting kind is (ltb-false _ _ e) next)

      -- a sender is looked for by Acks, by Heartbeats, and by Flow Control
      as_kind : (kind : packets.Kind) → kind_of f.kind ≡ kind → Result
      as_kind packet-kind.DataAck is =
          let w = fair (binds_so h u packet-kind.DataAck is refl named) in
          fitting packet-kind.DataAck is least_room (λ _. ack_stated_own named is w.0 (w.1 is))
      as_kind packet-kind.ControlAck is = fitting packet-kind.ControlAck is least_room (λ _. control_ack_own)
      as_kind packet-kind.HeartbeatAck is = fitting packet-kind.HeartbeatAck is least_room (λ _. beat_ack_own)
      as_kind packet-kind.Heartbeat is = answered packet-kind.Heartbeat is (λ _. beat_own)
      as_kind packet-kind.FlowControl is = answered packet-kind.FlowControl is (λ _. flow_own)
      as_kind packet-kind.Data is = absurd (false≢true (looks packet-kind.Data is))
      as_kind packet-kind.Open is = absurd (false≢true (looks packet-kind.Open is))
      as_kind packet-kind.Close is = absurd (false≢true (looks packet-kind.Close is))
      as_kind (packet-kind.Lacking code) is = absurd (false≢true (looks (packet-kind.Lacking code) is))

  pub host_arrives : FairReply → Seen (Next k request copy) h.index (served t mem lens lines (Arrival h.node) u b)
  host_arrives fair =
      own_cases looked (arrival_for h.node u) t mem lens lines b (shapes looked (arrival_for h.node u) b (arrival_keeps h.node u b)) h.index (own_below k)
      (Next k request copy)
      (λ why. arrive_quiet (Refused why) b (λ _. refl))
      (λ j there apart at g. arrive_elsewhere j there apart _ _ _ g)
      (λ at g. arrive_own fair (rank_in (choice looked lines t).grade) g)
