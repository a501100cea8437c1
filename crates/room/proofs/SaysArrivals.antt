-- What the subscriber tells the host by the reply to an arrival.
-- Assumes nothing.
use mathlib.Core.Path.{◌≡◌, refl, sym, ap, ◌∙◌, subst}
use mathlib.Core.Bool.{Bool, true, false, true≢false, false≢true, not}
use mathlib.Core.List.{List, []}
use mathlib.Core.Logic.{◌⊎◌, inl, inr, ⊎_elim}
use Prim.Native.Nat.{ℕ, ◌≤◌, ◌<◌}
use native.Mathlib.Omega.{arith}
use borrow.Author.Tests.{ltb-true, ltb-false, eqb-true, eqb-false, eq-eqb}
use lib.Dec.{ltb, eqb}
use lib.ListN.{length, take}
use Rattle.laws.proofs.Choice.{either, either_way, by_test, chosen}
use Rattle.packet.specs.declared.kinds.Kind as packets
use Rattle.packet.specs.declared.kinds.Kind.TheVariants as kinds
use Rattle.packet.specs.Kinds.{kind_of, code_of, carried}
use Rattle.packet.proofs.KindLaws.{kind_back}
use Rattle.packet.specs.declared.fields.Fields.{Fields}
use Rattle.packet.specs.Layout.{fields_at, prefix_at, length_at, payload_at, payload_in}
use Rattle.walks.specs.Serving.{Worked, works}
use Rattle.channel.specs.declared.record.Node.{Node}
use Rattle.channel.specs.declared.record.Addresses.{Addresses}
use Rattle.channel.specs.declared.record.Limits.{Limits}
use Rattle.channel.specs.declared.record.Window.{Window}
use Rattle.channel.specs.declared.record.Channel.{Channel}
use Rattle.channel.specs.declared.answer.Answer.{Answer}
use Rattle.channel.specs.declared.answer.Answer.TheVariants.{Done, Repeated, Inactive, Refused}
use Rattle.channel.specs.declared.answer.Refusal.{Refusal}
use Rattle.channel.specs.declared.answer.Refusal.TheVariants as refusal
use Rattle.channel.specs.declared.step.Stepped.{Stepped}
use Rattle.channel.specs.Record as state
use Rattle.channel.specs.Record.{receives}
use Rattle.channel.specs.Answers.{length_of}
use Rattle.channel.specs.Prefixes.{fit_prefix}
use Rattle.channel.proofs.StandingLaws.{own_fits}
use Rattle.channel.specs.Steps.{refusing, outgoing_length}
use Rattle.channel.specs.Pulse.{heartbeat_step, heartbeat_ack_step}
use Rattle.channel.specs.Flow.{flows, flow_ack_step}
use Rattle.receiver.specs.declared.acks.Acked.{Acked}
use Rattle.receiver.specs.declared.acks.Acked.TheVariants as acked
use Rattle.receiver.specs.Receiving.{ack_kind, carries, carrying, open_arrives, control_step}
use Rattle.receiver_data.specs.Data.{data_step}
use Rattle.receiver_data.proofs.DataLaws.{data_state}
use Rattle.ends.proofs.ReceiverCases.{data_cases, accept_cases}
use Rattle.table.specs.Waiting.{rank_in}
use Rattle.table.specs.declared.looking.Look.{Look}
use Rattle.table.specs.Looking.{same, chosen as choice}
use Rattle.table.proofs.OneLaws.{kind_finds}
use Rattle.table.specs.Serving.{record_at, own_mem, own_lens}
use Rattle.arrivals.specs.Arriving.{arrive_as, arrive_by, arrival_for, Framed}
use Rattle.arrivals.specs.Finding.{look_of, prefix_read}
use Rattle.arrivals.specs.Data.{reply_length, unfit}
use Rattle.arrivals.specs.Replying.{ack_out, replied_by, replies, acknowledging, replying}
use Rattle.arrivals.proofs.ArriveLaws.{by_small, by_unfit, by_kind}
use Rattle.arrivals.proofs.FindLaws.{found_packet}
use Rattle.keeps.specs.Keeping.{Given}
use Rattle.keeps.proofs.StepsKeep.{arrival_keeps}
use Rattle.keeps.proofs.CallsAlone.{shapes}
use Rattle.protocol.specs.Sending.{Sender}
use Rattle.protocol.specs.Receiving.{Receiver}
use Rattle.delivery.specs.Calls.{End, Kind, arrives, code, Request, called_by, index_told}
use Rattle.delivery.specs.History.{subscriber, Event, is, names, Toward}
use Rattle.delivery.proofs.Own.{Seen, Left, own_cases}
use Rattle.delivery.proofs.Nodes.{end_with}
use Rattle.delivery.proofs.Packets.{names_so}
use Rattle.delivery.proofs.Replies.{AsLong, data_long, control_long, heartbeat_long, heartbeat_ack_silent, flow_ack_silent, Acks, ack_written, ack_carries, arrival_framed, arrival_wrote}
use Rattle.delivery.proofs.SubscriberFrame.{subscriber_call}
use Rattle.delivery.proofs.SubscriberEnd.{Stage, below, addresses_are, receiving, not_sending}
use Rattle.room.specs.Order.{wrote_by, is_flow as isSix}
use Rattle.room.proofs.Says.{Says, Saying, says_beside, says_data, says_control, unsaid, other_end, one_stated}

-- ---- the steps that reply: in which state

module _ (c : Channel) (number : ℕ) where
  -- with an Ack the record is left OPEN
  abbrev Open : Stepped → Type 0
  Open s = replies s.answer ≡ true → s.channel.phase.state ≡ state.opened

  data_open : (flags : ℕ) → Open (data_step c number flags)
  data_open flags =
      either_way (eqb c.phase.state state.opened)
      (λ e.
      let o = eqb-true _ _ e in
      data_cases c number flags [] [] [] (λ (s : Stepped) (m l : List ℕ). Open s) (λ q. absurd (false≢true q)) (λ q. absurd (false≢true q)) (λ q. o) (λ q. absurd (false≢true q))
      (λ _ room. accept_cases c _ flags Open (λ q. absurd (false≢true q)) (λ q. o)))
      (λ e. subst Open (sym (data_state c number (eqb-false _ _ e) flags)) (λ q. absurd (false≢true q)))

  open_open : Open (control_step c true number)
  unfolding control_step open_arrives
  open_open =
      either Open (eqb c.phase.state state.closed) _ _ (λ q. absurd (false≢true q))
      (either Open (not (eqb number 0)) _ _ (λ q. absurd (false≢true q))
      (either Open (eqb c.phase.state state.enabled) _ _ (λ q. refl)
      (by_test Open (not (eqb c.phase.state state.opened)) _ _ (λ e q. absurd (false≢true q))
      (λ e. either Open (eqb c.phase.accepted 0) _ _ (λ q. now (eqb c.phase.state state.opened) refl e) (λ q. absurd (false≢true q))))))
    where
      now : (b : Bool) → eqb c.phase.state state.opened ≡ b → not b ≡ false → c.phase.state ≡ state.opened
      now true e _ = eqb-true _ _ e
      now false e q = absurd (true≢false q)

-- ---- the Ack, with the octets that it carries: it is written with 0 and 15

module _ (node : Node) (a : Addresses) (number : ℕ) (fits : fit_prefix a.own ≡ true) (of : Acked) (l : Limits) (w : Window) (out : List ℕ)
    (room : outgoing_length a (carries of l) ≤ length out) where
  abbrev p : List ℕ
  p = carrying of l w

  -- such a packet, where the answer is r
  abbrev Replied : List ℕ → Answer → Type 0
  Replied packet r = (payload_in packet ≡ p) × Acks node a (ack_kind of) number packet × (replies r ≡ true)

  whole : (k : ℕ) → k ≡ outgoing_length a (carries of l) → (r : Answer) → replies r ≡ true → Replied (take k (ack_out node a of number p out)) r
  whole k e r q =
      subst (λ (k : ℕ). Replied (take k (ack_out node a of number p out)) r) (sym e)
      (ack_carries node a number fits of l w out room, ack_written node a number fits of l w out room, q)

  reply_carries : (r : Answer) → AsLong (outgoing_length a (carries of l)) r
      → (take (length_of r) (replied_by r node a of number p out) ≡ []) ⊎ Replied (take (length_of r) (replied_by r node a of number p out)) r
  reply_carries (Done k u) e = inr (whole k e (Done k u) refl)
  reply_carries (Repeated k) e = inr (whole k e (Repeated k) refl)
  reply_carries (Inactive why) e = inl refl
  reply_carries (Refused why) e = inl refl

-- ---- the arrival

module _ {h s : End} {past : List Event} {x : Sender} {y : Receiver} {t : List Channel} {mem lens lines : List ℕ} {n : ℕ} (w : Stage h s past x y t mem lens lines n)
    (channel : ℕ) (u buffer : List ℕ) (copy : ℕ) where
  abbrev c : Channel
  c = record_at t s.index

  abbrev m : List ℕ
  m = own_mem t s.index mem

  abbrev l : List ℕ
  l = own_lens t s.index lens

  abbrev f : Fields
  f = fields_at u

  abbrev request : Kind → Request
  request kind = record { kind = kind; channel = channel; octets = u; buffer = buffer }

  -- ---- an arrival

  abbrev look : Look
  look = look_of s.node u (length buffer)

  abbrev Made : Worked Stepped → Type 0
  Made v = Left (Saying w (request arrives) copy) v

  -- an arrival writes no Flow Control
  not_six : (packet : List ℕ) → is subscriber (wrote_by (isSix (kind_of (fields_at packet).kind))) (subscriber_call (request arrives) copy) ≡ true
      → kind_of (fields_at packet).kind ≡ kinds.FlowControl → ⊥
  not_six packet e kind = false≢true (subst (λ (k : packets.Kind). is subscriber (wrote_by (isSix k)) (subscriber_call (request arrives) copy) ≡ true) kind e)

  ack_kind_lem : (packet : List ℕ) (a : Addresses) (kind : packets.Kind) (number : ℕ) → carried kind ≡ true → Acks s.node a kind number packet → kind_of (fields_at packet).kind ≡ kind
  ack_kind_lem packet a kind number known k = ap (λ (g : Fields). kind_of g.kind) k.fields ∙ kind_back kind known

  -- ---- for another channel

  module _ (j : ℕ) (there : j < length t) (apart : j ≡ s.index → ⊥) (index : index_told (end_with s t mem lens lines n) (request arrives) ≡ j) where
    abbrev d : Addresses
    d = (record_at t j).addresses

    -- an Ack of Data or Control is a receiver's
    ack_elsewhere : (a : Answer) (o : List ℕ) (kind : packets.Kind) → carried kind ≡ true
        → (code_of kind ≡ code_of kinds.DataAck → d.direction ≡ receives) → (code_of kind ≡ code_of kinds.ControlAck → d.direction ≡ receives)
        → Acks s.node d kind f.number (take (length_of a) o)
        → Saying w (request arrives) copy a o c m l
    ack_elsewhere a o kind known data_ack control k i packet told named =
        let got = subst (Acks s.node d kind f.number) told.1 k in
        let is = ack_kind_lem packet d kind f.number known got in
        let nobody : d.direction ≡ receives → ⊥
        = λ way.
        other_end w (request arrives) copy j there apart (subst (Toward s) index told.2) way packet
        (ap (λ (g : Fields). g.destination) got.fields) (ap (λ (g : Fields). g.channel) got.fields) named
        in
        says_beside s c.limits u packet c (λ e. nobody (data_ack (ap code_of (sym is ∙ e)))) (not_six packet told.0) (λ e. nobody (control (ap code_of (sym is ∙ e))))

    arrives_elsewhere : (rank : ℕ) (m2 l2 : List ℕ) → Given look j rank (record_at t j) m2 l2
        → let v = arrival_for s.node u (record_at t j) rank m2 l2 buffer in
        Saying w (request arrives) copy v.made.answer v.out c m l
    arrives_elsewhere rank m2 l2 g =
        let v = arrival_for s.node u (record_at t j) rank m2 l2 buffer in
        ⊎_elim (λ z. unsaid w (request arrives) copy v.made.answer v.out c m l z)
        (λ z.
        ⊎_elim (λ k. ack_elsewhere v.made.answer v.out k.kind k.known (λ e. absurd (k.other e)) k.receiving k.acks)
        (λ k. ack_elsewhere v.made.answer v.out kinds.DataAck refl (λ _. k.0) (λ _. k.0) k.1) z)
        (arrival_wrote s.node u buffer j rank (record_at t j) m2 l2 g)

  -- ---- for its own

  module _ (used : flows c.limits ≡ true) (rank : ℕ) (g : Given look s.index rank c m l) where
    framed : Framed c f (payload_at (prefix_at u)) (length_at u) u buffer
    framed = arrival_framed s.node u buffer s.index rank c m l g

    for_us : names s u ≡ true
    for_us =
        let q = found_packet s.node u (length buffer) g.lines s.index c (subst (λ (k : ℕ). k < 48) g.suits g.found) in
        names_so s u q.1 q.2 (ap (λ (a : Addresses). same a f (length_at u) (prefix_read u)) (sym (addresses_are w)) ∙ framed.ours)

    -- a step with its reply
    replied : (of : Acked) → outgoing_length c.addresses (carries of c.limits) ≤ length buffer → carried (ack_kind of) ≡ true
        → (step : Stepped) → AsLong (outgoing_length c.addresses (carries of c.limits)) step.answer
        → ((packet : List ℕ) → kind_of (fields_at packet).kind ≡ ack_kind of → payload_in packet ≡ carrying of c.limits step.channel.window → replies step.answer ≡ true
        → Says s c.limits u packet step.channel)
        → Made (replying s.node c of f.number step m l buffer)
    replied of room known step long says =
        let out : List ℕ = replied_by step.answer s.node c.addresses of f.number (carrying of c.limits step.channel.window) buffer in
        let after = (acknowledging f.number step).channel in
        ⊎_elim (λ e. unsaid w (request arrives) copy step.answer out after m l e)
        (λ k i packet told named.
        let got = subst (Acks s.node c.addresses (ack_kind of) f.number) told.1 k.1 in
        let q = says packet (ack_kind_lem packet c.addresses (ack_kind of) f.number known got) (ap payload_in (sym told.1) ∙ k.0) k.2 in
        record { heard = q.heard; answers = q.answers; first = q.first })
        (reply_carries s.node c.addresses f.number (own_fits c l g.standing) of c.limits step.channel.window buffer room step.answer long)

    says_silent : (step : Stepped) → length_of step.answer ≡ 0 → Made (works step m l buffer)
    says_silent step e = unsaid w (request arrives) copy step.answer buffer step.channel m l (ap (λ (k : ℕ). take k buffer) e)

    says_refused : (why : Refusal) → Made (works (refusing c why) m l buffer)
    says_refused why = says_silent (refusing c why) refl

    as_kind : (kind : packets.Kind) → kind_of f.kind ≡ kind → reply_length c kind (length_at u) ≤ length buffer → Made (arrive_as kind s.node f (payload_in u) c rank m l buffer)
    as_kind kinds.Data is room =
        let step = data_step c f.number f.flags in
        replied acked.Data room refl step (data_long c f.number f.flags)
        (λ packet kind carried done.
        says_data s c.limits u packet step.channel kind (data_open c f.number f.flags done) (one_stated (flows c.limits) _ packet carried used) for_us is)
    as_kind kinds.DataAck is room = absurd (not_sending w (eqb-true _ _ (kind_finds c.addresses f (length_at u) (prefix_read u) kinds.DataAck framed.ours is)))
    as_kind kinds.Open is room =
        let step = control_step c true f.number in
        replied acked.Open room refl step (control_long c true f.number)
        (λ packet kind carried done.
        says_control s c.limits u packet step.channel kind (inr (open_open c f.number done, one_stated (flows c.limits) _ packet carried used)))
    as_kind kinds.Close is room =
        let step = control_step c false f.number in
        replied acked.Close room refl step (control_long c false f.number)
        (λ packet kind carried done. says_control s c.limits u packet step.channel kind (inl (one_stated (flows c.limits) _ packet carried used)))
    as_kind kinds.Heartbeat is room =
        let step = heartbeat_step c in
        replied acked.Heartbeat room refl step (heartbeat_long c)
        (λ packet kind carried done.
        says_beside s c.limits u packet step.channel (λ e. omega (arith, ap code_of (sym kind ∙ e))) (λ e. omega (arith, ap code_of (sym kind ∙ e))) (λ e. omega (arith, ap code_of (sym kind ∙ e))))
    as_kind kinds.HeartbeatAck is room = says_silent (heartbeat_ack_step c f.number) (heartbeat_ack_silent c f.number)
    as_kind kinds.FlowControl is room =
        subst Made (sym (chosen (eqb c.addresses.direction receives) _ _ (eq-eqb _ _ (receiving w)))) (says_silent (flow_ack_step c f.number) (flow_ack_silent c f.number))
    as_kind kinds.ControlAck is room = absurd (not_sending w (eqb-true _ _ (kind_finds c.addresses f (length_at u) (prefix_read u) kinds.ControlAck framed.ours is)))
    as_kind (kinds.Lacking code) is room = says_refused refusal.Lacking

    small : ltb (length buffer) (reply_length c (kind_of f.kind) (length_at u)) ≡ true → Made (arrive_by s.node f (length_at u) (payload_in u) c rank m l buffer)
    small e =
        subst Made (sym (by_small s.node f (length_at u) (payload_in u) c rank m l buffer (kind_of f.kind) refl (ltb-true _ _ e))) (says_refused (refusal.Small (reply_length c (kind_of f.kind) (length_at u))))

    by_fit : reply_length c (kind_of f.kind) (length_at u) ≤ length buffer → (b : Bool) → unfit c f (length_at u) ≡ b
        → Made (arrive_by s.node f (length_at u) (payload_in u) c rank m l buffer)
    by_fit room true e = subst Made (sym (by_unfit s.node f (length_at u) (payload_in u) c rank m l buffer room e)) (says_refused refusal.Strange)
    by_fit room false e =
        subst Made (sym (by_kind s.node f (length_at u) (payload_in u) c rank m l buffer room e (kind_of f.kind) refl)) (as_kind (kind_of f.kind) refl room)

    own_arrival : Made (arrival_for s.node u c rank m l buffer)
    unfolding arrival_for
    own_arrival = either_way (ltb (length buffer) (reply_length c (kind_of f.kind) (length_at u))) small (λ e. by_fit (ltb-false _ _ e) (unfit c f (length_at u)) refl)

  pub says_arrives : flows c.limits ≡ true → Seen (Saying w (request arrives) copy) s.index (called_by arrives (end_with s t mem lens lines n) (request arrives))
  says_arrives used =
      own_cases look (arrival_for s.node u) t mem lens lines buffer (shapes look (arrival_for s.node u) buffer (arrival_keeps s.node u buffer)) s.index (below w)
      (Saying w (request arrives) copy)
      (λ why. unsaid w (request arrives) copy (Refused why) buffer c m l refl)
      (λ j there apart at g. arrives_elsewhere j there apart at (rank_in (choice look lines t).grade) (own_mem t j mem) (own_lens t j lens) g)
      (λ at g. own_arrival used (rank_in (choice look lines t).grade) g)
