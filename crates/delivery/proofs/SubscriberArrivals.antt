-- An arrival at the subscriber: Data for its channel is an arrival at the protocol's receiver, with the same Data Ack; a Control packet is a move
-- to a later phase, or nothing; a Heartbeat and its Ack are nothing to the protocol; and what is for another channel changes nothing here, and has no Data
-- Ack for the host.
-- Assumes nothing.
use mathlib.Core.Path.{◌≡◌, refl, sym, ap, ◌∙◌, subst}
use mathlib.Core.Bool.{Bool, true, false, true≢false}
use mathlib.Core.List.{List, []}
use mathlib.Core.Logic.{◌⊎◌, ⊎_elim}
use Prim.Native.Nat.{ℕ, ◌≤◌, ◌<◌}
use native.Mathlib.Omega.{arith}
use borrow.Author.Tests.{ltb-true, ltb-false, eqb-true, eq-eqb}
use lib.Dec.{ltb}
use lib.ListN.{length, take, drop, length-take}
use lib.Dec.{eqb}
use Rattle.laws.proofs.Choice.{either_way, chosen}
use Rattle.packet.specs.declared.kinds.Kind as packets
use Rattle.packet.specs.declared.kinds.Kind.TheVariants as packet-kind
use Rattle.packet.specs.Kinds.{code_of, kind_of, carried}
use Rattle.packet.proofs.KindLaws.{kind_back}
use Rattle.packet.specs.declared.fields.Fields.{Fields}
use Rattle.packet.specs.Layout.{fields_at, prefix_at, length_at, payload_at, payload_in}
use Rattle.walks.specs.Serving.{Worked, works}
use Rattle.channel.specs.declared.record.Addresses.{Addresses}
use Rattle.channel.specs.declared.record.Channel.{Channel}
use Rattle.channel.specs.declared.answer.Answer.{Answer}
use Rattle.channel.specs.declared.answer.Answer.TheVariants.{Refused}
use Rattle.channel.specs.declared.answer.Refusal as refusals
use Rattle.channel.specs.declared.answer.Refusal.TheVariants as refusal
use Rattle.channel.specs.declared.step.Stepped.{Stepped}
use Rattle.channel.specs.Record.{receives}
use Rattle.channel.specs.Answers.{length_of}
use Rattle.channel.specs.Prefixes.{fit_prefix, same_prefix}
use Rattle.channel.proofs.StandingLaws.{own_fits}
use Rattle.channel.specs.Steps.{refusing, outgoing_length}
use Rattle.channel.specs.Pulse.{heartbeat_step, heartbeat_ack_step}
use Rattle.channel.specs.Flow.{flow_ack_step}
use Rattle.receiver.specs.declared.acks.Acked.{Acked}
use Rattle.receiver.specs.declared.acks.Acked.TheVariants as acked
use Rattle.receiver.specs.Receiving.{ack_kind, carries, carrying, control_step}
use Rattle.table.specs.Waiting.{rank_in}
use Rattle.table.specs.declared.looking.Look.{Look}
use Rattle.table.specs.Looking.{same, chosen as choice}
use Rattle.table.proofs.OneLaws.{kind_finds}
use Rattle.table.specs.Serving.{record_at, own_mem, own_lens}
use Rattle.arrivals.specs.Arriving.{arrive_as, arrive_by, arrival_for, Framed}
use Rattle.arrivals.specs.Finding.{is_ours, look_of, prefix_read}
use Rattle.arrivals.specs.Data.{reply_length, unfit}
use Rattle.arrivals.specs.Replying.{replied_by, acknowledging, replying}
use Rattle.arrivals.proofs.ArriveLaws.{by_small, by_unfit, by_kind}
use Rattle.arrivals.proofs.FindLaws.{found_packet}
use Rattle.arrivals.proofs.DataLaws.{fit_payload}
use Rattle.keeps.specs.Keeping.{Given}
use Rattle.keeps.proofs.StepsKeep.{arrival_keeps}
use Rattle.keeps.proofs.CallsAlone.{shapes}
use Rattle.protocol.specs.Sending.{Sender}
use Rattle.protocol.specs.Receiving.{Receiver}
use Rattle.means.proofs.ReceiverControl.{Moves, control_receives}
use Rattle.means.proofs.Pulses.{heartbeat_receives, heartbeat_ack_receives, flow_ack_receives}
use Rattle.means.proofs.PulseMoves.{pulse_moves, still_moves}
use Rattle.delivery.specs.Calls.{End, arrives, Request, channel_of, called_by}
use Rattle.delivery.specs.History.{Event, names, binds, IsData, Toward, HandedOut}
use Rattle.delivery.specs.Delivery.{rivals, NotLate}
use Rattle.delivery.proofs.Own.{Seen, Left, own_cases}
use Rattle.delivery.proofs.Nodes.{end_with, same_length, same_addresses, toward_itself}
use Rattle.delivery.proofs.Packets.{named_is, names_so, binds_so, equal_rivals}
use Rattle.delivery.proofs.Replies.{AsLong, control_long, heartbeat_long, heartbeat_ack_silent, flow_ack_silent, Acks, OtherAck, reply_written, ack_named, arrival_framed, arrival_wrote}
use Rattle.delivery.proofs.SubscriberData.{data_next}
use Rattle.delivery.proofs.SubscriberEnd.{Stage, below, addresses_are, receiving, not_sending, asked, index_for, Next, Unreplied, unwritten, quiet, moves_next}

-- ---- the arrival

module _ {h s : End} {past : List Event} {x : Sender} {y : Receiver} {t : List Channel} {mem lens lines : List ℕ} {n : ℕ} (w : Stage h s past x y t mem lens lines n)
    (channel : ℕ) (packet buffer : List ℕ) (copy : ℕ) where
  abbrev i : ℕ
  i = s.index

  abbrev c : Channel
  c = record_at t s.index

  abbrev m : List ℕ
  m = own_mem t s.index mem

  abbrev l : List ℕ
  l = own_lens t s.index lens

  abbrev f : Fields
  f = fields_at packet

  abbrev count : ℕ
  count = length_at packet

  abbrev p : List ℕ
  p = payload_in packet

  abbrev look : Look
  look = look_of s.node packet (length buffer)

  abbrev request : Request
  request = record { kind = arrives; channel = channel; octets = packet; buffer = buffer }

  -- ---- what is no Data Ack for the host

  arrives_quiet : (a : Answer) (o : List ℕ) → Unreplied w request copy a o → Next w request copy a o c m l
  arrives_quiet a o u = quiet w request copy a o refl refl u

  other_ack : (a : Answer) (o : List ℕ) (d : Addresses) (number : ℕ) (ack : packets.Kind) → carried ack ≡ true → (code_of ack ≡ code_of packet-kind.DataAck → ⊥)
      → Acks s.node d ack number (take (length_of a) o) → Unreplied w request copy a o
  other_ack a o d number ack known other k q is wrote toward named kind =
      let is_ack : kind_of (fields_at q).kind ≡ ack
      = ap (λ (o : List ℕ). kind_of (fields_at o).kind) (sym wrote) ∙ ap (λ (g : Fields). kind_of g.kind) k.fields ∙ kind_back ack known
      in
      other (ap code_of (sym is_ack ∙ kind))

  other_kind : (a : Answer) (o : List ℕ) (d : Addresses) (number : ℕ) → OtherAck s.node d number (take (length_of a) o) → Unreplied w request copy a o
  other_kind a o d number k = other_ack a o d number k.kind k.known k.other k.acks

  -- of another channel: it would have the addresses of this one, or goes elsewhere
  other_written : (j : ℕ) → j < length t → (j ≡ i → ⊥) → index_for w request ≡ j → (a : Answer) (o : List ℕ) (number : ℕ)
      → (record_at t j).addresses.direction ≡ receives
      → Acks s.node (record_at t j).addresses packet-kind.DataAck number (take (length_of a) o)
      → Unreplied w request copy a o
  other_written j there apart index a o number direction k q is wrote toward named kind =
      let d : Addresses = (record_at t j).addresses in
      let begun : d ≡ (record_at s.table j).addresses = same_addresses s t mem lens w.now.kept j in
      let is_named_lem = named_is h (take (length_of a) o) (ap (names h) wrote ∙ named) in
      let z = ack_named s.node h.node d (channel_of h).addresses number (length_at (take (length_of a) o)) (prefix_read (take (length_of a) o))
      (subst (λ (g : Fields). is_ours h.node g ≡ true) k.fields is_named_lem.ours)
      (subst (λ (g : Fields). same (channel_of h).addresses g (length_at (take (length_of a) o)) (prefix_read (take (length_of a) o)) ≡ true) k.fields is_named_lem.same)
      in
      let region : same_prefix d.prefix (channel_of s).addresses.prefix ≡ true
      = subst (λ (b : Addresses). same_prefix b.prefix (channel_of s).addresses.prefix ≡ true) (sym begun) (subst (Toward s) index toward)
      in
      let equal : rivals d (channel_of s).addresses ≡ true
      = equal_rivals d (channel_of s).addresses (sym z.1 ∙ w.alike.number) (z.0 ∙ sym w.alike.to_host_end) (direction ∙ sym w.alike.receives) region
      in
      true≢false
      (sym equal ∙ ap (λ (b : Addresses). rivals b (channel_of s).addresses) begun
      ∙ w.beginning.alone j (subst (λ (k : ℕ). j < k) (same_length s t mem lens w.now.kept) there) apart)

  elsewhere : (j : ℕ) → j < length t → (j ≡ i → ⊥) → index_for w request ≡ j
      → Given look j (rank_in (choice look lines t).grade) (record_at t j) (own_mem t j mem) (own_lens t j lens)
      → (v : Worked Stepped) → arrival_for s.node packet (record_at t j) (rank_in (choice look lines t).grade) (own_mem t j mem) (own_lens t j lens) buffer ≡ v
      → Next w request copy v.made.answer v.out c m l
  elsewhere j there apart index g v e =
      arrives_quiet v.made.answer v.out
      (⊎_elim (λ z. unwritten w request copy v.made.answer v.out z)
      (λ z. ⊎_elim
      (λ k. other_kind v.made.answer v.out (record_at t j).addresses f.number k)
      (λ k. other_written j there apart index v.made.answer v.out f.number k.0 k.1) z)
      (subst (λ (u : Worked Stepped).
      (take (length_of u.made.answer) u.out ≡ [])
      ⊎ (OtherAck s.node (record_at t j).addresses f.number (take (length_of u.made.answer) u.out))
      ⊎ (((record_at t j).addresses.direction ≡ receives) × Acks s.node (record_at t j).addresses packet-kind.DataAck f.number (take (length_of u.made.answer) u.out))) e
      (arrival_wrote s.node packet buffer j (rank_in (choice look lines t).grade) (record_at t j) (own_mem t j mem) (own_lens t j lens) g)))

  -- ---- at the channel itself

  module _ (fair : binds s packet ≡ true → HandedOut h past copy packet × (IsData packet → NotLate (end_with s t mem lens lines n) copy))
      (rank : ℕ) (g : Given look i rank c m l) (toward : Toward s (index_for w request)) where
    told : Framed c f (payload_at (prefix_at packet)) count packet buffer
    told = arrival_framed s.node packet buffer i rank c m l g

    for_us : names s packet ≡ true
    for_us =
        let q = found_packet s.node packet (length buffer) g.lines i c (subst (λ (k : ℕ). k < 48) g.suits g.found) in
        names_so s packet q.1 q.2 (ap (λ (a : Addresses). same a f count (prefix_read packet)) (sym (addresses_are w)) ∙ told.ours)

    short_payload : unfit c f count ≡ false → kind_of f.kind ≡ packet-kind.Data → length p ≤ c.limits.payload
    short_payload fit kind = omega (arith, fit_payload c f count fit kind, length-take count (drop (payload_at (prefix_at packet)) packet))

    abbrev Made : Worked Stepped → Type 0
    Made v = Left (Next w request copy) v

    fits : fit_prefix c.addresses.own ≡ true
    fits = own_fits c l g.standing

    -- a step with its reply, which is no Data Ack
    replied : (of : Acked) → outgoing_length c.addresses (carries of c.limits) ≤ length buffer → carried (ack_kind of) ≡ true → (code_of (ack_kind of) ≡ code_of packet-kind.DataAck → ⊥)
        → (step : Stepped) → AsLong (outgoing_length c.addresses (carries of c.limits)) step.answer → Moves c step.channel m l y
        → Made (replying s.node c of f.number step m l buffer)
    replied of room known other step long moves =
        let out : List ℕ = replied_by step.answer s.node c.addresses of f.number (carrying of c.limits step.channel.window) buffer in
        moves_next w request copy step.answer out refl refl
        (⊎_elim (λ e. unwritten w request copy step.answer out e) (λ e. other_ack step.answer out c.addresses f.number (ack_kind of) known other e)
        (reply_written s.node c.addresses f.number fits of c.limits step.channel.window buffer room step.answer long))
        (acknowledging f.number step).channel (pulse_moves c step.channel m l y (acknowledging f.number step).channel.pulse moves)

    control_moves : (opens : Bool) → Moves c (control_step c opens f.number).channel m l y
    control_moves opens = control_receives c m l y (asked w) (receiving w) w.now.means opens f.number

    beat_ack : Made (works (heartbeat_ack_step c f.number) m l buffer)
    beat_ack =
        let step = heartbeat_ack_step c f.number in
        moves_next w request copy step.answer buffer refl refl (unwritten w request copy step.answer buffer (ap (λ (z : ℕ). take z buffer) (heartbeat_ack_silent c f.number)))
        step.channel (still_moves c step.channel m l y (heartbeat_ack_receives c m l y w.now.means f.number))

    flow_ack_lem : Made (works (flow_ack_step c f.number) m l buffer)
    flow_ack_lem =
        let step = flow_ack_step c f.number in
        moves_next w request copy step.answer buffer refl refl (unwritten w request copy step.answer buffer (ap (λ (z : ℕ). take z buffer) (flow_ack_silent c f.number)))
        step.channel (still_moves c step.channel m l y (flow_ack_receives c m l y w.now.means f.number))

    as_kind : unfit c f count ≡ false → (kind : packets.Kind) → kind_of f.kind ≡ kind → reply_length c kind count ≤ length buffer
        → Made (arrive_as kind s.node f p c rank m l buffer)
    as_kind fit packet-kind.Data is room =
        let q = fair (binds_so s packet packet-kind.Data is refl for_us) in
        data_next w channel packet buffer copy toward for_us is q.0 (q.1 is) room told.flags (short_payload fit is)
    as_kind fit packet-kind.DataAck is room = absurd (not_sending w (eqb-true _ _ (kind_finds c.addresses f count (prefix_read packet) packet-kind.DataAck told.ours is)))
    as_kind fit packet-kind.Open is room =
        replied acked.Open room refl (λ e. omega (arith, e)) (control_step c true f.number) (control_long c true f.number) (control_moves true)
    as_kind fit packet-kind.Close is room =
        replied acked.Close room refl (λ e. omega (arith, e)) (control_step c false f.number) (control_long c false f.number) (control_moves false)
    as_kind fit packet-kind.Heartbeat is room =
        replied acked.Heartbeat room refl (λ e. omega (arith, e)) (heartbeat_step c) (heartbeat_long c)
        (still_moves c (heartbeat_step c).channel m l y (heartbeat_receives c m l y w.now.means))
    as_kind fit packet-kind.HeartbeatAck is room = beat_ack
    as_kind fit packet-kind.FlowControl is room =
        subst Made (sym (chosen (eqb c.addresses.direction receives) _ _ (eq-eqb _ _ (receiving w)))) flow_ack_lem
    as_kind fit packet-kind.ControlAck is room = absurd (not_sending w (eqb-true _ _ (kind_finds c.addresses f count (prefix_read packet) packet-kind.ControlAck told.ours is)))
    as_kind fit (packet-kind.Lacking code) is room =
        arrives_quiet (Refused refusal.Lacking) buffer (unwritten w request copy (Refused refusal.Lacking) buffer refl)

    refused : (why : refusals.Refusal) → Made (works (refusing c why) m l buffer)
    refused why = arrives_quiet (Refused why) buffer (unwritten w request copy (Refused why) buffer refl)

    small : ltb (length buffer) (reply_length c (kind_of f.kind) count) ≡ true → Made (arrive_by s.node f count p c rank m l buffer)
    small e =
        subst Made (sym (by_small s.node f count p c rank m l buffer (kind_of f.kind) refl (ltb-true _ _ e))) (refused (refusal.Small (reply_length c (kind_of f.kind) count)))

    by_fit : reply_length c (kind_of f.kind) count ≤ length buffer → (b : Bool) → unfit c f count ≡ b → Made (arrive_by s.node f count p c rank m l buffer)
    by_fit room true e = subst Made (sym (by_unfit s.node f count p c rank m l buffer room e)) (refused refusal.Strange)
    by_fit room false e =
        let kind = kind_of f.kind in
        subst Made (sym (by_kind s.node f count p c rank m l buffer room e kind refl)) (as_kind e kind refl room)

    own_arrival : Made (arrival_for s.node packet c rank m l buffer)
    unfolding arrival_for
    own_arrival = either_way (ltb (length buffer) (reply_length c (kind_of f.kind) count)) small (λ e. by_fit (ltb-false _ _ e) (unfit c f count) refl)

  pub subscriber_arrives : (binds s packet ≡ true → HandedOut h past copy packet × (IsData packet → NotLate (end_with s t mem lens lines n) copy))
      → Seen (Next w request copy) i (called_by arrives (end_with s t mem lens lines n) request)
  subscriber_arrives fair =
      own_cases look (arrival_for s.node packet) t mem lens lines buffer (shapes look (arrival_for s.node packet) buffer (arrival_keeps s.node packet buffer)) i (below w)
      (Next w request copy)
      (λ why. arrives_quiet (Refused why) buffer (unwritten w request copy (Refused why) buffer refl))
      (λ j there apart at g.
      elsewhere j there apart at g (arrival_for s.node packet (record_at t j) (rank_in (choice look lines t).grade) (own_mem t j mem) (own_lens t j lens) buffer) refl)
      (λ at g. own_arrival fair (rank_in (choice look lines t).grade) g (toward_itself s _ at))
