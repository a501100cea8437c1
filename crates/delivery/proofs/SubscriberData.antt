-- Data for the subscriber's channel is an arrival at the protocol's receiver, with the same Data Ack.
-- Assumes nothing.
use mathlib.Core.Path.{◌≡◌, refl, sym, ap, ap₂, ◌∙◌, subst, subst₃}
use mathlib.Core.Bool.{Bool, true, false, ◌||◌, cond}
use mathlib.Core.List.{List, []}
use mathlib.Core.Logic.{◌⊎◌, inl, ⊎_elim}
use mathlib.Core.Option.{Option, none, some}
use Prim.Native.Nat.{ℕ, ◌+◌, ◌-◌, ◌≤◌, ◌<◌}
use native.Mathlib.Omega.{arith}
use borrow.Author.Tests.{eqb-true, eqb-false}
use lib.Dec.{eqb, ltb, leb}
use lib.ListN.{length, take}
use Rattle.packet.specs.declared.kinds.Kind.TheVariants.{Data, DataAck}
use Rattle.packet.specs.Kinds.{kind_of}
use Rattle.packet.proofs.KindLaws.{kind_back}
use Rattle.packet.specs.declared.fields.Fields.{Fields}
use Rattle.packet.specs.Layout.{fields_at, payload_in}
use Rattle.std.specs.Prelude.{Result}
use Rattle.packet.specs.declared.reading.Found.{Found}
use Rattle.packet.specs.declared.reading.ReadError.{ReadError}
use Rattle.walks.specs.Serving.{works}
use Rattle.channel.specs.declared.record.Addresses.{Addresses}
use Rattle.channel.specs.declared.record.Channel.{Channel}
use Rattle.channel.specs.declared.answer.Answer.{Answer}
use Rattle.channel.specs.declared.answer.Answer.TheVariants.{Done, Repeated, Inactive, Refused}
use Rattle.channel.specs.declared.answer.Refusal.{Refusal}
use Rattle.channel.specs.declared.answer.Refusal.TheVariants as refusal
use Rattle.channel.specs.declared.step.Stepped.{Stepped}
use Rattle.channel.specs.Record as state
use Rattle.channel.specs.Answers.{number_of, length_of, refusal_number}
use Rattle.receiver.specs.Receiving.{ack_length, carrying}
use Rattle.receiver_data.specs.Data.{data_step, data_mem, data_lens}
use Rattle.receiver_data.proofs.DataLaws.{data_state, state_mem, state_lens}
use Rattle.table.specs.Serving.{record_at, own_mem, own_lens}
use Rattle.arrivals.specs.Replying.{replied_by, acknowledging}
use Rattle.protocol.specs.Numbers.{number_at, distance}
use Rattle.protocol.specs.Units.{Segment}
use Rattle.protocol.specs.Ends as ends
use Rattle.protocol.specs.Ends.{Limits, rank, is_open, put}
use Rattle.protocol.specs.Sending.{Sender}
use Rattle.protocol.specs.Receiving as receiver
use Rattle.protocol.specs.Receiving.{Receiver, ReceiverCall, start_of, moved, receiver_step}
use Rattle.protocol.specs.History as protocol
use Rattle.means.specs.Meaning.{carried}
use Rattle.means.proofs.Receives.{Receives}
use Rattle.means.proofs.ReceiverData.{data_receives}
use Rattle.means.proofs.Near.{data_near}
use Rattle.channel.specs.Prefixes.{fit_prefix, same_prefix}
use Rattle.channel.proofs.PrefixLaws.{same_laid}
use Rattle.channel.proofs.StandingLaws.{own_fits}
use Rattle.arrivals.specs.Finding.{prefix_read}
use Rattle.receiver.specs.declared.acks.Acked.TheVariants as replied-to
use Rattle.means.proofs.Pulses.{pulse_receives}
use Rattle.delivery.specs.Calls.{End, arrives, Request, channel_of}
use Rattle.delivery.specs.History.{Event, names_by, names, Toward, HandedOut}
use Rattle.delivery.specs.Delivery.{NotLate}
use Rattle.delivery.proofs.Own.{Left}
use Rattle.delivery.proofs.Nodes.{end_with}
use Rattle.delivery.proofs.Known.{back_later, Out, Back, limits}
use Rattle.delivery.proofs.SubscriberFrame.{Replying, subscriber_next, no_reply}
use Rattle.delivery.proofs.Replies.{AsLong, data_long, Acks, ack_written, ack_names}
use Rattle.delivery.proofs.SubscriberEnd.{opened_rank, Stage, addresses_are, receiving, asked, limits_are, small, index_for, Next, unwritten, counted_next, quiet}

-- no refusal is answered with an Ack
unreplied_number : (why : Refusal) → (eqb (refusal_number why) 0 || eqb (refusal_number why) 15) ≡ false
unreplied_number refusal.Short = refl
unreplied_number refusal.Damaged = refl
unreplied_number refusal.Strange = refl
unreplied_number refusal.Lacking = refl
unreplied_number refusal.State = refl
unreplied_number refusal.Long = refl
unreplied_number refusal.NoRoom = refl
unreplied_number refusal.Full = refl
unreplied_number refusal.Untaken = refl
unreplied_number (refusal.Small n) = refl
unreplied_number refusal.Nothing = refl
unreplied_number refusal.Settings = refl
unreplied_number refusal.NoChannel = refl
unreplied_number refusal.Ignored = refl

-- an arrival leaves the phase, or leaves OPEN for good
module _ (c : Limits) (r : Receiver) where
  abbrev Stays : Receiver → Type 0
  Stays z = rank z.phase ≤ 2 → rank z.phase ≡ rank r.phase

  settled_stays : (b : Bool) (f : ℕ → Option Segment) (l : List Segment) → Stays (receiver.moved_answer b r f l).0
  settled_stays true f l h = refl
  settled_stays false f l h = absurd (omega (arith, h))

  placed_stays : (b : Bool) (i : ℕ) (g : Segment) → Stays (receiver.placed c b r i g).0
  placed_stays false i g = λ h. refl
  placed_stays true i g =
      let f : ℕ → Option Segment = put r.filed i (some g) in
      let m = moved c c.window f r.passed in
      settled_stays m.1 f m.0

  in_window_stays : (o : Option Segment) (i : ℕ) (g : Segment) → Stays (receiver.in_window c o r i g).0
  in_window_stays (some x) i g = λ h. refl
  in_window_stays none i g = placed_stays (ltb i (r.oldest + c.slots)) i g

  outside_stays : (b : Bool) → Stays (receiver.outside b r).0
  outside_stays true h = refl
  outside_stays false h = absurd (omega (arith, h))

  sorted_stays : (b : Bool) (d : ℕ) (g : Segment) → Stays (receiver.sorted c b r d g).0
  sorted_stays true d g = in_window_stays (r.filed (start_of r + d)) (start_of r + d) g
  sorted_stays false d g = outside_stays (leb (256 - c.window) d)

  arrived_stays : (b : Bool) (d : ℕ) (g : Segment) → Stays (receiver.arrived c b r d g).0
  arrived_stays false d g = λ h. refl
  arrived_stays true d g = sorted_stays (ltb d c.window) d g

-- ---- Data

module _ {h s : End} {past : List Event} {x : Sender} {y : Receiver} {t : List Channel} {mem lens lines : List ℕ} {n : ℕ} (w : Stage h s past x y t mem lens lines n)
    (channel : ℕ) (packet buffer : List ℕ) (copy : ℕ) where
  abbrev c : Channel
  c = record_at t s.index

  abbrev m : List ℕ
  m = own_mem t s.index mem

  abbrev l : List ℕ
  l = own_lens t s.index lens

  abbrev f : Fields
  f = fields_at packet

  abbrev p : List ℕ
  p = payload_in packet

  abbrev request : Request
  request = record { kind = arrives; channel = channel; octets = packet; buffer = buffer }

  -- what is known of the packet, and where its reply goes
  module _ (toward : Toward s (index_for w request)) (named : names s packet ≡ true) (kind : kind_of f.kind ≡ Data) (handed : HandedOut h past copy packet) (late : NotLate (end_with s t mem lens lines n) copy)
      (room : ack_length c ≤ length buffer) (few : f.flags < 4) (short : length p ≤ c.limits.payload) where
    abbrev call : ReceiverCall
    call = ReceiverCall.arrival copy f.number (carried f.flags p)

    abbrev said : ends.Answer
    said = (receiver_step (limits h s) y call).1

    abbrev z : Receiver
    z = (receiver_step (limits h s) y call).0

    number_is : f.number ≡ number_at copy
    number_is = w.numbered.sent copy packet handed named kind

    -- the buffer afterwards
    abbrev out_of : Answer → List ℕ
    out_of a = replied_by a s.node c.addresses replied-to.Data f.number (carrying replied-to.Data c.limits (data_step c f.number f.flags).channel.window) buffer

    -- ---- the Data Ack

    abbrev Reply : Answer → Type 0
    Reply a = Replying h s past x y w.inv w.numbered (small w) request copy n (index_for w request) a (out_of a) call

    abbrev Acked : ℕ → Bool → Type 0
    Acked j b = cond b ((copy ≡ j) ⊎ Back h s past j) (Back h s past j)

    fits : fit_prefix c.addresses.own ≡ true
    fits = own_fits c l (asked w).standing

    -- the host knows the prefix that the Ack carries
    from_us : (q : List ℕ) → Acks s.node c.addresses DataAck f.number q → same_prefix (channel_of h).addresses.prefix (prefix_read q) ≡ true
    from_us q k =
        let own : (channel_of h).addresses.prefix ≡ c.addresses.own = w.alike.subscriber_prefix ∙ sym (ap (λ (a : Addresses). a.own) (addresses_are w)) in
        ap₂ same_prefix own k.prefix ∙ same_laid c.addresses.own fits

    ack_for_host : (q : List ℕ) → Acks s.node c.addresses DataAck f.number q → names h q ≡ true
    ack_for_host q k =
        let d = addresses_are w in
        ap (λ (r : Result Found ReadError). names_by r q h.node (channel_of h).addresses) k.read
        ∙ ack_names s.node h.node c.addresses (channel_of h).addresses f.number k.count (prefix_read q)
        (ap (λ (a : Addresses). a.remote) d ∙ w.alike.to_host_end) (sym w.alike.protocol) (w.alike.number ∙ sym (ap (λ (a : Addresses). a.channel) d))
        w.alike.to_subscriber_end w.alike.sends (from_us q k)

    acked : (a : Answer) → Acks s.node c.addresses DataAck f.number (take (length_of a) (out_of a)) → protocol.replied said ≡ true → Reply a
    acked a k e =
        record {
          number = λ j q is wrote to at names-h ack.
              ap (λ (r : List ℕ). (fields_at r).number) (sym wrote) ∙ ap (λ (g : Fields). g.number) k.fields ∙ number_is ∙ ap number_at at;
          down = λ j q is wrote to at names-h ack. subst (Acked j) (sym e) (inl at);
          up = λ j b.
              ⊎_elim
              (λ at.
              record {
                packet = take (length_of a) (out_of a);
                replied = inl (refl, refl, toward, λ kind. at);
                named = ack_for_host (take (length_of a) (out_of a)) k;
                is_ack = ap (λ (g : Fields). kind_of g.kind) k.fields ∙ kind_back DataAck refl;
              })
              (λ q. back_later h s past _ j q)
              (subst (Acked j) e b);
        }

    -- none
    silent : (a : Answer) → take (length_of a) (out_of a) ≡ [] → protocol.replied said ≡ false → Reply a
    silent a e u =
        no_reply h s past x y w.inv w.numbered (small w) request copy n (index_for w request) a (out_of a) call (unwritten w request copy a (out_of a) e) (λ j b. subst (Acked j) u b)

    abbrev is_replied : ℕ → Bool
    is_replied k = eqb k 0 || eqb k 15

    reply_by : (a : Answer) → AsLong (ack_length c) a → number_of a ≡ said.number → Reply a
    reply_by (Done k u) e q =
        acked (Done k u) (subst (λ (j : ℕ). Acks s.node c.addresses DataAck f.number (take j (out_of (Done k u)))) (sym e) (ack_written s.node c.addresses f.number fits replied-to.Data c.limits (data_step c f.number f.flags).channel.window buffer room))
        (ap is_replied (sym q))
    reply_by (Repeated k) e q =
        acked (Repeated k) (subst (λ (j : ℕ). Acks s.node c.addresses DataAck f.number (take j (out_of (Repeated k)))) (sym e) (ack_written s.node c.addresses f.number fits replied-to.Data c.limits (data_step c f.number f.flags).channel.window buffer room))
        (ap is_replied (sym q))
    reply_by (Inactive why) e q = silent (Inactive why) refl (ap is_replied (sym q))
    reply_by (Refused why) e q = silent (Refused why) refl (ap is_replied (sym q) ∙ unreplied_number why)

    -- ---- in OPEN

    abbrev made : Stepped
    made = data_step c f.number f.flags

    -- once the Data Ack is written: the interval of the Heartbeat alone differs
    abbrev kept : Channel
    kept = (acknowledging f.number made).channel

    data_open : rank y.phase ≡ 2 → Next w request copy made.answer (out_of made.answer) kept (data_mem c f.number p m) (data_lens c f.number p l)
    data_open now-open =
        subscriber_next h s past x y w.inv w.numbered (small w) request copy n (index_for w request) made.answer (out_of made.answer) call
        (out, number_is, not_late) (refl, named, kind, refl, number_is) refl (reply_by made.answer (data_long c f.number f.flags) related.1)
        c kept (data_mem c f.number p m) (data_lens c f.number p l) related.0
        (counted_next w z kept (data_mem c f.number p m) (data_lens c f.number p l) related.0
        (λ q. omega (arith, now-open)) (λ q. omega (arith, now-open)) near.0 (omega (arith, near.1))
        (λ q other. absurd (other (arrived_stays (limits h s) y (is_open y.phase) (distance f.number (number_at (start_of y))) (carried f.flags p) q ∙ now-open))))
        (λ q. absurd (omega (arith, now-open, ap rank (w.now.waits q))))
      where
        out : Out h s past copy (carried f.flags p)
        out = record { packet = packet; handed = handed; named = named; is_data_lem = kind; segment = refl }

        window_is : (limits h s).window ≡ c.limits.window
        window_is = ap (λ (k : Limits). k.window) (limits_are w)

        not_late : start_of y + 1 ≤ copy + 1 + (256 - (limits h s).window)
        not_late = omega (arith, late, window_is, w.now.counted (omega (arith, now-open)))

        before : (Receives made.channel (data_mem c f.number p m) (data_lens c f.number p l) z) × (number_of made.answer ≡ said.number)
        before =
            subst (λ (k : Limits). (Receives made.channel (data_mem c f.number p m) (data_lens c f.number p l) (receiver_step k y call).0) × (number_of made.answer ≡ (receiver_step k y call).1.number))
            (sym (limits_are w)) (data_receives c m l y (asked w) (receiving w) w.now.means f.number f.flags copy p few short)

        related : (Receives kept (data_mem c f.number p m) (data_lens c f.number p l) z) × (number_of made.answer ≡ said.number)
        related = (pulse_receives made.channel (data_mem c f.number p m) (data_lens c f.number p l) z kept.pulse before.0, before.1)

        near : (start_of y ≤ start_of z) × (start_of z ≤ start_of y + 128)
        near =
            subst (λ (k : Limits). (start_of y ≤ start_of (receiver_step k y call).0) × (start_of (receiver_step k y call).0 ≤ start_of y + 128)) (sym (limits_are w))
            (data_near c m l y (asked w) (receiving w) w.now.means f.number f.flags copy p)

    -- ---- in any state: out of OPEN it is refused

    pub data_next : Left (Next w request copy) (works (acknowledging f.number made) (data_mem c f.number p m) (data_lens c f.number p l) (out_of made.answer))
    data_next = by (eqb c.phase.state state.opened) refl
      where
        by : (b : Bool) → eqb c.phase.state state.opened ≡ b → Left (Next w request copy) (works (acknowledging f.number made) (data_mem c f.number p m) (data_lens c f.number p l) (out_of made.answer))
        by true e = data_open (opened_rank y.phase (sym w.now.means.state ∙ eqb-true c.phase.state state.opened e))
        by false e =
            let other = eqb-false c.phase.state state.opened e in
            subst₃ (λ (k : Stepped) (a b : List ℕ). Left (Next w request copy) (works (acknowledging f.number k) a b (replied_by k.answer s.node c.addresses replied-to.Data f.number (carrying replied-to.Data c.limits k.channel.window) buffer)))
            (sym (data_state c f.number other f.flags)) (sym (state_mem c f.number other p m)) (sym (state_lens c f.number other p l))
            (quiet w request copy (Refused refusal.State) buffer refl refl (unwritten w request copy (Refused refusal.State) buffer refl))
