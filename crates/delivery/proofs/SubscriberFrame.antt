-- A call at the subscriber, seen at the channel that is watched: what is to be shown of it, and the case where it changes nothing there.
-- Assumes nothing.
use mathlib.Core.Path.{◌≡◌, refl, sym, ◌∙◌, subst}
use mathlib.Core.Bool.{Bool, true, false, cond, true≢false}
use mathlib.Core.List.{List, ◌∷◌}
use mathlib.Core.Logic.{◌⊎◌, inr, ⊎_elim}
use Prim.Native.Nat.{ℕ, ◌≤◌}
use Rattle.packet.specs.Layout.{fields_at}
use Rattle.channel.specs.declared.record.Channel.{Channel}
use Rattle.channel.specs.declared.answer.Answer.{Answer}
use Rattle.protocol.specs.Numbers.{number_at}
use Rattle.protocol.specs.Units.{DataUnit, Segment}
use Rattle.protocol.specs.Ends as ends
use Rattle.protocol.specs.Ends.{fresh, rank}
use Rattle.protocol.specs.Sending.{Sender}
use Rattle.protocol.specs.Receiving.{Receiver, ReceiverCall, receiver_step, start_of}
use Rattle.protocol.specs.History as protocol
use Rattle.protocol.proofs.Invariant.{Inv}
use Rattle.means.proofs.Receives.{Receives}
use Rattle.delivery.specs.Calls.{End, arrives, Request, counted_on}
use Rattle.delivery.specs.History.{subscriber, Call, Event, is, written, names, IsData, IsDataAck, Toward, openings, accepted, confirmed, reclaimed, taken}
use Rattle.delivery.proofs.Known.{Out, Back, back_later, limits, InvOf, Numbered, inv_links}
use Rattle.delivery.proofs.Counting.{counted_same}
use Rattle.delivery.proofs.Protocol.{FairData, receiver_keeps}

-- a call at the subscriber
abbrev pub subscriber_call : Request → ℕ → Call
subscriber_call r i = record { side = subscriber; request = r; copy_of = i }

abbrev pub subscriber_event : Request → ℕ → ℕ → ℕ → Answer → List ℕ → Event
subscriber_event r i n told a o = record { call = subscriber_call r i; started = n; index = told; answer = a; out = o }

-- a Data Ack of before is among those written
acked_before : (k : ReceiverCall) (a : ends.Answer) (i : ℕ) {P : Type 0} → P → protocol.acked_by k a i P
acked_before (ReceiverCall.control p) a i x = x
acked_before (ReceiverCall.arrival j q g) a i {P = P} x = go (protocol.replied a)
  where
    go : (b : Bool) → cond b ((j ≡ i) ⊎ P) P
    go true = inr x
    go false = x
acked_before ReceiverCall.take_unit a i x = x
acked_before ReceiverCall.noise a i x = x

-- Data that the protocol is told of came with the call, and has the number of its segment
abbrev pub DataCame : End → Event → ReceiverCall → Type 0
DataCame s e (ReceiverCall.control p) = Unit {0}
DataCame s e (ReceiverCall.arrival i q g) =
    (is subscriber arrives e.call ≡ true)
    × (names s e.call.request.octets ≡ true)
    × IsData e.call.request.octets
    × (e.call.copy_of ≡ i)
    × (q ≡ number_at i)
DataCame s e ReceiverCall.take_unit = Unit {0}
DataCame s e ReceiverCall.noise = Unit {0}

module _ (h s : End) (past : List Event) (x : Sender) where
  -- what is to be shown after the event e, where the record meant y, the window had started at n, the record was `before`, and now is c with its octets
  -- and lengths: it means what a call of the protocol leads to
  pub record SubscriberNext (y : Receiver) (e : Event) (n : ℕ) (before c : Channel) (mem lens : List ℕ) : Type 0 where
    pub receiver : Receiver
    pub call : ReceiverCall
    pub stepped : receiver ≡ (receiver_step (limits h s) y call).0
    pub came : DataCame s e call
    pub inv : InvOf h s (e ∷ past) x receiver
    pub numbered : Numbered h s (e ∷ past)
    pub means : Receives c mem lens receiver
    -- until OPEN is left
    pub counted : rank receiver.phase ≤ 2 → counted_on n before c ≡ start_of receiver
    pub waits : openings subscriber s.index (e ∷ past) ≡ 0 → receiver.phase ≡ fresh

  module _ (y : Receiver) (v : InvOf h s past x y) (numbered : Numbered h s past) (small : (limits h s).window ≤ 128)
      (r : Request) (copy n told : ℕ) (a : Answer) (o : List ℕ) where
    abbrev event : Event
    event = subscriber_event r copy n told a o

    -- no packet of the host is new
    out_down : (i : ℕ) (g : Segment) → Out h s (event ∷ past) i g → Out h s past i g
    out_down i g q =
        record {
          packet = q.packet;
          handed = ⊎_elim (λ w. absurd (true≢false (sym w.0))) (λ w. w) q.handed;
          named = q.named;
          is_data_lem = q.is_data_lem;
          segment = q.segment;
        }

    -- the Data Acks after the event are the protocol's: what must be known of a Data Ack that it replies with to the other end, and that the
    -- protocol's is among those replied
    pub record Replying (k : ReceiverCall) : Type 0 where
      pub number : (j : ℕ) (packet : List ℕ)
          → is subscriber arrives (subscriber_call r copy) ≡ true
          → written event ≡ packet
          → Toward s told
          → copy ≡ j
          → names h packet ≡ true
          → IsDataAck packet
          → (fields_at packet).number ≡ number_at j
      pub down : (j : ℕ) (packet : List ℕ)
          → is subscriber arrives (subscriber_call r copy) ≡ true
          → written event ≡ packet
          → Toward s told
          → copy ≡ j
          → names h packet ≡ true
          → IsDataAck packet
          → protocol.acked_by k (receiver_step (limits h s) y k).1 j (Back h s past j)
      pub up : (j : ℕ) → protocol.acked_by k (receiver_step (limits h s) y k).1 j (Back h s past j) → Back h s (event ∷ past) j

    pub subscriber_next : (k : ReceiverCall)
        → FairData (limits h s) small (accepted h past) (confirmed h past) (reclaimed h past) (taken s past) (Out h s past) (Back h s past) x y v k
        → DataCame s event k
        → taken s (event ∷ past) ≡ protocol.taken_by k (receiver_step (limits h s) y k).1 (taken s past)
        → Replying k
        → (before c : Channel) (mem lens : List ℕ)
        → Receives c mem lens (receiver_step (limits h s) y k).0
        → (rank (receiver_step (limits h s) y k).0.phase ≤ 2 → counted_on n before c ≡ start_of (receiver_step (limits h s) y k).0)
        → (openings subscriber s.index (event ∷ past) ≡ 0 → (receiver_step (limits h s) y k).0.phase ≡ fresh)
        → SubscriberNext y event n before c mem lens
    subscriber_next k fair came tak replying before c mem lens means counted waits =
        record { receiver = y2; call = k; stepped = refl; came = came; inv = inv2; numbered = numbered2; means = means; counted = counted; waits = waits }
      where
        said : ends.Answer
        said = (receiver_step (limits h s) y k).1

        y2 : Receiver
        y2 = (receiver_step (limits h s) y k).0

        back_down : (i : ℕ) → Back h s (event ∷ past) i → protocol.acked_by k said i (Back h s past i)
        back_down i b =
            ⊎_elim
            (λ w. replying.down i b.packet w.0 w.1 w.2 (w.3 b.is_ack) b.named b.is_ack)
            (λ w. acked_before k said i (record { packet = b.packet; replied = w; named = b.named; is_ack = b.is_ack }))
            b.replied

        kept : Inv (limits h s) (accepted h past) (confirmed h past) (reclaimed h past) (protocol.taken_by k said (taken s past)) (Out h s (event ∷ past)) (Back h s (event ∷ past)) x y2
        kept =
            inv_links out_down back_down replying.up
            (receiver_keeps (limits h s) small (accepted h past) (confirmed h past) (reclaimed h past) (taken s past) (Out h s past) (Back h s past) x y v k fair)

        inv2 : InvOf h s (event ∷ past) x y2
        inv2 =
            subst (λ (l : List DataUnit). Inv (limits h s) (accepted h past) (confirmed h past) (reclaimed h past) l (Out h s (event ∷ past)) (Back h s (event ∷ past)) x y2) (sym tak) kept

        numbered2 : Numbered h s (event ∷ past)
        numbered2 =
            record {
              sent = λ i packet q named is.
                  ⊎_elim (λ w. absurd (true≢false (sym w.0))) (λ w. numbered.sent i packet w named is) q;
              back = λ i packet q named is.
                  ⊎_elim (λ w. replying.number i packet w.0 w.1 w.2 (w.3 is) named is) (λ w. numbered.back i packet w named is) q;
            }

    -- where no Data Ack for the other end is written, and the protocol writes none
    pub no_reply : (k : ReceiverCall)
        → ((packet : List ℕ) → is subscriber arrives (subscriber_call r copy) ≡ true → written event ≡ packet → Toward s told → names h packet ≡ true → IsDataAck packet → ⊥)
        → ((j : ℕ) → protocol.acked_by k (receiver_step (limits h s) y k).1 j (Back h s past j) → Back h s past j)
        → Replying k
    no_reply k none_written same =
        record {
          number = λ j packet is wrote toward at named ack. absurd (none_written packet is wrote toward named ack);
          down = λ j packet is wrote toward at named ack. absurd (none_written packet is wrote toward named ack);
          up = λ j b. back_later h s past event j (same j b);
        }

    -- a call that leaves the channel and every account as they were
    pub subscriber_quiet : (c : Channel) (mem lens : List ℕ)
        → taken s (event ∷ past) ≡ taken s past
        → ((packet : List ℕ) → is subscriber arrives (subscriber_call r copy) ≡ true → written event ≡ packet → Toward s told → names h packet ≡ true → IsDataAck packet → ⊥)
        → Receives c mem lens y
        → (rank y.phase ≤ 2 → n ≡ start_of y)
        → (openings subscriber s.index (event ∷ past) ≡ 0 → y.phase ≡ fresh)
        → SubscriberNext y event n c c mem lens
    subscriber_quiet c mem lens tak none_written means counted waits =
        subscriber_next ReceiverCall.noise tt tt tak (no_reply ReceiverCall.noise none_written (λ j b. b)) c c mem lens means
        (λ q. counted_same n c c (λ z. refl) ∙ counted q) waits
