-- A call at the host, seen at the channel that is watched: what is to be shown of it, and the case where it changes nothing there.
-- Assumes nothing.
use mathlib.Core.Path.{◌≡◌, refl, sym, ◌∙◌, subst}
use mathlib.Core.Bool.{Bool, true, false, cond, true≢false}
use mathlib.Core.List.{List, ◌∷◌}
use mathlib.Core.Logic.{◌⊎◌, inr, ⊎_elim}
use Prim.Native.Nat.{ℕ, ◌≤◌}
use Rattle.packet.specs.Layout.{fields_at, payload_in}
use Rattle.channel.specs.declared.record.Channel.{Channel}
use Rattle.channel.specs.declared.answer.Answer.{Answer}
use Rattle.protocol.specs.Numbers.{number_at}
use Rattle.protocol.specs.Units.{DataUnit, Segment}
use Rattle.protocol.specs.Ends as ends
use Rattle.protocol.specs.Ends.{fresh}
use Rattle.protocol.specs.Sending.{Sender, SenderCall, sender_step}
use Rattle.protocol.specs.Receiving.{Receiver}
use Rattle.protocol.specs.History as protocol
use Rattle.protocol.proofs.Invariant.{Inv}
use Rattle.means.specs.Meaning.{carried}
use Rattle.means.proofs.Sends.{Sends}
use Rattle.delivery.specs.Calls.{End, hands, arrives, Request, counted_on}
use Rattle.delivery.specs.History.{host, Call, Event, is, written, names, IsData, IsDataAck, Toward, segment_of, openings, accepted, confirmed, reclaimed, taken}
use Rattle.delivery.proofs.Known.{Out, Back, back_later, limits, InvOf, Numbered, inv_links}
use Rattle.delivery.proofs.Counting.{counted_same}
use Rattle.delivery.proofs.Protocol.{FairAck, sender_keeps}

-- a call at the host
abbrev pub host_call : Request → ℕ → Call
host_call r i = record { side = host; request = r; copy_of = i }

abbrev pub host_event : Request → ℕ → ℕ → ℕ → Answer → List ℕ → Event
host_event r i n told a o = record { call = host_call r i; started = n; index = told; answer = a; out = o }

-- the segment that a call of the protocol has handed out, if any, or else one of before
sent_before : (k : SenderCall) (a : ends.Answer) (i : ℕ) (g : Segment) {P : Type 0} → P → protocol.sent_by k a i g P
sent_before (SenderCall.control p) a i g x = x
sent_before (SenderCall.transfer u) a i g x = x
sent_before (SenderCall.hand_out j) a i g {P = P} x = go (protocol.done a)
  where
    go : (b : Bool) → cond b (((j ≡ i) × (a.segment ≡ g)) ⊎ P) P
    go true = inr x
    go false = x
sent_before (SenderCall.ack j q) a i g x = x
sent_before SenderCall.reclaim a i g x = x
sent_before SenderCall.noise a i g x = x

-- an Ack that the protocol is told of came with the call, and has the number of its segment
abbrev pub AckCame : End → Event → SenderCall → Type 0
AckCame h e (SenderCall.control p) = Unit {0}
AckCame h e (SenderCall.transfer u) = Unit {0}
AckCame h e (SenderCall.hand_out i) = Unit {0}
AckCame h e (SenderCall.ack i q) =
    (is host arrives e.call ≡ true)
    × (names h e.call.request.octets ≡ true)
    × IsDataAck e.call.request.octets
    × (e.call.copy_of ≡ i)
    × (q ≡ number_at i)
AckCame h e SenderCall.reclaim = Unit {0}
AckCame h e SenderCall.noise = Unit {0}

module _ (h s : End) (past : List Event) (y : Receiver) where
  -- what is to be shown after the event e, where the record meant x, the window had started at n, the record was `before`, and now is c with its octets
  -- and lengths: it means what a call of the protocol leads to
  pub record HostNext (x : Sender) (e : Event) (n : ℕ) (before c : Channel) (mem lens : List ℕ) : Type 0 where
    pub sender : Sender
    pub call : SenderCall
    pub stepped : sender ≡ (sender_step (limits h s) x call).0
    pub came : AckCame h e call
    pub inv : InvOf h s (e ∷ past) sender y
    pub numbered : Numbered h s (e ∷ past)
    pub means : Sends c mem lens sender
    pub counted : counted_on n before c ≡ sender.start
    pub waits : openings host h.index (e ∷ past) ≡ 0 → sender.phase ≡ fresh

  module _ (x : Sender) (v : InvOf h s past x y) (numbered : Numbered h s past) (small : (limits h s).window ≤ 128)
      (r : Request) (copy n told : ℕ) (a : Answer) (o : List ℕ) where
    abbrev event : Event
    event = host_event r copy n told a o

    -- no reply of the subscriber is new
    back_down : (i : ℕ) → Back h s (event ∷ past) i → Back h s past i
    back_down i b =
        record {
          packet = b.packet;
          replied = ⊎_elim (λ q. absurd (true≢false (sym q.0))) (λ q. q) b.replied;
          named = b.named;
          is_ack = b.is_ack;
        }

    -- what must be known of a Data packet that it hands out to the other end: its number, and the segment, which the protocol has handed out
    abbrev pub Handing : SenderCall → Type 0
    Handing k =
        (j : ℕ) (packet : List ℕ)
        → is host hands (host_call r copy) ≡ true
        → written event ≡ packet
        → Toward h told
        → segment_of n packet ≡ j
        → names s packet ≡ true
        → IsData packet
        → ((fields_at packet).number ≡ number_at j)
        × ((g : Segment) → carried (fields_at packet).flags (payload_in packet) ≡ g → protocol.sent_by k (sender_step (limits h s) x k).1 j g (Out h s past j g))

    pub host_next : (k : SenderCall)
        → FairAck (limits h s) small (accepted h past) (confirmed h past) (reclaimed h past) (taken s past) (Out h s past) (Back h s past) x y v k
        → AckCame h event k
        → accepted h (event ∷ past) ≡ protocol.accepted_by k (sender_step (limits h s) x k).1 (accepted h past)
        → confirmed h (event ∷ past) ≡ protocol.confirmed_by k (sender_step (limits h s) x k).1 (confirmed h past)
        → reclaimed h (event ∷ past) ≡ protocol.reclaimed_by k (sender_step (limits h s) x k).1 (reclaimed h past)
        → Handing k
        → (before c : Channel) (mem lens : List ℕ)
        → Sends c mem lens (sender_step (limits h s) x k).0
        → counted_on n before c ≡ (sender_step (limits h s) x k).0.start
        → (openings host h.index (event ∷ past) ≡ 0 → (sender_step (limits h s) x k).0.phase ≡ fresh)
        → HostNext x event n before c mem lens
    host_next k fair came acc cnt back handing before c mem lens means counted waits =
        record { sender = x2; call = k; stepped = refl; came = came; inv = inv2; numbered = numbered2; means = means; counted = counted; waits = waits }
      where
        said : ends.Answer
        said = (sender_step (limits h s) x k).1

        x2 : Sender
        x2 = (sender_step (limits h s) x k).0

        out_down : (i : ℕ) (g : Segment) → Out h s (event ∷ past) i g → protocol.sent_by k said i g (Out h s past i g)
        out_down i g q =
            ⊎_elim
            (λ w. (handing i q.packet w.0 w.1 w.2 (w.3 q.is_data_lem) q.named q.is_data_lem).1 g q.segment)
            (λ w. sent_before k said i g
            (record { packet = q.packet; handed = w; named = q.named; is_data_lem = q.is_data_lem; segment = q.segment }))
            q.handed

        kept : Inv (limits h s) (protocol.accepted_by k said (accepted h past)) (protocol.confirmed_by k said (confirmed h past)) (protocol.reclaimed_by k said (reclaimed h past)) (taken s past) (Out h s (event ∷ past)) (Back h s (event ∷ past)) x2 y
        kept =
            inv_links out_down back_down (back_later h s past event)
            (sender_keeps (limits h s) small (accepted h past) (confirmed h past) (reclaimed h past) (taken s past) (Out h s past) (Back h s past) x y v k fair)

        inv2 : InvOf h s (event ∷ past) x2 y
        inv2 =
            subst (λ (l : List DataUnit). Inv (limits h s) l (confirmed h (event ∷ past)) (reclaimed h (event ∷ past)) (taken s past) (Out h s (event ∷ past)) (Back h s (event ∷ past)) x2 y) (sym acc)
            (subst (λ (m : ℕ). Inv (limits h s) (protocol.accepted_by k said (accepted h past)) m (reclaimed h (event ∷ past)) (taken s past) (Out h s (event ∷ past)) (Back h s (event ∷ past)) x2 y) (sym cnt)
            (subst (λ (l : List DataUnit). Inv (limits h s) (protocol.accepted_by k said (accepted h past)) (protocol.confirmed_by k said (confirmed h past)) l (taken s past) (Out h s (event ∷ past)) (Back h s (event ∷ past)) x2 y) (sym back) kept))

        numbered2 : Numbered h s (event ∷ past)
        numbered2 =
            record {
              sent = λ i packet q named is.
                  ⊎_elim (λ w. (handing i packet w.0 w.1 w.2 (w.3 is) named is).0) (λ w. numbered.sent i packet w named is) q;
              back = λ i packet q named is.
                  ⊎_elim (λ w. absurd (true≢false (sym w.0))) (λ w. numbered.back i packet w named is) q;
            }

    -- a call that leaves the channel and every account as they were
    pub host_quiet : (c : Channel) (mem lens : List ℕ)
        → accepted h (event ∷ past) ≡ accepted h past
        → confirmed h (event ∷ past) ≡ confirmed h past
        → reclaimed h (event ∷ past) ≡ reclaimed h past
        → ((packet : List ℕ) → is host hands (host_call r copy) ≡ true → written event ≡ packet → Toward h told → names s packet ≡ true → IsData packet → ⊥)
        → Sends c mem lens x
        → n ≡ x.start
        → (openings host h.index (event ∷ past) ≡ 0 → x.phase ≡ fresh)
        → HostNext x event n c c mem lens
    host_quiet c mem lens acc cnt back none-handed means counted waits =
        host_next SenderCall.noise tt tt acc cnt back
        (λ j packet is wrote toward at named kind. absurd (none-handed packet is wrote toward named kind))
        c c mem lens means (counted_same n c c (λ q. refl) ∙ counted) waits
