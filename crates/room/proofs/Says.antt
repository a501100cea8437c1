-- What the subscriber tells the host (document 02, A5): Flow Control and an Ack of Data state the number of the window that they leave, in OPEN; an Ack of
-- Data answers Data; and an Ack of Control states the first number, or that of the window in OPEN.
-- Assumes nothing.
use mathlib.Core.Path.{◌≡◌, sym, ap, ◌∙◌, subst}
use mathlib.Core.Bool.{Bool, true, true≢false}
use mathlib.Core.List.{List, [], ◌∷◌}
use mathlib.Core.Logic.{◌⊎◌, ⊎_elim}
use Prim.Native.Nat.{ℕ, ◌<◌}
use native.Mathlib.Omega.{arith}
use lib.ListN.{length, take}
use Rattle.std.specs.Prelude.{if◌then◌else◌}
use Rattle.packet.specs.declared.kinds.Kind as packets
use Rattle.packet.specs.declared.kinds.Kind.TheVariants as kinds
use Rattle.packet.specs.Kinds.{kind_of, code_of}
use Rattle.packet.specs.Layout.{fields_at, length_at, payload_in}
use Rattle.channel.specs.declared.record.Addresses.{Addresses}
use Rattle.channel.specs.declared.record.Limits.{Limits}
use Rattle.channel.specs.declared.record.Channel.{Channel}
use Rattle.channel.specs.declared.answer.Answer.{Answer}
use Rattle.channel.specs.Record as state
use Rattle.channel.specs.Record.{receives}
use Rattle.channel.specs.Answers.{length_of}
use Rattle.channel.specs.Prefixes.{same_prefix}
use Rattle.channel.specs.Flow.{stated}
use Rattle.table.specs.Serving.{record_at}
use Rattle.arrivals.specs.Arriving.{stated_in}
use Rattle.arrivals.specs.Finding.{prefix_read}
use Rattle.protocol.specs.Sending.{Sender}
use Rattle.protocol.specs.Receiving.{Receiver}
use Rattle.delivery.specs.Calls.{End, Request, channel_of, index_told}
use Rattle.delivery.specs.History.{Event, is, names, IsData, IsDataAck, Toward}
use Rattle.delivery.specs.Delivery.{rivals}
use Rattle.delivery.proofs.Own.{View}
use Rattle.delivery.proofs.Nodes.{end_with, same_length, same_addresses}
use Rattle.delivery.proofs.Packets.{named_is, names_nothing, equal_rivals}
use Rattle.delivery.proofs.HostHanding.{ours_to, same_channel}
use Rattle.delivery.proofs.SubscriberFrame.{subscriber_event}
use Rattle.delivery.proofs.SubscriberEnd.{Stage}
use Rattle.room.specs.Order.{Told}
use Rattle.room.proofs.HostFlow.{Heard, stated_of}

-- what a packet of the subscriber for the host says, where the arrival, if it was one, was u, the limits are l, and the record afterwards is c
pub record Says (s : End) (l : Limits) (u packet : List ℕ) (c : Channel) : Type 0 where
  pub heard : Heard packet → (c.phase.state ≡ state.opened) × (stated_of packet ≡ stated l c.window)
  pub answers : IsDataAck packet → (names s u ≡ true) × IsData u
  pub first : kind_of (fields_at packet).kind ≡ kinds.ControlAck
      → (stated_of packet ≡ l.window) ⊎ ((c.phase.state ≡ state.opened) × (stated_of packet ≡ stated l c.window))

-- ---- what a packet says, by its kind

module _ (s : End) (l : Limits) (u packet : List ℕ) (c : Channel) where
  abbrev Of : packets.Kind → Type 0
  Of kind = kind_of (fields_at packet).kind ≡ kind

  -- no kind is two kinds
  not_both : {A : Type 0} (k j : packets.Kind) → (code_of k ≡ code_of j → ⊥) → Of k → Of j → A
  not_both k j apart e f = absurd (apart (ap code_of (sym e ∙ f)))

  -- it is none of the three
  pub says_beside : (Of kinds.DataAck → ⊥) → (Of kinds.FlowControl → ⊥) → (Of kinds.ControlAck → ⊥) → Says s l u packet c
  says_beside data_ack six control =
      record {
        heard = λ k. ⊎_elim (λ e. absurd (data_ack e)) (λ e. absurd (six e)) k;
        answers = λ e. absurd (data_ack e);
        first = λ e. absurd (control e);
      }

  pub says_data : Of kinds.DataAck → c.phase.state ≡ state.opened → stated_of packet ≡ stated l c.window → names s u ≡ true → IsData u → Says s l u packet c
  says_data is now number named kind =
      record {
        heard = λ _. (now, number);
        answers = λ _. (named, kind);
        first = λ e. not_both kinds.DataAck kinds.ControlAck (λ q. omega (arith, q)) is e;
      }

  pub says_flow : Of kinds.FlowControl → c.phase.state ≡ state.opened → stated_of packet ≡ stated l c.window → Says s l u packet c
  says_flow is now number =
      record {
        heard = λ _. (now, number);
        answers = λ e. not_both kinds.FlowControl kinds.DataAck (λ q. omega (arith, q)) is e;
        first = λ e. not_both kinds.FlowControl kinds.ControlAck (λ q. omega (arith, q)) is e;
      }

  pub says_control : Of kinds.ControlAck → (stated_of packet ≡ l.window) ⊎ ((c.phase.state ≡ state.opened) × (stated_of packet ≡ stated l c.window)) → Says s l u packet c
  says_control is number =
      record {
        heard = λ k.
            ⊎_elim (λ e. not_both kinds.ControlAck kinds.DataAck (λ q. omega (arith, q)) is e) (λ e. not_both kinds.ControlAck kinds.FlowControl (λ q. omega (arith, q)) is e) k;
        answers = λ e. not_both kinds.ControlAck kinds.DataAck (λ q. omega (arith, q)) is e;
        first = λ _. number;
      }

-- the number stated, where an octet is carried
pub one_stated : (b : Bool) (x : ℕ) (packet : List ℕ) → payload_in packet ≡ take (if b then 1 else 0) (x ∷ []) → b ≡ true → stated_of packet ≡ x
one_stated b x packet e some = ap stated_in e ∙ ap (λ (b : Bool). stated_in (take (if b then 1 else 0) (x ∷ []))) some

-- ---- what is to be shown of a call at the subscriber

module _ {h s : End} {past : List Event} {x : Sender} {y : Receiver} {t : List Channel} {mem lens lines : List ℕ} {n : ℕ} (w : Stage h s past x y t mem lens lines n)
    (r : Request) (copy : ℕ) where
  -- of a packet that it writes for the host
  abbrev pub Saying : View
  Saying a o c m l =
      (i : ℕ) (packet : List ℕ)
      → Told s i packet (subscriber_event r copy n (index_told (end_with s t mem lens lines n) r) a o)
      → names h packet ≡ true
      → Says s (record_at t s.index).limits r.octets packet c

  -- it writes nothing
  pub unsaid : (a : Answer) (o : List ℕ) (c : Channel) (m l : List ℕ) → take (length_of a) o ≡ [] → Saying a o c m l
  unsaid a o c m l e i packet told named = absurd (true≢false (sym named ∙ ap (names h) (sym told.1 ∙ e) ∙ names_nothing h))

  -- no packet is for both this channel and another
  pub alone_here : (j : ℕ) → j < length t → (j ≡ s.index → ⊥) → rivals (record_at t j).addresses (channel_of s).addresses ≡ true → ⊥
  alone_here j there apart equal =
      true≢false
      (sym equal ∙ ap (λ (b : Addresses). rivals b (channel_of s).addresses) (same_addresses s t mem lens w.now.kept j)
      ∙ w.beginning.alone j (subst (λ (k : ℕ). j < k) (same_length s t mem lens w.now.kept) there) apart)

  -- a packet of another receiver, toward the host, does not name the host's channel
  pub other_end : (j : ℕ) → j < length t → (j ≡ s.index → ⊥) → Toward s j → (record_at t j).addresses.direction ≡ receives
      → (packet : List ℕ) → (fields_at packet).destination ≡ (record_at t j).addresses.remote → (fields_at packet).channel ≡ (record_at t j).addresses.channel
      → names h packet ≡ true → ⊥
  other_end j there apart toward direction packet to on named =
      let d : Addresses = (record_at t j).addresses in
      let q = named_is h packet named in
      let begun : d ≡ (record_at s.table j).addresses = same_addresses s t mem lens w.now.kept j in
      alone_here j there apart
      (equal_rivals d (channel_of s).addresses
      (sym on ∙ sym (same_channel (channel_of h).addresses (fields_at packet) (length_at packet) (prefix_read packet) q.same) ∙ w.alike.number)
      (sym to ∙ ours_to h.node (fields_at packet) q.ours ∙ sym w.alike.to_host_end)
      (direction ∙ sym w.alike.receives)
      (subst (λ (b : Addresses). same_prefix b.prefix (channel_of s).addresses.prefix ≡ true) (sym begun) toward))
