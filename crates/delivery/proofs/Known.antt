-- The invariant of a run: two ends of the protocol that the two records mean, the protocol's invariant over the readings of the real history, and
-- what the packets in it carry.
-- Assumes nothing.
use mathlib.Core.Path.{◌≡◌}
use mathlib.Core.Bool.{true}
use mathlib.Core.List.{List, ◌∷◌}
use mathlib.Core.Logic.{inr}
use Prim.Native.Nat.{ℕ, ◌≤◌}
use Rattle.packet.specs.Layout.{fields_at, payload_in}
use Rattle.channel.specs.declared.record.Channel.{Channel}
use Rattle.table.specs.Serving.{record_at, own_mem, own_lens}
use Rattle.protocol.specs.Numbers.{number_at}
use Rattle.protocol.specs.Units.{DataUnit, Segment}
use Rattle.protocol.specs.Ends.{Limits, fresh, rank}
use Rattle.protocol.specs.Sending.{Sender}
use Rattle.protocol.specs.Receiving.{Receiver, start_of}
use Rattle.protocol.proofs.Invariant.{Inv}
use Rattle.means.specs.Meaning.{limits_of, carried}
use Rattle.means.proofs.Sends.{Sends}
use Rattle.means.proofs.Receives.{Receives}
use Rattle.delivery.specs.Calls.{End, channel_of}
use Rattle.delivery.specs.History.{host, subscriber, Event, names, IsData, IsDataAck, HandedOut, Replied, openings, accepted, confirmed, reclaimed, taken}
use Rattle.delivery.proofs.Nodes.{Kept}

-- ---- what the link has, as the protocol sees it

module _ (h s : End) where
  -- Data for the segment i, with the segment g
  pub record Out (past : List Event) (i : ℕ) (g : Segment) : Type 0 where
    pub packet : List ℕ
    pub handed : HandedOut h past i packet
    pub named : names s packet ≡ true
    pub is_data_lem : IsData packet
    pub segment : carried (fields_at packet).flags (payload_in packet) ≡ g

  -- a Data Ack for the segment i
  pub record Back (past : List Event) (i : ℕ) : Type 0 where
    pub packet : List ℕ
    pub replied : Replied s past i packet
    pub named : names h packet ≡ true
    pub is_ack : IsDataAck packet

  -- what was replied stays so
  pub back_later : (past : List Event) (e : Event) (i : ℕ) → Back past i → Back (e ∷ past) i
  back_later past e i b = record { packet = b.packet; replied = inr b.replied; named = b.named; is_ack = b.is_ack }

  abbrev pub limits : Limits
  limits = limits_of (channel_of h).limits

  abbrev pub InvOf : List Event → Sender → Receiver → Type 0
  InvOf past x y = Inv limits (accepted h past) (confirmed h past) (reclaimed h past) (taken s past) (Out past) (Back past) x y

  -- the numbers on packets are those of their segments
  pub record Numbered (past : List Event) : Type 0 where
    pub sent : (i : ℕ) (packet : List ℕ) → HandedOut h past i packet → names s packet ≡ true → IsData packet → (fields_at packet).number ≡ number_at i
    pub back : (i : ℕ) (packet : List ℕ) → Replied s past i packet → names h packet ≡ true → IsDataAck packet → (fields_at packet).number ≡ number_at i

-- ---- an end: what is lent to its node, how far the window is counted on, and the protocol's end that its record means

pub record Host (h : End) (past : List Event) (t : List Channel) (mem lens : List ℕ) (n : ℕ) (x : Sender) : Type 0 where
  pub kept : Kept h t mem lens
  pub means : Sends (record_at t h.index) (own_mem t h.index mem) (own_lens t h.index lens) x
  pub counted : n ≡ x.start
  pub waits : openings host h.index past ≡ 0 → x.phase ≡ fresh

pub record Subscriber (s : End) (past : List Event) (t : List Channel) (mem lens : List ℕ) (n : ℕ) (y : Receiver) : Type 0 where
  pub kept : Kept s t mem lens
  pub means : Receives (record_at t s.index) (own_mem t s.index mem) (own_lens t s.index lens) y
  -- until OPEN is left: at a break of the flags the protocol's start moves on, and nothing is counted any more
  pub counted : rank y.phase ≤ 2 → n ≡ start_of y
  pub waits : openings subscriber s.index past ≡ 0 → y.phase ≡ fresh

-- ---- the protocol's invariant over other readings that say the same

module _ {c : Limits} {acc : List DataUnit} {cnt : ℕ} {back tak : List DataUnit} {O P : ℕ → Segment → Type 0} {B D : ℕ → Type 0} {x : Sender} {y : Receiver} where
  pub inv_links : ((i : ℕ) (g : Segment) → P i g → O i g) → ((i : ℕ) → D i → B i) → ((i : ℕ) → B i → D i)
      → Inv c acc cnt back tak O B x y → Inv c acc cnt back tak P D x y
  inv_links out down up v =
      record {
        book = v.book;
        window = v.window;
        link =
            record {
              packets = λ i g p. v.link.packets i g (out i g p);
              acks = λ i p. v.link.acks i (down i p);
              marks = λ i e. up i (v.link.marks i e);
            };
        copy = v.copy;
        gap =
            record {
              hole = v.gap.hole;
              low = v.gap.low;
              high = v.gap.high;
              silent = λ p. v.gap.silent (down v.gap.hole p);
              got = λ i p. v.gap.got i (down i p);
              early = v.gap.early;
            };
        took = v.took;
      }
