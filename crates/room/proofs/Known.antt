-- What is known of a run on a link that keeps order, beside what demand 3 has of it (crate delivery): three chains of numbers over what may still arrive.
-- Assumes nothing.
use mathlib.Core.Path.{◌≡◌}
use mathlib.Core.Bool.{true}
use mathlib.Core.List.{List, ◌∷◌, ◌++◌}
use mathlib.Core.Logic.{◌⊎◌}
use Prim.Native.Nat.{ℕ, ◌+◌, ◌%◌, ◌≤◌, ◌<◌}
use Rattle.packet.specs.declared.kinds.Kind.TheVariants as kinds
use Rattle.packet.specs.Kinds.{kind_of}
use Rattle.packet.specs.Layout.{fields_at}
use Rattle.channel.specs.declared.record.Channel.{Channel}
use Rattle.protocol.specs.Ends.{opened, rank}
use Rattle.protocol.specs.Sending.{Sender}
use Rattle.protocol.specs.Receiving.{Receiver, start_of}
use Rattle.delivery.specs.Calls.{End, hands}
use Rattle.delivery.specs.History.{host, Event, is, names, IsData, IsDataAck}
use Rattle.delivery.proofs.Known.{Back, limits}
use Rattle.room.specs.Order.{Sent, Told}
use Rattle.room.proofs.Chains.{Chain}
use Rattle.room.proofs.Steps.{bound}
use Rattle.room.proofs.Marks.{Has}
use Rattle.room.proofs.HostFlow.{recorded_of, Heard, stated_of}

module _ (h s : End) where
  abbrev pub k : ℕ
  k = (limits h s).window

  -- ---- the links of the chains: an event, and a number before and after it

  -- the place up to which the subscriber accepts: it is what a packet for the host states; the Ack of a Control packet may state the window instead
  abbrev pub Tells : List Event → Event → ℕ → ℕ → Type 0
  Tells before e from to =
      (i : ℕ) (packet : List ℕ)
      → Told s i packet e
      → names h packet ≡ true
      → (Heard packet → stated_of packet ≡ to % 256)
      × (kind_of (fields_at packet).kind ≡ kinds.ControlAck → (stated_of packet ≡ k % 256) ⊎ (stated_of packet ≡ to % 256))

  -- what the host has handed out: Data is of it, and all that was handed out before lies before the end of the window
  abbrev pub Sends : List Event → Event → ℕ → ℕ → Type 0
  Sends before e from to =
      (is host hands e.call ≡ true → from ≤ e.started + k)
      × ((i : ℕ) (packet : List ℕ) → Sent h i packet e → names s packet ≡ true → IsData packet → i < to)

  -- the first segment that no Data Ack has answered; what is answered lies at most a window behind it
  abbrev pub Leaves : List Event → Event → ℕ → ℕ → Type 0
  Leaves before e from to =
      ((i : ℕ) (packet : List ℕ) → Told s i packet e → names h packet ≡ true → IsDataAck packet → from ≤ i + k) × (Back h s (e ∷ before) to → ⊥)

  -- ---- what is known, where the host's record is c, the subscriber's window has started at n, and `queue` may still arrive

  -- to the host: no segment was handed out past the place recorded, nor one past what the subscriber accepts
  pub record Said (x : Sender) (y : Receiver) (c : Channel) (queue : List Event) : Type 0 where
    pub older : List Event
    pub place : ℕ
    pub chain : Chain Tells older (bound (limits h s) y) place queue
    pub reach : x.next ≤ bound (limits h s) y
    pub early : rank x.phase ≤ 1 → (x.next ≡ 0) × (place ≡ k)
    pub live : x.phase ≡ opened → (recorded_of c ≡ place % 256) × (x.next ≤ place)

  -- to the subscriber: it has none that was not handed out before
  pub record Handed (past : List Event) (x : Sender) (y : Receiver) (n : ℕ) (queue : List Event) : Type 0 where
    pub older : List Event
    pub whole : past ≡ queue ++ older
    pub got : ℕ
    pub chain : Chain Sends older x.next got queue
    pub filed : rank y.phase ≤ 2 → (j : ℕ) → Has y j → j < got
    pub counted : n ≤ got

  -- to the host: it knows of no Data Ack but those that came, and its start is not past the first segment that they leave
  pub record Awaited (past : List Event) (x : Sender) (y : Receiver) (queue : List Event) : Type 0 where
    pub older : List Event
    pub whole : past ≡ queue ++ older
    pub hole : ℕ
    pub now : ℕ
    pub chain : Chain Leaves older now hole queue
    pub start : x.start ≤ hole
    pub marks : (j : ℕ) → x.acked j ≡ true → Back h s older j
    pub silent : Back h s older hole → ⊥
    pub still : Back h s past now → ⊥
    pub now_is : rank y.phase ≤ 2 → now ≡ start_of y
