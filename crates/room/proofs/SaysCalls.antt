-- What the subscriber tells the host by any call.
-- Assumes nothing.
use mathlib.Core.Path.{◌≡◌}
use mathlib.Core.Bool.{Bool, true, false}
use mathlib.Core.List.{List}
use Prim.Native.Nat.{ℕ}
use native.Mathlib.Omega.{arith}
use borrow.Author.Tests.{eqb-true}
use lib.Dec.{eqb}
use Rattle.packet.specs.Kinds.{kind_of}
use Rattle.packet.specs.Layout.{fields_at}
use Rattle.channel.specs.declared.record.Channel.{Channel}
use Rattle.channel.specs.Flow.{flows}
use Rattle.table.specs.Serving.{record_at}
use Rattle.protocol.specs.Sending.{Sender}
use Rattle.protocol.specs.Receiving.{Receiver}
use Rattle.delivery.specs.Calls.{End, Kind, opens, closes, transfers, asks, takes, reclaims, hands, arrives, strays, ticks, code, Request, called_by, called}
use Rattle.delivery.specs.History.{Event}
use Rattle.delivery.proofs.Own.{Seen}
use Rattle.delivery.proofs.Nodes.{end_with}
use Rattle.delivery.proofs.SubscriberEnd.{Stage}
use Rattle.room.specs.Order.{wrote_by, is_flow as isSix}
use Rattle.room.proofs.Says.{Saying}
use Rattle.room.proofs.SaysArrivals.{says_arrives}
use Rattle.room.proofs.SaysHands.{says_hands}

-- a call that is neither an arrival nor for the next packet writes none
no_writer : (k : ℕ) → (k ≡ code hands → ⊥) → (k ≡ code arrives → ⊥) → (b : Bool) → eqb k (code (wrote_by b)) ≡ true → ⊥
no_writer k other another true e = other (eqb-true k _ e)
no_writer k other another false e = another (eqb-true k _ e)

module _ {h s : End} {past : List Event} {x : Sender} {y : Receiver} {t : List Channel} {mem lens lines : List ℕ} {n : ℕ} (w : Stage h s past x y t mem lens lines n)
    (r : Request) (copy : ℕ) where
  abbrev SaysBy : Kind → ℕ → List ℕ → List ℕ → Type 0
  SaysBy kind channel octets buffer =
      let r : Request = record { kind = kind; channel = channel; octets = octets; buffer = buffer } in
      Seen (Saying w r copy) s.index (called_by kind (end_with s t mem lens lines n) r)

  pub says : flows (record_at t s.index).limits ≡ true → Seen (Saying w r copy) s.index (called (end_with s t mem lens lines n) r)
  says used = go r.kind r.channel r.octets r.buffer
    where
      idle : (kind : Kind) (channel : ℕ) (octets buffer : List ℕ) → (code kind ≡ code hands → ⊥) → (code kind ≡ code arrives → ⊥) → SaysBy kind channel octets buffer
      idle kind channel octets buffer other another i packet told named =
          absurd (no_writer (code kind) other another (isSix (kind_of (fields_at packet).kind)) told.0)

      go : (kind : Kind) (channel : ℕ) (octets buffer : List ℕ) → SaysBy kind channel octets buffer
      go opens channel octets buffer = idle opens channel octets buffer (λ e. omega (arith, e)) (λ e. omega (arith, e))
      go closes channel octets buffer = idle closes channel octets buffer (λ e. omega (arith, e)) (λ e. omega (arith, e))
      go transfers channel octets buffer = idle transfers channel octets buffer (λ e. omega (arith, e)) (λ e. omega (arith, e))
      go asks channel octets buffer = idle asks channel octets buffer (λ e. omega (arith, e)) (λ e. omega (arith, e))
      go takes channel octets buffer = idle takes channel octets buffer (λ e. omega (arith, e)) (λ e. omega (arith, e))
      go reclaims channel octets buffer = idle reclaims channel octets buffer (λ e. omega (arith, e)) (λ e. omega (arith, e))
      go hands channel octets buffer = says_hands w channel octets buffer copy
      go arrives channel octets buffer = says_arrives w channel octets buffer copy used
      go strays channel octets buffer = idle strays channel octets buffer (λ e. omega (arith, e)) (λ e. omega (arith, e))
      go ticks channel octets buffer = idle ticks channel octets buffer (λ e. omega (arith, e)) (λ e. omega (arith, e))
