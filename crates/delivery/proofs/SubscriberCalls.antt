-- Every call at the subscriber keeps what is known.
-- Assumes nothing.
use mathlib.Core.Path.{◌≡◌, refl}
use mathlib.Core.Bool.{true}
use mathlib.Core.List.{List}
use Prim.Native.Nat.{ℕ}
use Rattle.walks.specs.Serving.{Called}
use Rattle.channel.specs.declared.record.Channel.{Channel}
use Rattle.channel.specs.declared.answer.Answer.{Answer}
use Rattle.table.specs.Serving.{record_at, own_mem, own_lens}
use Rattle.protocol.specs.Sending.{Sender}
use Rattle.protocol.specs.Receiving.{Receiver}
use Rattle.delivery.specs.Calls.{End, Kind, opens, closes, transfers, asks, takes, reclaims, hands, arrives, strays, ticks, Request, called, index_told}
use Rattle.delivery.specs.History.{subscriber, Event, is, granted, binds, IsData, HandedOut, openings}
use Rattle.delivery.specs.Delivery.{Fresh, Alike, NotLate}
use Rattle.delivery.proofs.Nodes.{end_with}
use Rattle.delivery.proofs.Known.{InvOf, Numbered, Subscriber}
use Rattle.delivery.proofs.SubscriberFrame.{subscriber_call, subscriber_event, SubscriberNext}
use Rattle.delivery.proofs.SubscriberEnd.{Stage}
use Rattle.delivery.proofs.SubscriberRequests.{subscriber_opens, subscriber_closes, subscriber_transfers, subscriber_asks, subscriber_reclaims, subscriber_hands, subscriber_strays}
use Rattle.delivery.proofs.SubscriberTakes.{subscriber_takes}
use Rattle.delivery.proofs.SubscriberTicks.{subscriber_ticks}
use Rattle.delivery.proofs.SubscriberArrivals.{subscriber_arrives}

module _ (h s : End) (fresh-h : Fresh h) (fresh-s : Fresh s) (alike : Alike h s) (past : List Event) (x : Sender) (y : Receiver)
    (v : InvOf h s past x y) (numbered : Numbered h s past) (t : List Channel) (mem lens lines : List ℕ) (n : ℕ) (now : Subscriber s past t mem lens n y) where
  -- what the call gives, and what it is in the history
  abbrev outcome : Request → Called Answer Channel
  outcome r = called (end_with s t mem lens lines n) r

  abbrev event : Request → ℕ → Event
  event r copy = subscriber_event r copy n (index_told (end_with s t mem lens lines n) r) (outcome r).answer (outcome r).out

  abbrev After : Request → ℕ → Type 0
  After r copy =
      SubscriberNext h s past x y (event r copy) n (record_at t s.index) (record_at (outcome r).table s.index)
      (own_mem (outcome r).table s.index (outcome r).mem) (own_lens (outcome r).table s.index (outcome r).lens)

  -- the premises on a call
  abbrev FairArrival : Request → ℕ → Type 0
  FairArrival r copy =
      is subscriber arrives (subscriber_call r copy) ≡ true
      → binds s r.octets ≡ true
      → HandedOut h past copy r.octets × (IsData r.octets → NotLate (end_with s t mem lens lines n) copy)

  abbrev FairOpening : Request → ℕ → Type 0
  FairOpening r copy = granted subscriber opens s.index (event r copy) ≡ true → openings subscriber s.index past ≡ 0

  stage : Stage h s past x y t mem lens lines n
  stage = record { beginning = fresh-s; alike = alike; inv = v; numbered = numbered; now = now }

  pub subscriber_call_lem : (r : Request) (copy : ℕ) → FairArrival r copy → FairOpening r copy → After r copy
  subscriber_call_lem r copy = go r.kind r.channel r.octets r.buffer
    where
      go : (kind : Kind) (channel : ℕ) (octets buffer : List ℕ)
          → FairArrival (record { kind = kind; channel = channel; octets = octets; buffer = buffer }) copy
          → FairOpening (record { kind = kind; channel = channel; octets = octets; buffer = buffer }) copy
          → After (record { kind = kind; channel = channel; octets = octets; buffer = buffer }) copy
      go opens channel octets buffer arrival opening = subscriber_opens stage channel octets buffer copy opening
      go closes channel octets buffer arrival opening = subscriber_closes stage channel octets buffer copy
      go transfers channel octets buffer arrival opening = subscriber_transfers stage channel octets buffer copy
      go asks channel octets buffer arrival opening = subscriber_asks stage channel octets buffer copy
      go takes channel octets buffer arrival opening = subscriber_takes stage channel octets buffer copy
      go reclaims channel octets buffer arrival opening = subscriber_reclaims stage channel octets buffer copy
      go hands channel octets buffer arrival opening = subscriber_hands stage channel octets buffer copy
      go arrives channel octets buffer arrival opening = subscriber_arrives stage channel octets buffer copy (arrival refl)
      go strays channel octets buffer arrival opening = subscriber_strays stage channel octets buffer copy
      go ticks channel octets buffer arrival opening = subscriber_ticks stage channel octets buffer copy
