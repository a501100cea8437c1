-- No Data is refused with 8 of which the place lies before the one up to which the subscriber accepts.
-- Assumes nothing.
use mathlib.Core.Path.{◌≡◌, refl, sym, ap, ap₂, ◌∙◌}
use mathlib.Core.Bool.{true, true≢false, false≢true}
use mathlib.Core.List.{List}
use Prim.Native.Nat.{ℕ, ◌+◌, ◌-◌, ◌≤◌, ◌<◌}
use native.Mathlib.Omega.{arith}
use lib.Dec.{eqb}
use Rattle.packet.specs.Layout.{fields_at, payload_in}
use Rattle.channel.specs.declared.record.Channel.{Channel}
use Rattle.receiver_data.specs.Sorting as sorting
use Rattle.table.specs.Serving.{record_at}
use Rattle.protocol.specs.Numbers.{number_at, distance}
use Rattle.protocol.specs.Ends.{Limits}
use Rattle.protocol.specs.Sending.{Sender}
use Rattle.protocol.specs.Receiving.{Receiver, start_of}
use Rattle.protocol.proofs.Distances.{near_is}
use Rattle.means.specs.Meaning.{carried}
use Rattle.means.proofs.FlowPlaces.{bound_room}
use Rattle.delivery.specs.Calls.{End, Kind, opens, closes, transfers, asks, takes, reclaims, hands, arrives, strays, ticks, code, Request, called, index_told}
use Rattle.delivery.specs.History.{subscriber, Event, is, names, IsData, HandedOut}
use Rattle.delivery.proofs.Nodes.{end_with}
use Rattle.delivery.proofs.Known.{InvOf, limits}
use Rattle.delivery.proofs.SubscriberFrame.{subscriber_call, subscriber_event}
use Rattle.delivery.proofs.SubscriberEnd.{Stage, opened_rank, limits_are, small}
use Rattle.room.specs.Room.{Eight}
use Rattle.room.proofs.Steps.{bound}
use Rattle.room.proofs.Filled.{filled}
use Rattle.room.proofs.SubscriberSaid.{bound_is, open_start}

arrives_is : (kind : Kind) → eqb (code kind) 6 ≡ true → kind ≡ arrives
arrives_is opens e = absurd (false≢true e)
arrives_is closes e = absurd (false≢true e)
arrives_is transfers e = absurd (false≢true e)
arrives_is asks e = absurd (false≢true e)
arrives_is takes e = absurd (false≢true e)
arrives_is reclaims e = absurd (false≢true e)
arrives_is hands e = absurd (false≢true e)
arrives_is arrives e = refl
arrives_is strays e = absurd (false≢true e)
arrives_is ticks e = absurd (false≢true e)

-- the record and the protocol reckon alike
away_is : (a b c d : ℕ) → a ≡ c → b ≡ d → sorting.distance a b ≡ distance c d
unfolding distance
away_is a b c d e f = ap₂ (λ (p q : ℕ). sorting.distance p q) e f

-- Data handed out lies before what was not
pub handed_below : (h s : End) (past : List Event) (x : Sender) (y : Receiver) → InvOf h s past x y → (i : ℕ) (packet : List ℕ)
    → names s packet ≡ true → IsData packet → HandedOut h past i packet → i < x.next
handed_below h s past x y inv i packet named kind handed =
    (inv.link.packets i (carried (fields_at packet).flags (payload_in packet)) (record { packet = packet; handed = handed; named = named; is_data_lem = kind; segment = refl })).0

-- and in the window of the subscriber
pub below_ahead : (h s : End) (past : List Event) (x : Sender) (y : Receiver) → InvOf h s past x y → (i : ℕ) → i < x.next → i < start_of y + (limits h s).window
below_ahead h s past x y inv i below = omega (arith, below, inv.window.within, inv.gap.low, inv.gap.high)

module _ {h s : End} {past : List Event} {x : Sender} {y : Receiver} {t : List Channel} {mem lens lines : List ℕ} {n : ℕ} (w : Stage h s past x y t mem lens lines n)
    (r : Request) (copy : ℕ) (reach : x.next ≤ bound (limits h s) y)
    (near : is subscriber arrives (subscriber_call r copy) ≡ true → names s r.octets ≡ true → IsData r.octets → n ≤ copy + (limits h s).window)
    (handed : is subscriber arrives (subscriber_call r copy) ≡ true → names s r.octets ≡ true → IsData r.octets → HandedOut h past copy r.octets) where
  abbrev u : List ℕ
  u = r.octets

  abbrev k : ℕ
  k = (limits h s).window

  abbrev c : Channel
  c = record_at t s.index

  abbrev event : Event
  event = subscriber_event r copy n (index_told (end_with s t mem lens lines n) r) (called (end_with s t mem lens lines n) r).answer (called (end_with s t mem lens lines n) r).out

  pub no_eight : Eight s event → ⊥
  no_eight eight =
      let at = eight.0 in
      let named = eight.1 in
      let kind = eight.2 in
      let full = filled w r copy (arrives_is r.kind at) named kind eight.3 in
      let sent = handed at named kind in
      let d = sorting.distance (fields_at u).number c.window.start in
      let means = w.now.means in
      let away : d ≡ distance (number_at copy) (number_at (start_of y))
      = away_is (fields_at u).number c.window.start (number_at copy) (number_at (start_of y)) (w.numbered.sent copy u sent named kind)
      (open_start (limits h s) c.limits (limits_are w) c _ _ y means full.opened)
      in
      let two = opened_rank y.phase (sym means.state ∙ full.opened) in
      let window : c.limits.window ≡ k = sym (ap (λ (l : Limits). l.window) (limits_are w)) in
      let below = handed_below h s past x y w.inv copy u named kind sent in
      let late : start_of y ≤ copy + (256 - k) = omega (arith, near at named kind, w.now.counted (omega (arith, two)), small w) in
      let is : start_of y + d ≡ copy
      = ap (λ (m : ℕ). start_of y + m) away
      ∙ near_is (start_of y) copy k (small w) (below_ahead h s past x y w.inv copy below) late (omega (arith, full.near, away, window))
      in
      let room = bound_room c.limits c.window (start_of y) d (omega (arith, is, below, reach, bound_is (limits h s) c.limits (limits_are w) c _ _ y means full.opened)) in
      true≢false (sym full.full ∙ room)
