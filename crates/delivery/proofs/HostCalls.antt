-- Every call at the host keeps what is known.
-- Assumes nothing.
use mathlib.Core.Path.{◌≡◌, refl, sym, ap, subst}
use mathlib.Core.Bool.{true, true≢false}
use mathlib.Core.List.{List, []}
use Prim.Native.Nat.{ℕ}
use Rattle.channel.specs.declared.record.Channel.{Channel}
use Rattle.channel.specs.declared.answer.Answer.TheVariants.{Refused}
use Rattle.channel.specs.declared.answer.Refusal.TheVariants as refusal
use Rattle.sender.specs.Ticking.{tick_step}
use Rattle.table.specs.Serving.{record_at, own_mem, own_lens}
use Rattle.channel.specs.declared.step.Ticked.{Ticked}
use Rattle.ticks.proofs.TickLaws.{tick_sends as ticked-sends}
use Rattle.ticks.specs.Ticks.{ticked}
use Rattle.keeps.specs.Keeping.{staying}
use Rattle.protocol.specs.Sending.{Sender}
use Rattle.protocol.specs.Receiving.{Receiver}
use Rattle.means.proofs.SenderControl.{tick_sends}
use Rattle.delivery.specs.Calls.{End, Kind, opens, closes, transfers, asks, takes, reclaims, hands, arrives, strays, ticks, Request, called, index_told}
use Rattle.delivery.specs.History.{host, Event, is, granted, binds, IsDataAck, Replied, openings}
use Rattle.delivery.specs.Delivery.{Fresh, Alike, NotLate}
use Rattle.delivery.proofs.Nodes.{end_with}
use Rattle.delivery.proofs.Known.{InvOf, Numbered, Host}
use Rattle.delivery.proofs.HostFrame.{host_call, host_event, HostNext}
use Rattle.delivery.proofs.Own.{Seen}
use Rattle.delivery.proofs.Ticked.{tick_seen}
use Rattle.delivery.proofs.HostNow.{HostAt, asking, own, octets, lengths, own_below, own_sends, asked, Next, stays_so, moves_on}
use Rattle.delivery.proofs.HostRequests.{host_opens, host_closes, host_asks, host_strays, host_takes}
use Rattle.delivery.proofs.HostUnits.{host_transfers, host_reclaims}
use Rattle.delivery.proofs.HostHanding.{host_hands}
use Rattle.delivery.proofs.HostArrivals.{host_arrives}

-- ---- a tick

module _ {h s : End} {past : List Event} {x : Sender} {y : Receiver} {t : List Channel} {mem lens lines : List ℕ} {n : ℕ}
    (k : HostAt h s past x y t mem lens lines n) where
  pub host_ticks : (copy i : ℕ) (u b : List ℕ) → Seen (Next k (asking ticks i u b) copy) h.index (staying (ticked t mem lens lines) mem lens)
  host_ticks copy i u b =
      let c = (tick_step (own k)).channel in
      let request = asking ticks i u b in
      tick_seen (Next k request copy) t mem lens lines h.index (own_below k)
      (stays_so k request copy (Refused refusal.Settings) [] refl refl refl (λ packet q. absurd (true≢false (sym q))))
      (subst (λ (z : Channel). Next k request copy (ticked t mem lens lines).answer [] z (octets k) (lengths k))
      (sym (ap (λ (z : Ticked). z.channel) (ticked-sends (own k) (own_sends k))))
      (moves_on k request copy (ticked t mem lens lines).answer [] refl refl refl refl c
      (tick_sends (own k) (octets k) (lengths k) x (asked k) (own_sends k) k.now.means)))

-- ---- each call

module _ (h s : End) (fresh-h : Fresh h) (fresh-s : Fresh s) (alike : Alike h s) (past : List Event) (x : Sender) (y : Receiver) (v : InvOf h s past x y)
    (numbered : Numbered h s past) (t : List Channel) (mem lens lines : List ℕ) (n : ℕ) (now : Host h past t mem lens n x) where
  at : HostAt h s past x y t mem lens lines n
  at = record { fresh_host = fresh-h; alike = alike; inv = v; numbered = numbered; now = now }

  -- what the host is asked, and where that leads
  abbrev pub HostCall : Request → ℕ → Type 0
  HostCall r copy =
      let g = called (end_with h t mem lens lines n) r in
      (is host arrives (host_call r copy) ≡ true → binds h r.octets ≡ true
      → Replied s past copy r.octets × (IsDataAck r.octets → NotLate (end_with h t mem lens lines n) copy))
      → (granted host opens h.index (host_event r copy n (index_told (end_with h t mem lens lines n) r) g.answer g.out) ≡ true → openings host h.index past ≡ 0)
      → HostNext h s past y x (host_event r copy n (index_told (end_with h t mem lens lines n) r) g.answer g.out) n (record_at t h.index) (record_at g.table h.index)
      (own_mem g.table h.index g.mem) (own_lens g.table h.index g.lens)

  by_kind : (kind : Kind) (i : ℕ) (u b : List ℕ) (copy : ℕ) → HostCall (asking kind i u b) copy
  by_kind opens i u b copy fair once = host_opens at copy i u b once
  by_kind closes i u b copy fair once = host_closes at copy i u b
  by_kind transfers i u b copy fair once = host_transfers at copy i u b
  by_kind asks i u b copy fair once = host_asks at copy i u b
  by_kind takes i u b copy fair once = host_takes at copy i u b
  by_kind reclaims i u b copy fair once = host_reclaims at copy i u b
  by_kind hands i u b copy fair once = host_hands at copy i u b
  by_kind arrives i u b copy fair once = host_arrives at copy i u b (fair refl)
  by_kind strays i u b copy fair once = host_strays at copy i u b
  by_kind ticks i u b copy fair once = host_ticks at copy i u b

  pub host_call_lem : (r : Request) (copy : ℕ) → HostCall r copy
  host_call_lem r copy = by_kind r.kind r.channel r.octets r.buffer copy
