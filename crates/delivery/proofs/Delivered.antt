-- Demand 3 of the real calls: what is known holds at the beginning, each call keeps it, and it says what is claimed.
-- Assumes nothing.
use mathlib.Core.List.{List, [], ◌∷◌}
use Prim.Native.Nat.{ℕ}
use Rattle.channel.specs.declared.record.Channel.{Channel}
use Rattle.table.specs.Serving.{record_at, own_mem, own_lens}
use Rattle.delivery.specs.Calls.{End, Request, after_call, called}
use Rattle.delivery.specs.History.{Side, host, subscriber, Call, Event}
use Rattle.delivery.specs.Delivery.{Fresh, Alike, Run, event_of, step, run, Fair, AllFair, Delivered, Demand3}
use Rattle.delivery.proofs.Nodes.{end_with, kept_called}
use Rattle.delivery.proofs.Run.{Holds, begins, delivered}
use Rattle.delivery.proofs.HostFrame.{HostNext}
use Rattle.delivery.proofs.HostCalls.{host_call_lem}
use Rattle.delivery.proofs.SubscriberFrame.{SubscriberNext}
use Rattle.delivery.proofs.SubscriberCalls.{subscriber_call_lem}

module _ (h s : End) (fresh-h : Fresh h) (fresh-s : Fresh s) (alike : Alike h s) where
  abbrev pub Known : List Event → End → End → Type 0
  Known = Holds h s fresh-h fresh-s alike

  module _ (past : List Event) (t : List Channel) (mem lens lines : List ℕ) (n : ℕ) (u : List Channel) (mem2 lens2 lines2 : List ℕ) (m : ℕ) where
    abbrev pub now : Run
    now = record { past = past; host = end_with h t mem lens lines n; subscriber = end_with s u mem2 lens2 lines2 m }

    module _ (k : Known past (end_with h t mem lens lines n) (end_with s u mem2 lens2 lines2 m)) (r : Request) (copy : ℕ) where
      abbrev pub call_at : Side → Call
      call_at side = record { side = side; request = r; copy_of = copy }

      abbrev pub KnownAfter : Side → Type 0
      KnownAfter side = Known (event_of now (call_at side) ∷ past) (step now (call_at side)).host (step now (call_at side)).subscriber

      -- by what a call leaves at the host, and by what one leaves at the subscriber
      abbrev pub after_host : (let e = after_call (end_with h t mem lens lines n) (called (end_with h t mem lens lines n) r) in
          HostNext h s past k.receiver k.sender (event_of now (call_at host)) n (record_at t h.index) (record_at e.table h.index) (own_mem e.table h.index e.mem) (own_lens e.table h.index e.lens))
          → KnownAfter host
      after_host z =
          record {
            sender = z.sender;
            receiver = k.receiver;
            inv = z.inv;
            numbered = z.numbered;
            at_host_end = record { kept = kept_called h t mem lens lines n k.at_host_end.kept r.kind r; means = z.means; counted = z.counted; waits = z.waits };
            at_subscriber =
                record { kept = k.at_subscriber.kept; means = k.at_subscriber.means; counted = k.at_subscriber.counted; waits = k.at_subscriber.waits };
          }

      abbrev pub after_subscriber : (let e = after_call (end_with s u mem2 lens2 lines2 m) (called (end_with s u mem2 lens2 lines2 m) r) in
          SubscriberNext h s past k.sender k.receiver (event_of now (call_at subscriber)) m (record_at u s.index) (record_at e.table s.index) (own_mem e.table s.index e.mem) (own_lens e.table s.index e.lens))
          → KnownAfter subscriber
      after_subscriber z =
          record {
            sender = k.sender;
            receiver = z.receiver;
            inv = z.inv;
            numbered = z.numbered;
            at_host_end = record { kept = k.at_host_end.kept; means = k.at_host_end.means; counted = k.at_host_end.counted; waits = k.at_host_end.waits };
            at_subscriber =
                record { kept = kept_called s u mem2 lens2 lines2 m k.at_subscriber.kept r.kind r; means = z.means; counted = z.counted; waits = z.waits };
          }

      keeps : (side : Side) → Fair h s now (call_at side) → KnownAfter side
      keeps host fair =
          after_host (host_call_lem h s fresh-h fresh-s alike past k.sender k.receiver k.inv k.numbered t mem lens lines n k.at_host_end r copy fair.at_host_end fair.opens_host)
      keeps subscriber fair =
          after_subscriber (subscriber_call_lem h s fresh-h fresh-s alike past k.sender k.receiver k.inv k.numbered u mem2 lens2 lines2 m k.at_subscriber r copy fair.at_subscriber fair.opens_subscriber)

  -- what is claimed after any calls that are fair, where so much is known
  abbrev Claim : List Call → Type 0
  Claim l =
      (past : List Event) (t : List Channel) (mem lens lines : List ℕ) (n : ℕ) (u : List Channel) (mem2 lens2 lines2 : List ℕ) (m : ℕ)
      → Known past (end_with h t mem lens lines n) (end_with s u mem2 lens2 lines2 m)
      → AllFair h s (now past t mem lens lines n u mem2 lens2 lines2 m) l
      → Delivered h s (run (now past t mem lens lines n u mem2 lens2 lines2 m) l)

  one_more_lem : (side : Side) (r : Request) (copy : ℕ) (l : List Call) → Claim l → Claim (record { side = side; request = r; copy_of = copy } ∷ l)
  one_more_lem host r copy l rest past t mem lens lines n u mem2 lens2 lines2 m k fair =
      let w = step (now past t mem lens lines n u mem2 lens2 lines2 m) (record { side = host; request = r; copy_of = copy }) in
      rest w.past w.host.table w.host.mem w.host.lens w.host.lines w.host.start u mem2 lens2 lines2 m
      (keeps past t mem lens lines n u mem2 lens2 lines2 m k r copy host fair.0) fair.1
  one_more_lem subscriber r copy l rest past t mem lens lines n u mem2 lens2 lines2 m k fair =
      let w = step (now past t mem lens lines n u mem2 lens2 lines2 m) (record { side = subscriber; request = r; copy_of = copy }) in
      rest w.past t mem lens lines n w.subscriber.table w.subscriber.mem w.subscriber.lens w.subscriber.lines w.subscriber.start
      (keeps past t mem lens lines n u mem2 lens2 lines2 m k r copy subscriber fair.0) fair.1

  after_all : (l : List Call) → Claim l
  after_all [] = λ past t mem lens lines n u mem2 lens2 lines2 m k fair. delivered h s fresh-h fresh-s alike past t mem lens lines n u mem2 lens2 lines2 m k
  after_all (c ∷ l) = one_more_lem c.side c.request c.copy_of l (after_all l)

-- Demand 3
pub demand_3 : Demand3
demand_3 h s fresh-h fresh-s alike l fair =
    after_all h s fresh-h fresh-s alike l [] h.table h.mem h.lens h.lines h.start s.table s.mem s.lens s.lines s.start (begins h s fresh-h fresh-s alike) fair
