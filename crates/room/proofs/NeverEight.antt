-- Never-eight of the real calls: what is known holds at the beginning, each call keeps it, and no Data is refused with 8.
-- Assumes nothing.
use mathlib.Core.Path.{◌≡◌, refl, sym, ap, ◌∙◌, subst}
use mathlib.Core.Bool.{true, true≢false}
use mathlib.Core.List.{List, [], ◌∷◌}
use Prim.Native.Nat.{ℕ, ◌+◌, ◌≤◌}
use native.Mathlib.Omega.{arith}
use Rattle.walks.specs.Serving.{Called}
use Rattle.channel.specs.declared.record.Channel.{Channel}
use Rattle.channel.specs.declared.answer.Answer.{Answer}
use Rattle.channel.specs.Flow.{flows}
use Rattle.channel.proofs.SettingsLaws.{fit_is}
use Rattle.table.specs.Serving.{record_at}
use Rattle.protocol.specs.Ends.{Limits, rank}
use Rattle.protocol.specs.Sending.{Sender}
use Rattle.protocol.specs.Receiving.{Receiver, fresh_receiver, start_of}
use Rattle.protocol.proofs.Small.{none_some}
use Rattle.delivery.specs.Calls.{End, arrives, Request, called, index_told, channel_of}
use Rattle.delivery.specs.History.{Side, host, subscriber, Call, Event, is, names, IsData}
use Rattle.delivery.specs.Delivery.{Fresh, Alike, Run, event_of, step, run, Fair}
use Rattle.delivery.proofs.Nodes.{end_with, same_limits, own_asked}
use Rattle.delivery.proofs.Known.{limits}
use Rattle.delivery.proofs.Run.{Holds, begins}
use Rattle.delivery.proofs.HostNow.{HostAt, small, own_limits}
use Rattle.delivery.proofs.HostCalls.{host_call_lem}
use Rattle.delivery.proofs.SubscriberEnd.{Stage, limits_are}
use Rattle.delivery.proofs.SubscriberCalls.{subscriber_call_lem}
use Rattle.delivery.proofs.Delivered.{now, after_host, after_subscriber}
use Rattle.room.specs.Order.{Link, empty, InOrder, grown, AllInOrder}
use Rattle.room.specs.Room.{NoEight, NeverEight}
use Rattle.room.proofs.Steps.{bound_first}
use Rattle.room.proofs.Known.{Said, Handed, Awaited}
use Rattle.room.proofs.HostSeen.{host_flows}
use Rattle.room.proofs.HostSaid.{host_said}
use Rattle.room.proofs.HostLink.{host_fair, host_awaited, host_handed}
use Rattle.room.proofs.SaysCalls.{says}
use Rattle.room.proofs.SubscriberLink.{came_near, came_handed, subscriber_fair, subscriber_handed}
use Rattle.room.proofs.SubscriberSaid.{subscriber_said, subscriber_awaited}
use Rattle.room.proofs.Full.{handed_below, below_ahead, no_eight}

module _ (h s : End) (fresh-h : Fresh h) (fresh-s : Fresh s) (alike : Alike h s) (used-h : flows (channel_of h).limits ≡ true) (used-s : flows (channel_of s).limits ≡ true) where
  abbrev L : Limits
  L = limits h s

  -- all that is known of a run, with what may still arrive
  pub record Keeps (past : List Event) (e f : End) (q : Link) : Type 0 where
    pub holds : Holds h s fresh-h fresh-s alike past e f
    pub said : Said h s holds.sender holds.receiver (channel_of e) q.to_host
    pub handed : Handed h s past holds.sender holds.receiver f.start q.to_subscriber
    pub awaited : Awaited h s past holds.sender holds.receiver q.to_host
    pub none : NoEight s past

  -- the settings have a slot for each number of the window
  fitting : L.window ≤ L.slots
  fitting = (fit_is (channel_of h).limits (own_asked h h.table h.mem h.lens (begins h s fresh-h fresh-s alike).at_host_end.kept h.index fresh-h.below).standing.fit).slots

  start : Keeps [] h s empty
  unfolding begins
  start =
      record {
        holds = begins h s fresh-h fresh-s alike;
        said =
            record {
              older = [];
              place = L.window;
              chain = omega (arith, bound_first L fresh_receiver fitting refl);
              reach = omega arith;
              early = λ q. (refl, refl);
              live = λ q. absurd (let z = ap rank q in omega (arith, z));
            };
        handed = record { older = []; whole = refl; got = 0; chain = omega arith; filed = λ q j w. absurd (none_some refl w.1); counted = omega (arith, fresh-s.start) };
        awaited =
            record {
              older = [];
              whole = refl;
              hole = 0;
              now = 0;
              chain = omega arith;
              start = omega arith;
              marks = λ j q. absurd (true≢false (sym q));
              silent = λ b. b.replied;
              still = λ b. b.replied;
              now_is = λ q. refl;
            };
        none = tt;
      }

  module _ (past : List Event) (t : List Channel) (mem lens lines : List ℕ) (n : ℕ) (u : List Channel) (mem2 lens2 lines2 : List ℕ) (m : ℕ) (q : Link)
      (k : Keeps past (end_with h t mem lens lines n) (end_with s u mem2 lens2 lines2 m) q) where
    abbrev at : Run
    at = now h s fresh-h fresh-s alike past t mem lens lines n u mem2 lens2 lines2 m

    abbrev x : Sender
    x = k.holds.sender

    abbrev y : Receiver
    y = k.holds.receiver

    host_at : HostAt h s past x y t mem lens lines n
    host_at = record { fresh_host = fresh-h; alike = alike; inv = k.holds.inv; numbered = k.holds.numbered; now = k.holds.at_host_end }

    stage : Stage h s past x y u mem2 lens2 lines2 m
    stage = record { beginning = fresh-s; alike = alike; inv = k.holds.inv; numbered = k.holds.numbered; now = k.holds.at_subscriber }

    inside : start_of y ≤ x.next
    inside = k.holds.inv.copy.inside

    within : x.next ≤ x.start + L.window
    within = k.holds.inv.window.within

    -- ---- a call at the host

    module _ (r : Request) (copy : ℕ) (later : Link) (order : InOrder h s at q (record { side = host; request = r; copy_of = copy }) later) where
      abbrev call_h : Call
      call_h = record { side = host; request = r; copy_of = copy }

      host_is_fair : Fair h s at call_h
      host_is_fair =
          record {
            at_subscriber = λ w. absurd (true≢false (sym w));
            at_host_end =
                host_fair h s past x y r copy (small host_at) q.to_host later.to_host order.at_host_end k.awaited t mem lens lines n k.holds.at_host_end.counted
                (ap (λ (l : Limits). l.window) (own_limits host_at));
            opens_host = order.opens_host;
            opens_subscriber = order.opens_subscriber;
          }

      abbrev gives_h : Called Answer Channel
      gives_h = called (end_with h t mem lens lines n) r

      abbrev told_h : ℕ
      told_h = index_told (end_with h t mem lens lines n) r

      host_keeps : Keeps (event_of at call_h ∷ past) (step at call_h).host (step at call_h).subscriber (grown (event_of at call_h) later)
      host_keeps =
          let fair = host_is_fair in
          let z = host_call_lem h s fresh-h fresh-s alike past x y k.holds.inv k.holds.numbered t mem lens lines n k.holds.at_host_end r copy fair.at_host_end fair.opens_host in
          record {
            holds = after_host h s fresh-h fresh-s alike past t mem lens lines n u mem2 lens2 lines2 m k.holds r copy z;
            said =
                host_said h s x z.sender y z.call z.stepped r copy n told_h gives_h.answer gives_h.out (record_at t h.index) (record_at gives_h.table h.index)
                (same_limits h t mem lens k.holds.at_host_end.kept h.index) used-h (small host_at) fitting _ _ _ _ k.holds.at_host_end.means z.means
                (host_flows host_at used-h r) within inside q.to_host later.to_host order.at_host_end k.said;
            handed =
                host_handed h s past x z.sender y z.call z.stepped r copy n told_h gives_h.answer gives_h.out k.holds.at_host_end.counted within z.inv m later.to_subscriber
                (subst (Handed h s past x y m) (sym order.at_subscriber) k.handed);
            awaited =
                host_awaited h s past x y r copy (small host_at) q.to_host later.to_host order.at_host_end k.awaited z.sender z.call z.stepped n told_h gives_h.answer gives_h.out z.came
                within k.holds.inv.link.acks;
            none = (λ w. true≢false (sym w.0), k.none);
          }

    -- ---- a call at the subscriber

    module _ (r : Request) (copy : ℕ) (later : Link) (order : InOrder h s at q (record { side = subscriber; request = r; copy_of = copy }) later) where
      abbrev call_s : Call
      call_s = record { side = subscriber; request = r; copy_of = copy }

      window_is : (record_at u s.index).limits.window ≡ L.window
      window_is = sym (ap (λ (l : Limits). l.window) (limits_are stage))

      subscriber_is_fair : Fair h s at call_s
      subscriber_is_fair =
          record {
            at_subscriber = subscriber_fair h s past x y m r copy (small host_at) q.to_subscriber later.to_subscriber order.at_subscriber k.handed u mem2 lens2 lines2 window_is;
            at_host_end = λ w. absurd (true≢false (sym w));
            opens_host = order.opens_host;
            opens_subscriber = order.opens_subscriber;
          }

      abbrev gives_s : Called Answer Channel
      gives_s = called (end_with s u mem2 lens2 lines2 m) r

      abbrev told_s : ℕ
      told_s = index_told (end_with s u mem2 lens2 lines2 m) r

      uses : flows (record_at u s.index).limits ≡ true
      uses = ap flows (same_limits s u mem2 lens2 k.holds.at_subscriber.kept s.index) ∙ used-s

      near : is subscriber arrives call_s ≡ true → names s r.octets ≡ true → IsData r.octets → m ≤ copy + L.window
      near = came_near h s past x y m r copy (small host_at) q.to_subscriber later.to_subscriber order.at_subscriber k.handed

      subscriber_keeps : Keeps (event_of at call_s ∷ past) (step at call_s).host (step at call_s).subscriber (grown (event_of at call_s) later)
      subscriber_keeps =
          let fair = subscriber_is_fair in
          let z = subscriber_call_lem h s fresh-h fresh-s alike past x y k.holds.inv k.holds.numbered u mem2 lens2 lines2 m k.holds.at_subscriber r copy fair.at_subscriber fair.opens_subscriber in
          let c = record_at gives_s.table s.index in
          let inv = k.holds.inv in
          let tells = says stage r copy uses in
          record {
            holds = after_subscriber h s fresh-h fresh-s alike past t mem lens lines n u mem2 lens2 lines2 m k.holds r copy z;
            said =
                subst (λ (l : List Event). Said h s x z.receiver (record_at t h.index) (event_of at call_s ∷ l)) (sym order.at_host_end)
                (subscriber_said h s past x y z.receiver z.call z.stepped r copy m told_s gives_s.answer gives_s.out (small host_at) (record_at u s.index).limits (limits_are stage) c _ _ z.means tells inv z.inv
                (record_at t h.index) q.to_host k.said);
            handed =
                subscriber_handed h s past x y m r copy (small host_at) q.to_subscriber later.to_subscriber order.at_subscriber k.handed z.receiver z.call z.stepped told_s gives_s.answer gives_s.out z.came
                k.holds.at_subscriber.counted (below_ahead h s past x y inv copy) (record_at u s.index) c _ _ z.means z.counted
                (handed_below h s past x y inv copy r.octets);
            awaited =
                subst (λ (l : List Event). Awaited h s (event_of at call_s ∷ past) x z.receiver (event_of at call_s ∷ l)) (sym order.at_host_end)
                (subscriber_awaited h s past x y z.receiver z.call z.stepped r copy m told_s gives_s.answer gives_s.out (small host_at) (record_at u s.index).limits (limits_are stage) c _ _ z.means tells inv z.inv
                q.to_host k.awaited k.holds.at_subscriber.counted near);
            none = (
              no_eight stage r copy k.said.reach near
                  (came_handed h s past x y m r copy (small host_at) q.to_subscriber later.to_subscriber order.at_subscriber k.handed),
              k.none,
            );
          }

  -- ---- any calls

  abbrev Claim : List Call → Type 0
  Claim l =
      (past : List Event) (t : List Channel) (mem lens lines : List ℕ) (n : ℕ) (u : List Channel) (mem2 lens2 lines2 : List ℕ) (m : ℕ) (q : Link)
      → Keeps past (end_with h t mem lens lines n) (end_with s u mem2 lens2 lines2 m) q
      → AllInOrder h s (now h s fresh-h fresh-s alike past t mem lens lines n u mem2 lens2 lines2 m) q l
      → NoEight s (run (now h s fresh-h fresh-s alike past t mem lens lines n u mem2 lens2 lines2 m) l).past

  one_more_lem : (side : Side) (r : Request) (copy : ℕ) (l : List Call) → Claim l → Claim (record { side = side; request = r; copy_of = copy } ∷ l)
  one_more_lem host r copy l rest past t mem lens lines n u mem2 lens2 lines2 m q k order =
      let c : Call = record { side = host; request = r; copy_of = copy } in
      let w = step (now h s fresh-h fresh-s alike past t mem lens lines n u mem2 lens2 lines2 m) c in
      rest w.past w.host.table w.host.mem w.host.lens w.host.lines w.host.start u mem2 lens2 lines2 m _
      (host_keeps past t mem lens lines n u mem2 lens2 lines2 m q k r copy order.0 order.1) order.2
  one_more_lem subscriber r copy l rest past t mem lens lines n u mem2 lens2 lines2 m q k order =
      let c : Call = record { side = subscriber; request = r; copy_of = copy } in
      let w = step (now h s fresh-h fresh-s alike past t mem lens lines n u mem2 lens2 lines2 m) c in
      rest w.past t mem lens lines n w.subscriber.table w.subscriber.mem w.subscriber.lens w.subscriber.lines w.subscriber.start _
      (subscriber_keeps past t mem lens lines n u mem2 lens2 lines2 m q k r copy order.0 order.1) order.2

  after_all : (l : List Call) → Claim l
  after_all [] = λ past t mem lens lines n u mem2 lens2 lines2 m q k order. k.none
  after_all (c ∷ l) = one_more_lem c.side c.request c.copy_of l (after_all l)

-- Never-eight
pub never_eight : NeverEight
never_eight h s fresh-h fresh-s alike used-h used-s l order =
    after_all h s fresh-h fresh-s alike used-h used-s l [] h.table h.mem h.lens h.lines h.start s.table s.mem s.lens s.lines s.start empty
    (start h s fresh-h fresh-s alike used-h used-s) order
