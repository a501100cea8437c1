-- The premises on a run, as a test: what passes it is fair.
-- Assumes nothing.
use mathlib.Core.Path.{◌≡◌, refl, sym, ap, ◌∙◌}
use mathlib.Core.Bool.{Bool, true, false, true≢false, not, ◌&&◌, ◌||◌}
use mathlib.Core.List.{List, [], ◌∷◌, ◌++◌}
use mathlib.Core.Logic.{◌⊎◌, inl, inr, ⊎_elim}
use Prim.Native.Nat.{ℕ, zero, suc, ◌+◌, ◌-◌}
use borrow.Author.Tests.{eqb-true, leb-true}
use lib.Dec.{leb, eqb}
use lib.ListN.{replicate, set}
use Rattle.std.specs.Prelude.{if◌then◌else◌}
use Rattle.laws.proofs.Choice.{both}
use Rattle.packet.specs.declared.kinds.Kind as packets
use Rattle.packet.specs.declared.kinds.Kind.TheVariants as packet-kind
use Rattle.packet.specs.Kinds.{kind_of, is_data}
use Rattle.packet.specs.Layout.{fields_at}
use Rattle.channel.specs.Prefixes.{same_prefix}
use Rattle.table.specs.Serving.{record_at}
use Rattle.delivery.specs.Calls.{End, opens, hands, arrives, channel_of}
use Rattle.delivery.specs.History.{Side, host, subscriber, Call, Event, is, granted, written, binds, segment_of, HandedOut, Replied, openings}
use Rattle.delivery.specs.Delivery.{Run, event_of, step, run, Fair, AllFair}

-- ---- tests of what is asked

unfoldable pub equal : List ℕ → List ℕ → Bool
equal [] [] = true
equal [] (b ∷ l) = false
equal (a ∷ k) [] = false
equal (a ∷ k) (b ∷ l) = eqb a b && equal k l

equal_is : (k l : List ℕ) → equal k l ≡ true → k ≡ l
unfolding equal
equal_is [] [] e = refl
equal_is [] (b ∷ l) e = absurd (true≢false (sym e))
equal_is (a ∷ k) [] e = absurd (true≢false (sym e))
equal_is (a ∷ k) (b ∷ l) e =
    let p = both (eqb a b) (equal k l) e in
    ap (λ (x : ℕ). x ∷ k) (eqb-true a b p.0) ∙ ap (b ∷◌) (equal_is k l p.1)

either : (a b : Bool) → (a || b) ≡ true → (a ≡ true) ⊎ (b ≡ true)
either true b e = inl refl
either false b e = inr e

-- Packets are looked for among the latest n events: the runs that are tested need no more.

-- where the first holds, the second does
abbrev pub implies : Bool → Bool → Bool
implies a b = if a then b else true

implied : (a b : Bool) → implies a b ≡ true → a ≡ true → b ≡ true
implied true b e q = e
implied false b e q = absurd (true≢false (sym q))

abbrev pub is_data_ack : packets.Kind → Bool
is_data_ack packet-kind.Data = false
is_data_ack packet-kind.DataAck = true
is_data_ack packet-kind.Open = false
is_data_ack packet-kind.Close = false
is_data_ack packet-kind.Heartbeat = false
is_data_ack packet-kind.HeartbeatAck = false
is_data_ack packet-kind.FlowControl = false
is_data_ack packet-kind.ControlAck = false
is_data_ack (packet-kind.Lacking code) = false

-- the region to which it goes is that of the watched channel
abbrev pub toward : End → ℕ → Bool
toward e j = same_prefix (record_at e.table j).addresses.prefix (channel_of e).addresses.prefix

unfoldable pub handed_in : End → ℕ → List Event → ℕ → List ℕ → Bool
handed_in h zero past i packet = false
handed_in h (suc n) [] i packet = false
handed_in h (suc n) (e ∷ past) i packet =
    (is host hands e.call && equal (written e) packet && toward h e.index && implies (is_data (kind_of (fields_at packet).kind)) (eqb (segment_of e.started packet) i))
    || handed_in h n past i packet

handed_in_lem : (h : End) (n : ℕ) (past : List Event) (i : ℕ) (packet : List ℕ) → handed_in h n past i packet ≡ true → HandedOut h past i packet
unfolding handed_in
handed_in_lem h zero past i packet e = absurd (true≢false (sym e))
handed_in_lem h (suc n) [] i packet e = absurd (true≢false (sym e))
handed_in_lem h (suc n) (v ∷ past) i packet e = ⊎_elim found (λ q. inr (handed_in_lem h n past i packet q)) (either here (handed_in h n past i packet) e)
  where
    here : Bool
    here = is host hands v.call && equal (written v) packet && toward h v.index && implies (is_data (kind_of (fields_at packet).kind)) (eqb (segment_of v.started packet) i)

    found : here ≡ true → HandedOut h (v ∷ past) i packet
    found q =
        let p = both (is host hands v.call && equal (written v) packet && toward h v.index) (implies (is_data (kind_of (fields_at packet).kind)) (eqb (segment_of v.started packet) i)) q in
        let o = both (is host hands v.call && equal (written v) packet) (toward h v.index) p.0 in
        let r = both (is host hands v.call) (equal (written v) packet) o.0 in
        inl (r.0, equal_is (written v) packet r.1, o.1, λ k. eqb-true (segment_of v.started packet) i (implied _ _ p.1 (ap is_data k)))

unfoldable pub replied_in : End → ℕ → List Event → ℕ → List ℕ → Bool
replied_in s zero past i packet = false
replied_in s (suc n) [] i packet = false
replied_in s (suc n) (e ∷ past) i packet =
    (is subscriber arrives e.call && equal (written e) packet && toward s e.index && implies (is_data_ack (kind_of (fields_at packet).kind)) (eqb e.call.copy_of i))
    || replied_in s n past i packet

replied_in_lem : (s : End) (n : ℕ) (past : List Event) (i : ℕ) (packet : List ℕ) → replied_in s n past i packet ≡ true → Replied s past i packet
unfolding replied_in
replied_in_lem s zero past i packet e = absurd (true≢false (sym e))
replied_in_lem s (suc n) [] i packet e = absurd (true≢false (sym e))
replied_in_lem s (suc n) (v ∷ past) i packet e = ⊎_elim found (λ q. inr (replied_in_lem s n past i packet q)) (either here (replied_in s n past i packet) e)
  where
    here : Bool
    here = is subscriber arrives v.call && equal (written v) packet && toward s v.index && implies (is_data_ack (kind_of (fields_at packet).kind)) (eqb v.call.copy_of i)

    found : here ≡ true → Replied s (v ∷ past) i packet
    found q =
        let p = both (is subscriber arrives v.call && equal (written v) packet && toward s v.index) (implies (is_data_ack (kind_of (fields_at packet).kind)) (eqb v.call.copy_of i)) q in
        let o = both (is subscriber arrives v.call && equal (written v) packet) (toward s v.index) p.0 in
        let r = both (is subscriber arrives v.call) (equal (written v) packet) o.0 in
        inl (r.0, equal_is (written v) packet r.1, o.1, λ k. eqb-true v.call.copy_of i (implied _ _ p.1 (ap is_data_ack k)))

-- ---- a script: calls, and packets that the link brings

-- `does c`: this call. `brings side back i`: at this node arrives the packet that the other one wrote, the latest but so many, of the segment i, and
-- `spoils` the same with its octet 10 changed.
pub data Move : Type 0 where
  does : Call → Move
  brings : Side → ℕ → ℕ → Move
  spoils : Side → ℕ → ℕ → Move

abbrev latest_but : ℕ → List ℕ → (ℕ → List ℕ) → List ℕ
latest_but zero packet before = packet
latest_but (suc n) packet before = before n

abbrev pub writes_for : Side → Call → Bool
writes_for subscriber c = is host hands c
writes_for host c = is subscriber arrives c

unfoldable pub packet_for : Side → ℕ → List Event → List ℕ
packet_for side back [] = []
packet_for side back (e ∷ past) = if writes_for side e.call then latest_but back (written e) (λ n. packet_for side n past) else packet_for side back past

abbrev pub arriving : Side → List ℕ → ℕ → Call
arriving side packet i =
    record { side = side; request = record { kind = arrives; channel = 0; octets = packet; buffer = replicate 16 0 }; copy_of = i }

abbrev pub call_for : Run → Move → Call
call_for w (does c) = c
call_for w (brings side back i) = arriving side (packet_for side back w.past) i
call_for w (spoils side back i) = arriving side (set (packet_for side back w.past) 10 255) i

-- the calls of a script, from a run on
unfoldable pub calls_for : Run → List Move → List Call
calls_for w [] = []
calls_for w (m ∷ l) = call_for w m ∷ calls_for (step w (call_for w m)) l

-- ---- a call

-- what names the channel, and is no Heartbeat, is a copy
copied : (a n : Bool) → (a || not n) ≡ true → n ≡ true → a ≡ true
copied true n e q = refl
copied false true e q = absurd (true≢false (sym e))
copied false false e q = absurd (true≢false (sym q))

abbrev pub in_time : End → ℕ → Bool
in_time e i = leb e.start (i + (256 - (channel_of e).limits.window))

module _ (h s : End) where
  abbrev pub to_subscriber : Run → Call → Bool
  to_subscriber w c =
      implies (is subscriber arrives c)
      ((handed_in h 8 w.past c.copy_of c.request.octets && implies (is_data (kind_of (fields_at c.request.octets).kind)) (in_time w.subscriber c.copy_of))
      || not (binds s c.request.octets))

  abbrev pub to_host : Run → Call → Bool
  to_host w c =
      implies (is host arrives c)
      ((replied_in s 8 w.past c.copy_of c.request.octets && implies (is_data_ack (kind_of (fields_at c.request.octets).kind)) (in_time w.host c.copy_of))
      || not (binds h c.request.octets))

  abbrev pub opens_once : Side → ℕ → Run → Call → Bool
  opens_once side index w c = implies (granted side opens index (event_of w c)) (eqb (openings side index w.past) 0)

  unfoldable pub fairly : Run → Call → Bool
  fairly w c = to_subscriber w c && to_host w c && opens_once host h.index w c && opens_once subscriber s.index w c

  fair : (w : Run) (c : Call) → fairly w c ≡ true → Fair h s w c
  unfolding fairly
  fair w c e =
      let p = both (to_subscriber w c && to_host w c && opens_once host h.index w c) (opens_once subscriber s.index w c) e in
      let q = both (to_subscriber w c && to_host w c) (opens_once host h.index w c) p.0 in
      let r = both (to_subscriber w c) (to_host w c) q.0 in
      let octets = c.request.octets in
      record {
        at_subscriber = λ a n.
            let y = copied (handed_in h 8 w.past c.copy_of octets && implies (is_data (kind_of (fields_at octets).kind)) (in_time w.subscriber c.copy_of)) (binds s octets) (implied (is subscriber arrives c) _ r.0 a) n in
            let z = both (handed_in h 8 w.past c.copy_of octets) (implies (is_data (kind_of (fields_at octets).kind)) (in_time w.subscriber c.copy_of)) y in
            (handed_in_lem h 8 w.past c.copy_of octets z.0, λ k. leb-true _ _ (implied _ _ z.1 (ap is_data k)));
        at_host_end = λ a n.
            let y = copied (replied_in s 8 w.past c.copy_of octets && implies (is_data_ack (kind_of (fields_at octets).kind)) (in_time w.host c.copy_of)) (binds h octets) (implied (is host arrives c) _ r.1 a) n in
            let z = both (replied_in s 8 w.past c.copy_of octets) (implies (is_data_ack (kind_of (fields_at octets).kind)) (in_time w.host c.copy_of)) y in
            (replied_in_lem s 8 w.past c.copy_of octets z.0, λ k. leb-true _ _ (implied _ _ z.1 (ap is_data_ack k)));
        opens_host = λ g. eqb-true (openings host h.index w.past) 0 (implied _ _ q.1 g);
        opens_subscriber = λ g. eqb-true (openings subscriber s.index w.past) 0 (implied _ _ p.1 g);
      }

  -- ---- a run by a script: whether each call of it is fair, and what it comes to, computed together

  pub record Checked : Type 0 where
    pub is_fair : Bool
    pub at : Run

  unfoldable pub checked : Bool → Run → List Move → Checked
  checked b w [] = record { is_fair = b; at = w }
  checked b w (m ∷ l) = checked (b && fairly w (call_for w m)) (step w (call_for w m)) l

  pub checked_run : (b : Bool) (w : Run) (l : List Move) → (checked b w l).at ≡ run w (calls_for w l)
  unfolding checked calls_for
  checked_run b w [] = refl
  checked_run b w (m ∷ l) = checked_run (b && fairly w (call_for w m)) (step w (call_for w m)) l

  checked_before : (b : Bool) (w : Run) (l : List Move) → (checked b w l).is_fair ≡ true → b ≡ true
  unfolding checked
  checked_before b w [] e = e
  checked_before b w (m ∷ l) e = (both b (fairly w (call_for w m)) (checked_before (b && fairly w (call_for w m)) (step w (call_for w m)) l e)).0

  pub checked_fair : (b : Bool) (w : Run) (l : List Move) → (checked b w l).is_fair ≡ true → AllFair h s w (calls_for w l)
  unfolding checked calls_for
  checked_fair b w [] e = tt
  checked_fair b w (m ∷ l) e = (
    fair w (call_for w m) (both b (fairly w (call_for w m)) (checked_before (b && fairly w (call_for w m)) (step w (call_for w m)) l e)).1,
    checked_fair (b && fairly w (call_for w m)) (step w (call_for w m)) l e,
  )

  -- in two parts
  pub checked_on : (b : Bool) (w : Run) (l m : List Move) → checked b w (l ++ m) ≡ checked (checked b w l).is_fair (checked b w l).at m
  unfolding checked
  checked_on b w [] m = refl
  checked_on b w (c ∷ l) m = checked_on (b && fairly w (call_for w c)) (step w (call_for w c)) l m
