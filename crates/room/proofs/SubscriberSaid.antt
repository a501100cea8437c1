-- A call at the subscriber keeps what is known of what it tells the host: the place up to which it accepts, and the segments that its Data Acks leave.
-- Assumes nothing.
use mathlib.Core.Path.{◌≡◌, refl, sym, ap, ◌∙◌, subst}
use mathlib.Core.Bool.{Bool, true, false}
use mathlib.Core.List.{List, ◌∷◌}
use mathlib.Core.Logic.{inl, inr, ⊎_elim}
use Prim.Native.Nat.{ℕ, ◌+◌, ◌-◌, ◌%◌, ◌≤◌}
use native.Mathlib.Omega.{arith}
use borrow.Author.Tests.{leb-true, leb-false}
use lib.Dec.{leb}
use Rattle.laws.proofs.Choice.{either_way}
use Rattle.packet.specs.Layout.{fields_at}
use Rattle.packet.specs.Kinds.{kind_of}
use Rattle.channel.specs.declared.record.Limits as records
use Rattle.channel.specs.declared.record.Channel.{Channel}
use Rattle.channel.specs.declared.answer.Answer.{Answer}
use Rattle.channel.specs.Record as state
use Rattle.channel.specs.Flow.{stated}
use Rattle.protocol.specs.Numbers.{number_at}
use Rattle.protocol.specs.Ends.{Limits, rank}
use Rattle.protocol.specs.Sending.{Sender}
use Rattle.protocol.specs.Receiving.{Receiver, ReceiverCall, receiver_step, start_of}
use Rattle.means.specs.Meaning.{limits_of}
use Rattle.means.proofs.Receives as means
use Rattle.means.proofs.FlowPlaces.{bound_at, stated_place}
use Rattle.delivery.specs.Calls.{End, arrives, Request}
use Rattle.delivery.specs.History.{subscriber, Event, is, names, IsData, IsDataAck}
use Rattle.delivery.proofs.Known.{Back, InvOf, limits}
use Rattle.delivery.proofs.SubscriberEnd.{opened_rank}
use Rattle.delivery.proofs.SubscriberFrame.{subscriber_call, subscriber_event}
use Rattle.room.specs.Order.{is_flow, wrote_by, Told}
use Rattle.room.proofs.Steps.{bound, bound_rises, receiver_grows, room_from}
use Rattle.room.proofs.Marks.{receiver_files}
use Rattle.room.proofs.HostFlow.{stated_of}
use Rattle.room.proofs.Known.{Said, Awaited}
use Rattle.room.proofs.Says.{Says}

-- ---- the place that a record in OPEN states

module _ (L : Limits) (l : records.Limits) (same : L ≡ limits_of l) (c : Channel) (m n : List ℕ) (z : Receiver) (receives : means.Receives c m n z) (now-open : c.phase.state ≡ state.opened) where
  is_two : rank z.phase ≡ 2
  is_two = opened_rank z.phase (sym receives.state ∙ now-open)

  within : means.Within c m n z.oldest z.passed z.filed
  within = receives.within (omega (arith, is_two)) (omega (arith, is_two))

  pub open_start : c.window.start ≡ number_at (start_of z)
  open_start = within.start

  -- is the place up to which the protocol's receiver accepts
  pub bound_is : bound_at l c.window (start_of z) ≡ bound L z
  unfolding bound
  bound_is =
      let behind : c.window.behind ≡ start_of z - z.oldest = omega (arith, within.behind) in
      ap (λ (b : ℕ). start_of z + room_from (limits_of l) b) behind ∙ ap (λ (k : Limits). start_of z + room_from k (start_of z - z.oldest)) (sym same)

  pub states_bound : stated l c.window ≡ bound L z % 256
  states_bound = stated_place l c.window (start_of z) within.start ∙ ap (λ (p : ℕ). p % 256) bound_is

-- ---- the chains

module _ (h s : End) (past : List Event) (x : Sender) (y z : Receiver) (call : ReceiverCall) (stepped : z ≡ (receiver_step (limits h s) y call).0)
    (r : Request) (copy n told : ℕ) (a : Answer) (o : List ℕ) (small : (limits h s).window ≤ 128)
    (l : records.Limits) (same : limits h s ≡ limits_of l) (c : Channel) (m k : List ℕ) (receives : means.Receives c m k z)
    (says : (i : ℕ) (packet : List ℕ) → Told s i packet (subscriber_event r copy n told a o) → names h packet ≡ true → Says s l r.octets packet c)
    (before : InvOf h s past x y) (after : InvOf h s (subscriber_event r copy n told a o ∷ past) x z) where
  abbrev L : Limits
  L = limits h s

  abbrev e : Event
  e = subscriber_event r copy n told a o

  grows : (start_of y ≤ start_of z) × (y.oldest ≤ z.oldest)
  grows = receiver_grows L y z call stepped

  rises : bound L y ≤ bound L z
  rises = bound_rises L y z before.took.upto after.took.upto grows.0 grows.1

  stated_is : (packet : List ℕ) → (c.phase.state ≡ state.opened) × (stated_of packet ≡ stated l c.window) → stated_of packet ≡ bound L z % 256
  stated_is packet w = w.1 ∙ states_bound L l same c m k z receives w.0

  window_is : l.window ≡ L.window % 256
  window_is = omega (arith, small, ap (λ (k : Limits). k.window) same)

  pub subscriber_said : (own : Channel) (queue : List Event) → Said h s x y own queue → Said h s x z own (e ∷ queue)
  subscriber_said own queue known =
      record {
        older = known.older;
        place = known.place;
        chain = (
          bound L y,
          rises,
          λ i packet w named.
              let q = says i packet w named in (
                λ heard. stated_is packet (q.heard heard),
                λ kind. ⊎_elim (λ v. inl (v ∙ window_is)) (λ v. inr (stated_is packet v)) (q.first kind),
              ),
          known.chain,
        );
        reach = omega (arith, known.reach, rises);
        early = known.early;
        live = known.live;
      }

  -- ---- Data Acks

  later : rank y.phase ≤ rank z.phase
  later = (receiver_files L y z call stepped).later

  acked_open : (i : ℕ) (packet : List ℕ) → Told s i packet e → names h packet ≡ true → IsDataAck packet → rank z.phase ≡ 2
  acked_open i packet w named ack = opened_rank z.phase (sym receives.state ∙ ((says i packet w named).heard (inl ack)).0)

  -- told as an Ack is
  told_ack : (b : Bool) → b ≡ false → is subscriber arrives e.call ≡ true → is subscriber (wrote_by b) e.call ≡ true
  told_ack b none w = subst (λ (b : Bool). is subscriber (wrote_by b) e.call ≡ true) (sym none) w

  -- out of OPEN none is written
  silent_after : 3 ≤ rank z.phase → (j : ℕ) → (Back h s past j → ⊥) → Back h s (e ∷ past) j → ⊥
  silent_after out j still b =
      ⊎_elim
      (λ w.
      let two = acked_open j b.packet (told_ack (is_flow (kind_of (fields_at b.packet).kind)) (ap is_flow b.is_ack) w.0, w.1, w.2, w.3) b.named b.is_ack in
      omega (arith, two, out))
      (λ w. still (record { packet = b.packet; replied = w; named = b.named; is_ack = b.is_ack })) b.replied

  -- until then the start is not answered
  silent_start : rank z.phase ≤ 2 → Back h s (e ∷ past) (start_of z) → ⊥
  silent_start early b = let w = after.gap.got (start_of z) b (after.gap.early early) in omega (arith, w)

  module _ (queue : List Event) (known : Awaited h s past x y queue) (counts : rank y.phase ≤ 2 → n ≡ start_of y)
      (near : is subscriber arrives (subscriber_call r copy) ≡ true → names s r.octets ≡ true → IsData r.octets → n ≤ copy + L.window) where
    -- what is answered lies at most a window behind the start
    answered : (i : ℕ) (packet : List ℕ) → Told s i packet e → names h packet ≡ true → IsDataAck packet → known.now ≤ i + L.window
    answered i packet w named ack =
        let two = acked_open i packet w named ack in
        let early : rank y.phase ≤ 2 = omega (arith, two, later) in
        let data_is = (says i packet w named).answers ack in
        let at = subst (λ (b : Bool). is subscriber (wrote_by b) e.call ≡ true) (ap is_flow ack) w.0 in
        let copied : copy ≡ i = w.3 ack in
        omega (arith, near at data_is.0 data_is.1, counts early, known.now_is early, copied)

    next : (now : ℕ) → known.now ≤ now → (Back h s (e ∷ past) now → ⊥) → (rank z.phase ≤ 2 → now ≡ start_of z) → Awaited h s (e ∷ past) x z (e ∷ queue)
    next now on silent now_is =
        record {
          older = known.older;
          whole = ap (e ∷◌) known.whole;
          hole = known.hole;
          now = now;
          chain = (known.now, on, (answered, λ b. silent (subst (λ (l : List Event). Back h s (e ∷ l) now) (sym known.whole) b)), known.chain);
          start = known.start;
          marks = known.marks;
          silent = known.silent;
          still = silent;
          now_is = now_is;
        }

    pub subscriber_awaited : Awaited h s (e ∷ past) x z (e ∷ queue)
    subscriber_awaited =
        either_way (leb (rank z.phase) 2)
        (λ q.
        let early = leb-true (rank z.phase) 2 q in
        next (start_of z) (omega (arith, known.now_is (omega (arith, early, later)), grows.0)) (silent_start early) (λ _. refl))
        (λ q.
        let out = leb-false (rank z.phase) 2 q in
        next known.now (omega arith) (silent_after out known.now known.still) (λ early. absurd (omega (arith, early, out))))
