-- A call at the host keeps what is known of the place recorded: it hands out no segment past it, and records none but one that the subscriber stated.
-- Assumes nothing.
use mathlib.Core.Path.{◌≡◌, refl, sym, ap, ap₂, ◌∙◌, subst}
use mathlib.Core.Bool.{Bool, true, false, true≢false, ◌&&◌}
use mathlib.Core.List.{List, ◌∷◌, ◌++◌}
use mathlib.Core.Logic.{⊎_elim}
use Prim.Native.Nat.{ℕ, suc, ◌+◌, ◌%◌, ◌≤◌, ◌<◌}
use native.Mathlib.Omega.{arith}
use lib.Dec.{eqb}
use Rattle.laws.proofs.Choice.{either_way}
use Rattle.packet.specs.declared.kinds.Kind as packets
use Rattle.packet.specs.declared.kinds.Kind.TheVariants as kinds
use Rattle.packet.specs.Kinds.{kind_of}
use Rattle.packet.specs.Layout.{fields_at}
use Rattle.channel.specs.declared.record.Channel.{Channel}
use Rattle.channel.specs.declared.answer.Answer.{Answer}
use Rattle.channel.specs.Record as state
use Rattle.channel.specs.Flow.{flows, highest, recorded_by, may_follow}
use Rattle.protocol.specs.Numbers.{number_at}
use Rattle.protocol.specs.Ends.{Phase, fresh, enabled, opened, closing, shut, rank, is_open}
use Rattle.protocol.specs.Sending.{Sender, SenderCall, sender_step}
use Rattle.protocol.specs.Receiving.{Receiver, start_of}
use Rattle.means.specs.Meaning.{state_of}
use Rattle.means.proofs.Sends as means
use Rattle.means.proofs.Sends.{state_opened}
use Rattle.means.proofs.FlowPlaces.{recorded_place, follow_place}
use Rattle.delivery.specs.Calls.{End, Kind, arrives, code, Request, channel_of}
use Rattle.delivery.specs.History.{host, Event, is, names}
use Rattle.delivery.proofs.Known.{limits}
use Rattle.delivery.proofs.HostFrame.{host_call, host_event}
use Rattle.room.specs.Order.{is_beat, steers, Told, Copied, Brings}
use Rattle.room.proofs.Chains.{Chain, Cut, chain_rises}
use Rattle.room.proofs.Steps.{bound, bound_near, bound_first, open_is, OneMore, Hands, sender_goes}
use Rattle.room.proofs.HostFlow.{recorded_of, stated_of, Still, Heeds, Begins, Flows}
use Rattle.room.proofs.Known.{Tells, Said}
use Rattle.room.proofs.Link.{brought, steers_so, cut_at, trimmed}

-- the highest number sent is that before the next place
highest_is : (c : Channel) (start next : ℕ) → c.window.start ≡ number_at start → c.window.flight + start ≡ next → highest c.window ≡ next % 256
unfolding number_at
highest_is c start next e f = omega (arith, e, f)

enabled_rank : (p : Phase) → state_of p ≡ state.enabled → rank p ≤ 1
enabled_rank fresh e = omega arith
enabled_rank enabled e = omega arith
enabled_rank opened e = absurd (omega (arith, e))
enabled_rank closing e = absurd (omega (arith, e))
enabled_rank shut e = absurd (omega (arith, e))

module _ (h s : End) (x z : Sender) (y : Receiver) (call : SenderCall) (stepped : z ≡ (sender_step (limits h s) x call).0)
    (r : Request) (copy n told : ℕ) (a : Answer) (o : List ℕ)
    (own c : Channel) (same : own.limits ≡ (channel_of h).limits) (used : flows (channel_of h).limits ≡ true)
    (small : (limits h s).window ≤ 128) (fit : (limits h s).window ≤ (limits h s).slots)
    (m l m2 l2 : List ℕ) (before : means.Sends own m l x) (after : means.Sends c m2 l2 z) (flowing : Flows h r own c)
    (within : x.next ≤ x.start + (limits h s).window) (inside : start_of y ≤ x.next)
    (queue later : List Event) (brings : Brings (is host arrives (host_call r copy) && steers h r.octets) (Told s copy r.octets) queue later)
    (known : Said h s x y own queue) where
  abbrev k : ℕ
  k = (limits h s).window

  abbrev top : ℕ
  top = bound (limits h s) y

  abbrev e : Event
  e = host_event r copy n told a o

  -- a packet for the channel comes
  abbrev comes : Bool
  comes = is host arrives (host_call r copy) && steers h r.octets

  abbrev Next : Type 0
  Next = Said h s z y c (e ∷ later)

  window_is : own.limits.window ≡ k
  window_is = ap (λ w. w.window) same

  uses : flows own.limits ≡ true
  uses = ap flows same ∙ used

  -- the host tells itself nothing
  push : (older : List Event) (place : ℕ) → Chain (Tells h s) older top place later → Chain (Tells h s) older top place (e ∷ later)
  push older place chain = (top, omega arith, λ i packet w named. absurd (true≢false (sym w.0)), chain)

  trim : (older : List Event) × Chain (Tells h s) older top known.place later
  trim = trimmed (Tells h s) (Told s copy r.octets) queue later known.older top known.place known.chain comes brings

  goes : (rank x.phase ≤ rank z.phase) × Hands x z
  goes = sender_goes (limits h s) x z call stepped

  place_top : known.place ≤ top
  place_top = chain_rises (Tells h s) known.older top known.place queue known.chain

  top_near : top ≤ x.next + k
  top_near = omega (arith, bound_near (limits h s) y, inside)

  -- ---- out of OPEN

  not_open : is_open z.phase ≡ false → Next
  not_open out =
      let next : z.next ≡ x.next = ⊎_elim (λ p. p) (λ p. absurd (true≢false (sym (ap is_open p.after) ∙ out))) goes.1 in
      record {
        older = trim.0;
        place = known.place;
        chain = push trim.0 known.place trim.1;
        reach = omega (arith, next, known.reach);
        early = λ q. let w = known.early (omega (arith, q, goes.0)) in (next ∙ w.0, w.1);
        live = λ q. absurd (true≢false (sym (ap is_open q) ∙ out));
      }

  module _ (is : z.phase ≡ opened) where
    not_early : rank z.phase ≤ 1 → ⊥
    not_early q = omega (arith, q, ap rank is)

    windowed : means.Windowed c z.oldest z.start z.next z.acked
    windowed = after.window (omega (arith, ap rank is)) (omega (arith, ap rank is))

    in_open : (older : List Event) (place : ℕ) → Chain (Tells h s) older top place later → recorded_of c ≡ place % 256 → z.next ≤ place → Next
    in_open older place chain recorded sent =
        record {
          older = older;
          place = place;
          chain = push older place chain;
          reach = omega (arith, sent, chain_rises (Tells h s) older top place later chain);
          early = λ q. absurd (not_early q);
          live = λ q. (recorded, sent);
        }

    -- ---- it was OPEN

    module _ (was : own.phase.state ≡ state.opened) where
      was_open : x.phase ≡ opened
      was_open = state_opened x.phase (sym before.state ∙ was)

      window : means.Windowed own x.oldest x.start x.next x.acked
      window = before.window (omega (arith, ap rank was_open)) (omega (arith, ap rank was_open))

      sent : x.next ≤ known.place
      sent = (known.live was_open).1

      recorded : recorded_of own ≡ known.place % 256
      recorded = (known.live was_open).0

      one_more_lem : OneMore x z → c.window.flight ≡ suc own.window.flight
      one_more_lem p = omega (arith, p.next, p.start, window.flight, windowed.flight)

      follows : may_follow own.limits own.window (recorded_of own) ≡ true → x.next < known.place
      follows may =
          follow_place own.limits own.window x.next known.place (omega (arith, small, window_is)) sent x.start window.number (omega (arith, window.flight))
          (omega (arith, window.flight, within, window_is)) (omega (arith, place_top, top_near, window_is)) uses
          (subst (λ (n : ℕ). may_follow own.limits own.window n ≡ true) recorded may)

    still : Still own c → Next
    still w =
        in_open trim.0 known.place trim.1 (w.recorded ∙ recorded w.was)
        (⊎_elim (λ p. omega (arith, p, sent w.was)) (λ p. omega (arith, p.next, follows w.was (w.follows (one_more_lem w.was p)))) goes.1)

    -- ---- a packet came

    copied : (r.kind ≡ arrives) × (names h r.octets ≡ true) → (kind : packets.Kind) → kind_of (fields_at r.octets).kind ≡ kind → is_beat kind ≡ false
        → Copied (Told s copy r.octets) queue later
    copied came kind at none =
        brought (Told s copy r.octets) queue later comes
        (ap₂ (λ (p q : Bool). p && q) (ap (λ (q : Kind). eqb (code q) 6) came.0) (steers_so h r.octets kind at none came.1)) brings

    module _ (came : (r.kind ≡ arrives) × (names h r.octets ≡ true)) (copy_of : Copied (Told s copy r.octets) queue later) where
      cut_here : Cut (Tells h s) known.older top known.place later copy_of.source copy_of.before
      cut_here = cut_at (Tells h s) (Told s copy r.octets) queue later known.older top known.place known.chain copy_of

      to_top : cut_here.to ≤ top
      to_top = chain_rises (Tells h s) (copy_of.source ∷ (copy_of.before ++ known.older)) top cut_here.to later cut_here.rest

      heard : (w : Heeds h r own c) → Next
      heard w =
          let at = w.was in
          let p = cut_here.to in
          let grows : known.place ≤ p = omega (arith, cut_here.after, cut_here.rises) in
          let said : stated_of r.octets ≡ p % 256 = (cut_here.link copy r.octets copy_of.wrote came.1).0 w.heard in
          let next : z.next ≡ x.next = ⊎_elim (λ q. q) (λ q. absurd (w.follows (one_more_lem at q))) goes.1 in
          in_open (copy_of.source ∷ (copy_of.before ++ known.older)) p cut_here.rest
          (w.recorded ∙ ap₂ (recorded_by own.limits own.window) (recorded at) said
          ∙ recorded_place own.limits own.window x.next known.place (omega (arith, small, window_is)) (sent at) p
          (highest_is own x.start x.next (window at).number (window at).flight) grows (omega (arith, to_top, top_near, window_is)))
          (omega (arith, next, sent at, grows))

      first : (w : Begins h r own c) → Next
      first w =
          let soon = known.early (enabled_rank x.phase (sym before.state ∙ w.was)) in
          let p = cut_here.to in
          let all : top ≡ k = bound_first (limits h s) y fit (omega (arith, inside, soon.0)) in
          let only : p ≡ k = omega (arith, cut_here.after, cut_here.rises, to_top, all, soon.1) in
          let next : z.next ≡ x.next
          = ⊎_elim (λ q. q) (λ q. absurd (omega (arith, ap rank q.before, enabled_rank x.phase (sym before.state ∙ w.was)))) goes.1
          in
          in_open trim.0 known.place trim.1
          (w.recorded
          ∙ ⊎_elim (λ q. q) (λ q. q ∙ ap (λ (n : ℕ). n % 256) only) ((cut_here.link copy r.octets copy_of.wrote came.1).1 w.acks)
          ∙ ap (λ (n : ℕ). n % 256) (sym soon.1))
          (omega (arith, next, soon.0))

    heeds : Heeds h r own c → Next
    heeds w =
        ⊎_elim (λ q. heard w.came (copied w.came kinds.DataAck q refl) w) (λ q. heard w.came (copied w.came kinds.FlowControl q refl) w) w.heard

    begins : Begins h r own c → Next
    begins w = first w.came (copied w.came kinds.ControlAck w.acks refl) w

    is_open_lem : Next
    is_open_lem = ⊎_elim still (λ v. ⊎_elim heeds begins v) (flowing (after.state ∙ ap state_of is))

  pub host_said : Next
  host_said = either_way (is_open z.phase) (λ q. is_open_lem (open_is z.phase q)) not_open
