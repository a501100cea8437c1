-- A call at the subscriber keeps what is known of the packets on the link: Data that comes, which is not late, and what the subscriber tells the host.
-- Assumes nothing.
use mathlib.Core.Path.{◌≡◌, refl, sym, ap, ap₂, ◌∙◌, subst}
use mathlib.Core.Bool.{Bool, true, false, true≢false, ◌&&◌}
use mathlib.Core.List.{List, ◌∷◌, ◌++◌}
use mathlib.Core.Logic.{⊎_elim}
use Prim.Native.Nat.{ℕ, zero, suc, ◌+◌, ◌-◌, ◌≤◌, ◌<◌}
use native.Mathlib.Omega.{arith}
use borrow.Author.Tests.{leb-true, leb-false, ne_eqb}
use lib.Dec.{leb, eqb}
use lib.ListN.{length}
use Rattle.laws.proofs.Choice.{either_way, passed_by}
use Rattle.packet.specs.declared.kinds.Kind.TheVariants as kinds
use Rattle.channel.specs.declared.record.Channel.{Channel}
use Rattle.channel.specs.declared.answer.Answer.{Answer}
use Rattle.channel.specs.Record as state
use Rattle.table.specs.Serving.{record_at}
use Rattle.protocol.specs.Numbers.{number_at, distance}
use Rattle.protocol.specs.Ends.{rank}
use Rattle.protocol.specs.Sending.{Sender}
use Rattle.protocol.specs.Receiving.{Receiver, ReceiverCall, receiver_step, start_of}
use Rattle.protocol.proofs.Distances.{near_is}
use Rattle.means.proofs.Receives as means
use Rattle.delivery.specs.Calls.{End, arrives, Request, counted_on}
use Rattle.delivery.specs.History.{subscriber, Event, is, names, binds, IsData, HandedOut}
use Rattle.delivery.specs.Delivery.{NotLate}
use Rattle.delivery.proofs.Nodes.{end_with}
use Rattle.delivery.proofs.Known.{limits}
use Rattle.delivery.proofs.Packets.{binds_so}
use Rattle.delivery.proofs.SubscriberEnd.{opened_rank}
use Rattle.delivery.proofs.SubscriberFrame.{subscriber_call, subscriber_event, DataCame}
use Rattle.room.specs.Order.{Sent, Copied, Brings}
use Rattle.room.proofs.Chains.{Chain, Cut}
use Rattle.room.proofs.Marks.{Has, FilesAt, Filed, receiver_files}
use Rattle.room.proofs.Known.{Sends, Handed}
use Rattle.room.proofs.Link.{brought, copied_whole, copied_handed, cut_at}

-- ---- Data that comes is a copy, and not late

module _ (h s : End) (past : List Event) (x : Sender) (y : Receiver) (n : ℕ) (r : Request) (copy : ℕ) (small : (limits h s).window ≤ 128)
    (queue later : List Event) (brings : Brings (is subscriber arrives (subscriber_call r copy) && binds s r.octets) (Sent h copy r.octets) queue later)
    (known : Handed h s past x y n queue) where
  abbrev u : List ℕ
  u = r.octets

  abbrev k : ℕ
  k = (limits h s).window

  abbrev comes : Bool
  comes = is subscriber arrives (subscriber_call r copy) && binds s u

  cut_here : (c : Copied (Sent h copy u) queue later) → Cut (Sends h s) known.older x.next known.got later c.source c.before
  cut_here c = cut_at (Sends h s) (Sent h copy u) queue later known.older x.next known.got known.chain c

  -- the window has started at most a window past the segment
  data_near : (c : Copied (Sent h copy u) queue later) → IsData u → n ≤ copy + k
  data_near c kind =
      let w = cut_here c in
      let started = c.wrote.3 kind in
      omega (arith, w.link.0 c.wrote.0, w.after, known.counted, started)

  pub data_copied : is subscriber arrives (subscriber_call r copy) ≡ true → names s u ≡ true → IsData u → Copied (Sent h copy u) queue later
  data_copied at named kind = brought (Sent h copy u) queue later comes (ap₂ (λ (a b : Bool). a && b) at (binds_so s u kinds.Data kind refl named)) brings

  pub came_near : is subscriber arrives (subscriber_call r copy) ≡ true → names s u ≡ true → IsData u → n ≤ copy + k
  came_near at named kind = data_near (data_copied at named kind) kind

  pub came_handed : is subscriber arrives (subscriber_call r copy) ≡ true → names s u ≡ true → IsData u → HandedOut h past copy u
  came_handed at named kind = copied_handed h known.older copy u known.whole (data_copied at named kind)

  pub subscriber_fair : (t : List Channel) (mem lens lines : List ℕ) → (record_at t s.index).limits.window ≡ k
      → is subscriber arrives (subscriber_call r copy) ≡ true → binds s u ≡ true → HandedOut h past copy u × (IsData u → NotLate (end_with s t mem lens lines n) copy)
  subscriber_fair t mem lens lines window_is at binding =
      let c = brought (Sent h copy u) queue later comes (ap₂ (λ (a b : Bool). a && b) at binding) brings in (
        copied_handed h known.older copy u known.whole c,
        λ kind. omega (arith, data_near c kind, window_is, small),
      )

  -- ---- what is known afterwards

  module _ (z : Receiver) (call : ReceiverCall) (stepped : z ≡ (receiver_step (limits h s) y call).0) (told : ℕ) (a : Answer) (o : List ℕ) (came : DataCame s (subscriber_event r copy n told a o) call)
      (counts : rank y.phase ≤ 2 → n ≡ start_of y) (ahead : copy < x.next → copy < start_of y + k)
      (own c : Channel) (m l : List ℕ) (receives : means.Receives c m l z) (counted : rank z.phase ≤ 2 → counted_on n own c ≡ start_of z) where
    abbrev e : Event
    e = subscriber_event r copy n told a o

    files : Filed (limits h s) y call z
    files = receiver_files (limits h s) y z call stepped

    -- what the start has passed is filed
    passed_filed : (got : ℕ) → rank z.phase ≤ 2 → ((j : ℕ) → Has z j → j < got) → start_of z ≤ got
    passed_filed got early filed = go (start_of z) refl
      where
        go : (i : ℕ) → start_of z ≡ i → i ≤ got
        go zero e = omega arith
        go (suc i) e =
            either_way (leb 1 (rank z.phase))
            (λ q. let at = (receives.within (leb-true 1 (rank z.phase) q) early).known i (omega (arith, e)) in filed i (_, at))
            (λ q.
            let none : length z.passed ≡ 0 = ap length (receives.before (omega (arith, leb-false 1 (rank z.phase) q))).passed in
            absurd (omega (arith, none, e)))

    still_counted : (3 ≤ rank z.phase) → counted_on n own c ≡ n
    still_counted past_open =
        passed_by (eqb c.phase.state state.opened) _ n
        (ne_eqb c.phase.state state.opened (λ q. omega (arith, past_open, opened_rank z.phase (sym receives.state ∙ q))))

    next : (older : List Event) (got : ℕ) → past ≡ later ++ older → Chain (Sends h s) older x.next got later → known.got ≤ got
        → (rank z.phase ≤ 2 → (j : ℕ) → Has z j → j < got)
        → Handed h s (e ∷ past) x z (counted_on n own c) (e ∷ later)
    next older got whole chain grows filed =
        record {
          older = older;
          whole = ap (e ∷◌) whole;
          got = got;
          chain = (x.next, omega arith, (λ q. absurd (true≢false (sym q)), λ i packet w. absurd (true≢false (sym w.0))), chain);
          filed = filed;
          counted =
              either_way (leb (rank z.phase) 2)
              (λ q. let early = leb-true (rank z.phase) 2 q in omega (arith, counted early, passed_filed got early (filed early)))
              (λ q. omega (arith, still_counted (leb-false (rank z.phase) 2 q), known.counted, grows));
        }

    -- ---- no Data came: none is filed

    unfiled : (call : ReceiverCall) → DataCame s e call → comes ≡ false → (j : ℕ) → FilesAt (limits h s) y call j → ⊥
    unfiled (ReceiverCall.control p) w none j q = q
    unfiled (ReceiverCall.arrival i v g) w none j q = true≢false (sym (ap₂ (λ (a b : Bool). a && b) w.0 (binds_so s u kinds.Data w.2 refl w.1)) ∙ none)
    unfiled ReceiverCall.take_unit w none j q = q
    unfiled ReceiverCall.noise w none j q = q

    without : comes ≡ false → later ≡ queue → Handed h s (e ∷ past) x z (counted_on n own c) (e ∷ later)
    without none same =
        next known.older known.got (known.whole ∙ ap (λ (l : List Event). l ++ known.older) (sym same))
        (subst (Chain (Sends h s) known.older x.next known.got) (sym same) known.chain) (omega arith)
        (λ early j q. ⊎_elim (known.filed (omega (arith, early, files.later)) j) (λ v. absurd (unfiled call came none j v)) (files.new j q))

    -- ---- some came

    module _ (of : Copied (Sent h copy u) queue later) (handed : names s u ≡ true → IsData u → copy < x.next) where
      abbrev cuts : Cut (Sends h s) known.older x.next known.got later of.source of.before
      cuts = cut_here of

      -- what is filed is the segment that came
      files_copy : (call : ReceiverCall) → DataCame s e call → rank y.phase ≤ 2 → (j : ℕ) → FilesAt (limits h s) y call j → j < cuts.to
      files_copy (ReceiverCall.control p) w early j q = absurd q
      files_copy (ReceiverCall.arrival i v g) w early j q =
          let number : v ≡ number_at copy = w.4 ∙ ap number_at (sym w.3) in
          let near = subst (λ (m : ℕ). distance m (number_at (start_of y)) < k) number q.0 in
          let late : start_of y ≤ copy + (256 - k) = omega (arith, data_near of w.2, counts early, small) in
          let is : j ≡ copy
          = q.1 ∙ ap (λ (m : ℕ). start_of y + distance m (number_at (start_of y))) number
          ∙ near_is (start_of y) copy k small (ahead (handed w.1 w.2)) late near
          in
          let under = cuts.link.1 copy u of.wrote w.1 w.2 in
          omega (arith, is, under)
      files_copy ReceiverCall.take_unit w early j q = absurd q
      files_copy ReceiverCall.noise w early j q = absurd q

      with_one : Handed h s (e ∷ past) x z (counted_on n own c) (e ∷ later)
      with_one =
          let grows : known.got ≤ cuts.to = omega (arith, cuts.after, cuts.rises) in
          next (of.source ∷ (of.before ++ known.older)) cuts.to (copied_whole known.older of known.whole) cuts.rest grows
          (λ early j q.
          let early_y : rank y.phase ≤ 2 = omega (arith, early, files.later) in
          ⊎_elim (λ v. omega (arith, known.filed early_y j v, grows)) (files_copy call came early_y j) (files.new j q))

    pub subscriber_handed : (names s u ≡ true → IsData u → HandedOut h past copy u → copy < x.next) → Handed h s (e ∷ past) x z (counted_on n own c) (e ∷ later)
    subscriber_handed inside = by comes refl brings
      where
        by : (b : Bool) → comes ≡ b → Brings b (Sent h copy u) queue later → Handed h s (e ∷ past) x z (counted_on n own c) (e ∷ later)
        by true q w = with_one w (λ named kind. inside named kind (copied_handed h known.older copy u known.whole w))
        by false q w = without q w
