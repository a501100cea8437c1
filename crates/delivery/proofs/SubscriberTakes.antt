-- A take at the subscriber gives the oldest unit that waits at the protocol's receiver: the octets written are that unit.
-- Assumes nothing.
use mathlib.Core.Path.{◌≡◌, refl, sym, ap, ◌∙◌, subst}
use mathlib.Core.Bool.{Bool, true, false, true≢false}
use mathlib.Core.List.{List, [], ◌∷◌, ◌++◌}
use Prim.Native.Nat.{ℕ, ◌≤◌}
use native.Mathlib.Omega.{arith}
use borrow.Author.Tests.{eq-eqb, eqb-true, eqb-false, ltb-true, ltb-false}
use lib.Dec.{eqb, ltb}
use lib.ListN.{length, take}
use Rattle.laws.proofs.Choice.{chosen}
use Rattle.slots.specs.Slots.{laid}
use Rattle.channel.specs.Places.{slot_of}
use Rattle.slots.proofs.SlotLaws.{laid_here}
use Rattle.store.specs.Store.{octets_in}
use Rattle.walks.specs.Serving.{works}
use Rattle.channel.specs.declared.record.Channel.{Channel}
use Rattle.channel.specs.declared.answer.Answer.{Answer}
use Rattle.channel.specs.declared.answer.Answer.TheVariants.{Done, Refused}
use Rattle.channel.specs.declared.answer.Refusal.{Refusal}
use Rattle.channel.specs.declared.answer.Refusal.TheVariants as refusal
use Rattle.channel.specs.declared.step.Stepped.{Stepped}
use Rattle.channel.specs.Record.{receives}
use Rattle.channel.specs.Standing.{oldest_of}
use Rattle.channel.specs.Steps.{refusing, doing}
use Rattle.channel.specs.Answers.{number_of}
use Rattle.receiver_data.specs.Taking as spec
use Rattle.receiver_data.specs.Taking.{complete_in, unit_at, size_at, take_step, take_out}
use Rattle.receiver_data.proofs.TakeLaws.{take_nothing, take_small, take_done, out_nothing, out_small, out_done}
use Rattle.table.specs.Waiting.{rank_in}
use Rattle.table.specs.declared.looking.Sought.TheVariants.{Index}
use Rattle.table.specs.Looking.{seeking}
use Rattle.table.specs.Looking.{chosen as choice}
use Rattle.table.specs.Serving.{record_at, own_mem, own_lens}
use Rattle.requests.specs.Requests.{take_for}
use Rattle.keeps.proofs.StepsKeep.{take_keeps}
use Rattle.keeps.proofs.CallsAlone.{shapes}
use Rattle.keeps.proofs.Alone.{index_served_lem}
use Rattle.protocol.specs.Ends as ends
use Rattle.protocol.specs.Ends.{rank}
use Rattle.protocol.specs.Units.{DataUnit}
use Rattle.protocol.specs.Sending.{Sender}
use Rattle.protocol.specs.Receiving as receiver
use Rattle.protocol.specs.Receiving.{Receiver, ReceiverCall, start_of, waiting, receiver_step}
use Rattle.protocol.specs.History as protocol
use Rattle.means.proofs.Receives.{Receives}
use Rattle.means.proofs.Taking.{take_receives}
use Rattle.delivery.specs.Calls.{End, takes, Request, called_by}
use Rattle.delivery.specs.History.{subscriber, Event, granted, written, taken}
use Rattle.delivery.proofs.Own.{Seen, Left, own_cases}
use Rattle.delivery.proofs.Nodes.{end_with}
use Rattle.delivery.proofs.Known.{limits}
use Rattle.delivery.proofs.Packets.{refused_not_done}
use Rattle.delivery.proofs.SubscriberFrame.{subscriber_event, subscriber_next, no_reply}
use Rattle.delivery.proofs.SubscriberRequests.{other_index}
use Rattle.delivery.proofs.SubscriberEnd.{unanswered, for_another, granted_is, Stage, below, receiving, asked, small, index_for, Next, counted_next, quiet}

takes_by : (c : Channel) (rank : ℕ) (mem lens out : List ℕ) → c.addresses.direction ≡ receives
    → take_for c rank mem lens out ≡ works (take_step c lens (length out)) mem lens (take_out c lens mem out)
unfolding take_for
takes_by c rank mem lens out e = chosen (eqb c.addresses.direction receives) _ _ (eq-eqb c.addresses.direction receives e)

module _ {h s : End} {past : List Event} {x : Sender} {y : Receiver} {t : List Channel} {mem lens lines : List ℕ} {n : ℕ} (w : Stage h s past x y t mem lens lines n)
    (channel : ℕ) (octets buffer : List ℕ) (copy : ℕ) where
  abbrev i : ℕ
  i = s.index

  abbrev c : Channel
  c = record_at t s.index

  abbrev m : List ℕ
  m = own_mem t s.index mem

  abbrev l : List ℕ
  l = own_lens t s.index lens

  abbrev request : Request
  request = record { kind = takes; channel = channel; octets = octets; buffer = buffer }

  takes_quiet : (a : Answer) (o : List ℕ) → granted subscriber takes i (subscriber_event request copy n (index_for w request) a o) ≡ false → Next w request copy a o c m l
  takes_quiet a o e = quiet w request copy a o e refl (λ packet q. absurd (true≢false (sym q)))

  takes_refused : (why : Refusal) (o : List ℕ) → Next w request copy (Refused why) o c m l
  takes_refused why o =
      takes_quiet (Refused why) o (unanswered subscriber takes i (subscriber_event request copy n (index_for w request) (Refused why) o) (refused_not_done why))

  abbrev unit : List ℕ
  unit = octets_in (slot_of c) c.limits.payload m l c.limits.slots (unit_at c) (oldest_of c.limits.slots c.window)

  takes_done : channel ≡ i → take_step c l (length buffer) ≡ doing (spec.taken c (unit_at c)) (size_at c l) → size_at c l ≤ length buffer
      → Next w request copy (Done (size_at c l) 0) (laid buffer 0 unit) (spec.taken c (unit_at c)) m l
  takes_done own e room =
      subscriber_next h s past x y w.inv w.numbered (small w) request copy n (index_for w request) said (laid buffer 0 unit) ReceiverCall.take_unit tt tt grows
      (no_reply h s past x y w.inv w.numbered (small w) request copy n (index_for w request) said (laid buffer 0 unit) ReceiverCall.take_unit (λ packet q. absurd (true≢false (sym q))) (λ j b. b))
      c (spec.taken c (unit_at c)) m l related
      (counted_next w z (spec.taken c (unit_at c)) m l related (λ q. omega (arith, q, phase_same)) (λ q. omega (arith, q, phase_same))
      (omega (arith, start_same)) (omega (arith, start_same)) (λ q other. sym start_same))
      (λ q. (same (waiting y)).0 ∙ w.now.waits q)
    where
      said : Answer
      said = Done (size_at c l) 0

      event : Event
      event = subscriber_event request copy n (index_for w request) said (laid buffer 0 unit)

      z : Receiver
      z = (receiver_step (limits h s) y ReceiverCall.take_unit).0

      given : ends.Answer
      given = (receiver_step (limits h s) y ReceiverCall.take_unit).1

      took : (Receives (take_step c l (length buffer)).channel m l z) × (given.number ≡ 0) × (given.unit ≡ unit) × (size_at c l ≡ length given.unit)
      took = take_receives c m l y (asked w) (receiving w) w.now.means (length buffer) (ap (λ (k : Stepped). number_of k.answer) e)

      related : Receives (spec.taken c (unit_at c)) m l z
      related = subst (λ (k : Stepped). Receives k.channel m l z) e took.0

      size : size_at c l ≡ length unit
      size = took.3 ∙ ap length took.2

      wrote : written event ≡ unit
      wrote = ap (λ (k : ℕ). take k (laid buffer 0 unit)) size ∙ laid_here buffer 0 unit (omega (arith, room, size))

      grows : taken s (event ∷ past) ≡ protocol.taken_by ReceiverCall.take_unit given (taken s past)
      grows =
          chosen (granted subscriber takes i event) _ _ (granted_is subscriber takes i event refl own refl)
          ∙ ap (λ (k : List ℕ). taken s past ++ (k ∷ [])) (wrote ∙ sym took.2)
          ∙ sym (chosen (protocol.done given) _ _ (eq-eqb given.number 0 took.1))

      same : (us : List DataUnit) → ((receiver.taking us y).0.phase ≡ y.phase) × (start_of (receiver.taking us y).0 ≡ start_of y)
      same [] = (refl, refl)
      same (u ∷ us) = (refl, refl)

      phase_same : rank z.phase ≡ rank y.phase
      phase_same = ap rank (same (waiting y)).0

      start_same : start_of z ≡ start_of y
      start_same = (same (waiting y)).1

  takes_own : channel ≡ i → Left (Next w request copy) (works (take_step c l (length buffer)) m l (take_out c l m buffer))
  takes_own own = by (eqb (complete_in c.window) 0) refl (ltb (length buffer) (size_at c l)) refl
    where
      Goal : Stepped → List ℕ → Type 0
      Goal z o = Left (Next w request copy) (works z m l o)

      made : (z : Stepped) (o : List ℕ) → take_step c l (length buffer) ≡ z → take_out c l m buffer ≡ o → Goal z o → Goal (take_step c l (length buffer)) (take_out c l m buffer)
      made z o e f g = subst (λ (k : Stepped). Goal k (take_out c l m buffer)) (sym e) (subst (λ (k : List ℕ). Goal z k) (sym f) g)

      by : (a : Bool) → eqb (complete_in c.window) 0 ≡ a → (b : Bool) → ltb (length buffer) (size_at c l) ≡ b → Goal (take_step c l (length buffer)) (take_out c l m buffer)
      by true e b z =
          made (refusing c refusal.Nothing) buffer (take_nothing c l (length buffer) (eqb-true _ _ e)) (out_nothing c l m buffer (eqb-true _ _ e))
          (takes_refused refusal.Nothing buffer)
      by false e true z =
          made (refusing c (refusal.Small (size_at c l))) buffer (take_small c l (length buffer) (eqb-false _ _ e) (ltb-true _ _ z)) (out_small c l m buffer (eqb-false _ _ e) (ltb-true _ _ z))
          (takes_refused (refusal.Small (size_at c l)) buffer)
      by false e false z =
          let done = take_done c l (length buffer) (eqb-false _ _ e) (ltb-false _ _ z) in
          made (doing (spec.taken c (unit_at c)) (size_at c l)) (laid buffer 0 unit) done (out_done c l m buffer (eqb-false _ _ e) (ltb-false _ _ z))
          (takes_done own done (ltb-false _ _ z))

  pub subscriber_takes : Seen (Next w request copy) i (called_by takes (end_with s t mem lens lines n) request)
  subscriber_takes =
      own_cases (seeking (Index channel)) take_for t mem lens lines buffer (shapes (seeking (Index channel)) take_for buffer (take_keeps (seeking (Index channel)) buffer)) i (below w)
      (Next w request copy)
      (λ why. takes_refused why buffer)
      (λ j there apart at g.
      let step = take_for (record_at t j) (rank_in (choice (seeking (Index channel)) lines t).grade) (own_mem t j mem) (own_lens t j lens) buffer in
      takes_quiet step.made.answer step.out
      (for_another subscriber takes i (subscriber_event request copy n (index_for w request) step.made.answer step.out) (other_index channel j i _ _ _ _ apart g)))
      (λ at g.
      subst (Left (Next w request copy)) (sym (takes_by c (rank_in (choice (seeking (Index channel)) lines t).grade) m l buffer (receiving w)))
      (takes_own (sym (index_served_lem channel i _ _ _ _ g))))
