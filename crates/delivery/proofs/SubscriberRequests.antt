-- Requests at the subscriber but for takes, and the call for a packet. An Open directive begins the opening, a Heartbeat that is handed out is nothing to
-- the protocol, and all others leave a receiving record as it was.
-- Assumes nothing.
use mathlib.Core.Path.{◌≡◌, refl, sym, ap, ◌∙◌, subst}
use mathlib.Core.Bool.{Bool, true, false, true≢false}
use mathlib.Core.List.{List}
use Prim.Native.Nat.{ℕ}
use native.Mathlib.Omega.{arith}
use borrow.Author.Tests.{ne_eqb}
use lib.Dec.{eqb, ltb}
use lib.ListN.{length}
use Rattle.laws.proofs.Choice.{chosen, passed_by}
use Rattle.walks.specs.Serving.{works}
use Rattle.channel.specs.declared.record.Channel.{Channel}
use Rattle.channel.specs.declared.answer.Answer.{Answer}
use Rattle.channel.specs.declared.answer.Answer.TheVariants.{Done, Refused}
use Rattle.channel.specs.declared.answer.Refusal.{Refusal}
use Rattle.channel.specs.declared.answer.Refusal.TheVariants as refusal
use Rattle.channel.specs.declared.step.Stepped.{Stepped}
use Rattle.channel.specs.Record.{sends, no_lone}
use Rattle.channel.specs.Steps.{refusing, doing, enabled_of}
use Rattle.receiver.specs.Receiving.{open_step}
use Rattle.ends.proofs.ReceiverCases.{open_cases}
use Rattle.table.specs.Waiting.{rank_in}
use Rattle.table.specs.declared.looking.Look.{Look}
use Rattle.table.specs.declared.looking.Sought.TheVariants.{Index, Question, Ready, Nobody}
use Rattle.table.specs.Looking.{seeking}
use Rattle.table.specs.Looking.{chosen as choice}
use Rattle.table.specs.Serving.{record_at, own_mem, own_lens, Step, serve_one, alone}
use Rattle.requests.specs.Requests.{opened_by, closed_by, transfer_for, asked_by, reclaim_for}
use Rattle.requests.specs.Handing.{next_for}
use Rattle.requests.proofs.RequestLaws.{opened_receives, closed_receives, asked_receives}
use Rattle.keeps.specs.Keeping.{Given}
use Rattle.keeps.proofs.StepsKeep.{open_keeps, close_keeps, reclaim_keeps, next_keeps, given_waits, given_ready}
use Rattle.keeps.proofs.CallsAlone.{shapes, transfer_shapes}
use Rattle.keeps.proofs.DoorKeeps.{question_keeps, unknown_keeps}
use Rattle.keeps.proofs.Alone.{Shapes, index_served_lem}
use Rattle.protocol.specs.Ends.{fresh, rank}
use Rattle.protocol.specs.Sending.{Sender}
use Rattle.protocol.specs.Receiving.{Receiver, ReceiverCall, start_of, controlled}
use Rattle.means.proofs.ReceiverControl.{Opens, open_receives}
use Rattle.means.proofs.Pulses.{single_out_receives}
use Rattle.means.proofs.PulseMoves.{still_moves}
use Rattle.sender_packets.specs.HandingOut.{next_out}
use Rattle.table.proofs.WaitingLaws.{waits_receives}
use Rattle.delivery.proofs.Handed.{hand_cases}
use Rattle.delivery.specs.Calls.{End, Kind, opens, closes, transfers, asks, reclaims, hands, strays, Request, called_by}
use Rattle.delivery.specs.History.{subscriber, Event, granted, openings}
use Rattle.delivery.proofs.Own.{View, Seen, Left, own_cases}
use Rattle.delivery.proofs.Nodes.{end_with}
use Rattle.delivery.proofs.Counting.{counted_same}
use Rattle.delivery.proofs.Packets.{refused_not_done}
use Rattle.delivery.proofs.SubscriberFrame.{subscriber_event, subscriber_next, no_reply}
use Rattle.delivery.proofs.SubscriberEnd.{unanswered, for_another, granted_is, Stage, below, receiving, not_sending, asked, small, index_for, Next, quiet, moves_next}

-- ---- a request that is served at another channel than the one with index i is not for that one

pub other_index : (index j i : ℕ) (rank : ℕ) (c : Channel) (mem lens : List ℕ) → (j ≡ i → ⊥) → Given (seeking (Index index)) j rank c mem lens → eqb index i ≡ false
other_index index j i rank c mem lens apart g = ne_eqb index i (λ e. apart (index_served_lem index j rank c mem lens g ∙ e))

-- ---- what a receiving record does

module _ (c : Channel) (rank : ℕ) (mem lens out : List ℕ) (other : c.addresses.direction ≡ sends → ⊥) where
  transfer_refused : (unit : List ℕ) → transfer_for unit c rank mem lens out ≡ works (refusing c refusal.State) mem lens out
  unfolding transfer_for
  transfer_refused unit = passed_by (eqb c.addresses.direction sends) _ _ (ne_eqb c.addresses.direction sends other)

  reclaim_refused : reclaim_for c rank mem lens out ≡ works (refusing c refusal.State) mem lens out
  unfolding reclaim_for
  reclaim_refused = passed_by (eqb c.addresses.direction sends) _ _ (ne_eqb c.addresses.direction sends other)

module _ {h s : End} {past : List Event} {x : Sender} {y : Receiver} {t : List Channel} {mem lens lines : List ℕ} {n : ℕ} (w : Stage h s past x y t mem lens lines n)
    (channel : ℕ) (octets buffer : List ℕ) (copy : ℕ) where
  abbrev i : ℕ
  i = s.index

  abbrev c : Channel
  c = record_at t s.index

  abbrev m : List ℕ
  m = own_mem t s.index mem

  abbrev l : List ℕ
  l = own_lens t s.index lens

  abbrev request : Kind → Request
  request kind = record { kind = kind; channel = channel; octets = octets; buffer = buffer }

  -- what is to be shown of a call
  abbrev Shown : Kind → Type 0
  Shown kind = Seen (Next w (request kind) copy) i (called_by kind (end_with s t mem lens lines n) (request kind))

  -- ---- a call that leaves a receiving record as it was

  unmoved : (kind : Kind) → ((a : Answer) (o : List ℕ) → Next w (request kind) copy a o c m l)
      → (look : Look) (step : Step) (out : List ℕ) → Shapes look step out
      → (why : Refusal) → (Given look i (rank_in (choice look lines t).grade) c m l → step c (rank_in (choice look lines t).grade) m l out ≡ works (refusing c why) m l out)
      → Seen (Next w (request kind) copy) i (serve_one look step t mem lens lines out)
  unmoved kind nothing look step out shape why refuses =
      own_cases look step t mem lens lines out shape i (below w) (Next w (request kind) copy)
      (λ other. nothing (Refused other) out)
      (λ j there apart at g. nothing _ _)
      (λ at g. subst (Left (Next w (request kind) copy)) (sym (refuses g)) (nothing (Refused why) out))

  pub subscriber_closes : Shown closes
  subscriber_closes =
      unmoved closes (λ a o. quiet w (request closes) copy a o refl refl (λ packet q. absurd (true≢false (sym q))))
      (seeking (Index channel)) (alone closed_by) buffer (shapes (seeking (Index channel)) (alone closed_by) buffer (close_keeps (seeking (Index channel)) buffer)) refusal.State
      (λ g. ap (λ (z : Stepped). works z m l buffer) (closed_receives c (not_sending w)))

  pub subscriber_transfers : Shown transfers
  subscriber_transfers =
      unmoved transfers (λ a o. quiet w (request transfers) copy a o refl refl (λ packet q. absurd (true≢false (sym q))))
      (seeking (Index channel)) (transfer_for octets) buffer (transfer_shapes (seeking (Index channel)) octets buffer) refusal.State
      (λ g. transfer_refused c (rank_in (choice (seeking (Index channel)) lines t).grade) m l buffer (not_sending w) octets)

  -- whatever is asked
  pub subscriber_asks : Shown asks
  subscriber_asks =
      unmoved asks (λ a o. quiet w (request asks) copy a o refl refl (λ packet q. absurd (true≢false (sym q))))
      (seeking (Question channel)) (alone (asked_by (length octets))) buffer
      (shapes (seeking (Question channel)) (alone (asked_by (length octets))) buffer (question_keeps (seeking (Question channel)) (length octets) buffer)) refusal.State
      (λ g. ap (λ (z : Stepped). works z m l buffer) (asked_receives c (length octets) (not_sending w)))

  pub subscriber_reclaims : Shown reclaims
  subscriber_reclaims =
      unmoved reclaims (λ a o. quiet w (request reclaims) copy a o refl refl (λ packet q. absurd (true≢false (sym q))))
      (seeking (Index channel)) reclaim_for buffer (shapes (seeking (Index channel)) reclaim_for buffer (reclaim_keeps (seeking (Index channel)) buffer)) refusal.State
      (λ g. reclaim_refused c (rank_in (choice (seeking (Index channel)) lines t).grade) m l buffer (not_sending w))

  -- a receiver hands out its Heartbeat and Flow Control alone, which are nothing to the protocol
  pub subscriber_hands : Shown hands
  subscriber_hands =
      own_cases (seeking Ready) (next_for s.node) t mem lens lines buffer (shapes (seeking Ready) (next_for s.node) buffer (next_keeps s.node buffer)) i (below w)
      (Next w (request hands) copy)
      (λ why. nothing (Refused why) buffer)
      (λ j there apart at g. nothing _ _)
      (λ at g. own (rank_in (choice (seeking Ready) lines t).grade) g)
    where
      nothing : (a : Answer) (o : List ℕ) → Next w (request hands) copy a o c m l
      nothing a o = quiet w (request hands) copy a o refl refl (λ packet q. absurd (true≢false (sym q)))

      handed : (z : ℕ) (o : List ℕ) → Next w (request hands) copy (Done z 0) o (next_out c 0) m l
      handed z o =
          moves_next w (request hands) copy (Done z 0) o refl refl (λ packet q. absurd (true≢false (sym q)))
          (next_out c 0) (still_moves c (next_out c 0) m l y (single_out_receives c m l y w.now.means))

      own : (rank : ℕ) → Given (seeking Ready) i rank c m l → Left (Next w (request hands) copy) (next_for s.node c rank m l buffer)
      own rank g =
          let zero = (waits_receives c rank (not_sending w) (given_waits i rank c m l g)).0 in
          hand_cases s.node c m l (asked w) rank (given_ready i rank c m l g) (Left (Next w (request hands) copy)) buffer
          (nothing _ buffer)
          (λ z o carries. subst (λ (r : ℕ). Next w (request hands) copy (Done z 0) o (next_out c r) m l) (sym zero) (handed z o))

  -- a request that is none
  pub subscriber_strays : Shown strays
  subscriber_strays =
      let none = seeking (Nobody refusal.NoChannel) in
      let step = alone (λ c. refusing c refusal.NoChannel) in
      unmoved strays (λ a o. quiet w (request strays) copy a o refl refl (λ packet q. absurd (true≢false (sym q))))
      none step buffer (shapes none step buffer (unknown_keeps none buffer)) refusal.NoChannel (λ g. refl)

  -- ---- the Open directive

  -- the premise on it: the opening is the first
  abbrev First : View
  First a o k m2 l2 =
      (granted subscriber opens i (subscriber_event (request opens) copy n (index_for w (request opens)) a o) ≡ true → openings subscriber i past ≡ 0)
      → Next w (request opens) copy a o k m2 l2

  opens_quiet : (a : Answer) (o : List ℕ) → granted subscriber opens i (subscriber_event (request opens) copy n (index_for w (request opens)) a o) ≡ false → Next w (request opens) copy a o c m l
  opens_quiet a o e = quiet w (request opens) copy a o refl e (λ packet q. absurd (true≢false (sym q)))

  opens_refused : (why : Refusal) (o : List ℕ) → Next w (request opens) copy (Refused why) o c m l
  opens_refused why o =
      opens_quiet (Refused why) o (unanswered subscriber opens i (subscriber_event (request opens) copy n (index_for w (request opens)) (Refused why) o) (refused_not_done why))

  opens_done : channel ≡ i → open_step c ≡ doing (enabled_of c no_lone) 0 → First (Done 0 0) buffer (enabled_of c no_lone) m l
  opens_done own e first =
      subscriber_next h s past x y w.inv w.numbered (small w) (request opens) copy n (index_for w (request opens)) (Done 0 0) buffer call tt tt refl
      (no_reply h s past x y w.inv w.numbered (small w) (request opens) copy n (index_for w (request opens)) (Done 0 0) buffer call (λ packet q. absurd (true≢false (sym q))) (λ j b. b))
      c (enabled_of c no_lone) m l q.related
      (λ z. counted_same n c (enabled_of c no_lone) (λ k. absurd (omega (arith, k))) ∙ w.now.counted (omega (arith, ap rank fresh_yet)) ∙ start (ltb (rank y.phase) (rank q.phase)))
      (λ z. absurd (omega (arith, sym (chosen (granted subscriber opens i event) _ _ done) ∙ z)))
    where
      event : Event
      event = subscriber_event (request opens) copy n (index_for w (request opens)) (Done 0 0) buffer

      done : granted subscriber opens i event ≡ true
      done = granted_is subscriber opens i event refl own refl

      fresh_yet : y.phase ≡ fresh
      fresh_yet = w.now.waits (first done)

      q : Opens c (enabled_of c no_lone) m l y
      q = subst (λ (z : Stepped). Opens c z.channel m l y) e (open_receives c m l y (asked w) (receiving w) w.now.means (λ z. fresh_yet))

      call : ReceiverCall
      call = ReceiverCall.control q.phase

      start : (b : Bool) → start_of y ≡ start_of (controlled b y q.phase).0
      start true = refl
      start false = refl

  opens_own : channel ≡ i → Left First (works (opened_by c) m l buffer)
  opens_own own =
      subst (λ (z : Stepped). Left First (works z m l buffer)) (sym (opened_receives c (not_sending w)))
      (open_cases c (λ (z : Stepped). open_step c ≡ z → Left First (works z m l buffer))
      (λ e first. opens_refused refusal.State buffer) (λ e first. opens_refused refusal.Untaken buffer) (λ e. opens_done own e) refl)

  pub subscriber_opens :
      (granted subscriber opens i
      (subscriber_event (request opens) copy n (index_for w (request opens)) (called_by opens (end_with s t mem lens lines n) (request opens)).answer (called_by opens (end_with s t mem lens lines n) (request opens)).out) ≡ true
      → openings subscriber i past ≡ 0)
      → Shown opens
  subscriber_opens =
      own_cases (seeking (Index channel)) (alone opened_by) t mem lens lines buffer (shapes (seeking (Index channel)) (alone opened_by) buffer (open_keeps (seeking (Index channel)) buffer)) i (below w) First
      (λ why first. opens_refused why buffer)
      (λ j there apart at g first.
      opens_quiet (opened_by (record_at t j)).answer buffer
      (for_another subscriber opens i (subscriber_event (request opens) copy n (index_for w (request opens)) (opened_by (record_at t j)).answer buffer) (other_index channel j i _ _ _ _ apart g)))
      (λ at g. opens_own (sym (index_served_lem channel i _ _ _ _ g)))
