-- The subscriber before a call: what is known of its record, and the two cases that are the same for every call. Nothing changes; or the record
-- makes a move to a later phase, and no account changes.
-- Assumes nothing.
use mathlib.Core.Path.{◌≡◌, refl, sym, ap, ◌∙◌, subst}
use mathlib.Core.Bool.{Bool, true, false, true≢false, ◌&&◌}
use mathlib.Core.List.{List, [], ◌∷◌}
use Prim.Native.Nat.{ℕ, zero, suc, ◌+◌, ◌≤◌, ◌<◌}
use native.Mathlib.Omega.{arith}
use borrow.Author.Tests.{eq-eqb, ltb-true}
use lib.Dec.{eqb, ltb}
use lib.ListN.{length}
use Rattle.laws.proofs.Choice.{passed_by, first_not, last_not}
use Rattle.channel.specs.declared.record.Addresses.{Addresses}
use Rattle.channel.specs.declared.record.Channel.{Channel}
use Rattle.channel.specs.declared.answer.Answer.{Answer}
use Rattle.channel.specs.Record as state
use Rattle.channel.specs.Record.{sends, receives}
use Rattle.channel.specs.Answers.{number_of}
use Rattle.channel.specs.Asked.{Asked}
use Rattle.table.specs.Serving.{record_at, own_mem, own_lens}
use Rattle.protocol.specs.Ends.{Limits, Phase, fresh, enabled, opened, closing, shut, rank}
use Rattle.protocol.specs.Sending.{Sender}
use Rattle.protocol.specs.Receiving.{Receiver, ReceiverCall, start_of, controlled}
use Rattle.means.specs.Meaning.{state_of, limits_of}
use Rattle.means.proofs.Receives.{Receives}
use Rattle.means.proofs.ReceiverControl.{Moves}
use Rattle.delivery.specs.Calls.{End, Kind, opens, takes, arrives, Request, channel_of, counted_on, index_told}
use Rattle.delivery.specs.History.{Side, subscriber, Event, is, granted, written, names, IsDataAck, Toward, openings, taken}
use Rattle.delivery.specs.Delivery.{Fresh, Alike}
use Rattle.delivery.proofs.Own.{View}
use Rattle.delivery.proofs.Nodes.{end_with, same_length, same_addresses, same_limits, own_asked, small_window}
use Rattle.delivery.proofs.Known.{limits, InvOf, Numbered, Subscriber}
use Rattle.delivery.proofs.Counting.{counted_on_lem}
use Rattle.delivery.proofs.Packets.{names_nothing}
use Rattle.delivery.proofs.SubscriberFrame.{subscriber_call, subscriber_event, SubscriberNext, subscriber_next, no_reply, subscriber_quiet}

-- ---- which calls are granted

-- none that is not answered 0
pub unanswered : (side : Side) (kind : Kind) (index : ℕ) (e : Event) → eqb (number_of e.answer) 0 ≡ false → granted side kind index e ≡ false
unanswered side kind index e z =
    last_not (is side kind e.call && eqb e.call.request.channel index) (eqb (number_of e.answer) 0) z

-- none for another channel
pub for_another : (side : Side) (kind : Kind) (index : ℕ) (e : Event) → eqb e.call.request.channel index ≡ false → granted side kind index e ≡ false
for_another side kind index e z =
    first_not (is side kind e.call && eqb e.call.request.channel index) (eqb (number_of e.answer) 0)
    (last_not (is side kind e.call) (eqb e.call.request.channel index) z)

pub granted_is : (side : Side) (kind : Kind) (index : ℕ) (e : Event)
    → is side kind e.call ≡ true → e.call.request.channel ≡ index → number_of e.answer ≡ 0 → granted side kind index e ≡ true
granted_is side kind index e a b c = simp (a, eq-eqb e.call.request.channel index b, eq-eqb (number_of e.answer) 0 c)

-- ---- OPEN is one phase

pub opened_rank : (p : Phase) → state_of p ≡ state.opened → rank p ≡ 2
opened_rank fresh e = absurd (omega (arith, e))
opened_rank enabled e = absurd (omega (arith, e))
opened_rank opened e = refl
opened_rank closing e = absurd (omega (arith, e))
opened_rank shut e = absurd (omega (arith, e))

pub rank_opened : (p : Phase) → rank p ≡ 2 → state_of p ≡ state.opened
rank_opened fresh e = absurd (omega (arith, e))
rank_opened enabled e = absurd (omega (arith, e))
rank_opened opened e = refl
rank_opened closing e = absurd (omega (arith, e))
rank_opened shut e = absurd (omega (arith, e))

pub rank_fresh : (p : Phase) → rank p ≡ 0 → p ≡ fresh
rank_fresh fresh e = refl
rank_fresh enabled e = absurd (omega (arith, e))
rank_fresh opened e = absurd (omega (arith, e))
rank_fresh closing e = absurd (omega (arith, e))
rank_fresh shut e = absurd (omega (arith, e))

-- ---- the subscriber before a call

pub record Stage (h s : End) (past : List Event) (x : Sender) (y : Receiver) (t : List Channel) (mem lens lines : List ℕ) (n : ℕ) : Type 0 where
  pub beginning : Fresh s
  pub alike : Alike h s
  pub inv : InvOf h s past x y
  pub numbered : Numbered h s past
  pub now : Subscriber s past t mem lens n y

module _ {h s : End} {past : List Event} {x : Sender} {y : Receiver} {t : List Channel} {mem lens lines : List ℕ} {n : ℕ} (w : Stage h s past x y t mem lens lines n) where
  -- the record, its octets and its lengths
  abbrev c : Channel
  c = record_at t s.index

  abbrev m : List ℕ
  m = own_mem t s.index mem

  abbrev l : List ℕ
  l = own_lens t s.index lens

  pub below : s.index < length t
  below = subst (λ (k : ℕ). s.index < k) (sym (same_length s t mem lens w.now.kept)) w.beginning.below

  pub addresses_are : c.addresses ≡ (channel_of s).addresses
  addresses_are = same_addresses s t mem lens w.now.kept s.index

  pub receiving : c.addresses.direction ≡ receives
  receiving = ap (λ (a : Addresses). a.direction) addresses_are ∙ w.alike.receives

  pub not_sending : c.addresses.direction ≡ sends → ⊥
  not_sending e = omega (arith, e, receiving)

  pub asked : Asked c m l
  asked = own_asked s t mem lens w.now.kept s.index below

  pub limits_are : limits h s ≡ limits_of c.limits
  limits_are = w.alike.limits ∙ sym (ap limits_of (same_limits s t mem lens w.now.kept s.index))

  pub small : (limits h s).window ≤ 128
  small = subst (λ (k : Limits). k.window ≤ 128) (sym limits_are) (small_window s t mem lens w.now.kept s.index below)

  -- ---- what is to be shown of a call with this answer and buffer, and with this record, octets and lengths after it

  -- the index that a call tells
  abbrev pub index_for : Request → ℕ
  index_for r = index_told (end_with s t mem lens lines n) r

  abbrev pub Next : Request → ℕ → View
  Next r copy a o k m2 l2 = SubscriberNext h s past x y (subscriber_event r copy n (index_for r) a o) n c k m2 l2

  -- how far the start is counted on
  pub counted_next : (z : Receiver) (k : Channel) (m2 l2 : List ℕ) → Receives k m2 l2 z
      → (rank z.phase ≡ 2 → 1 ≤ rank y.phase)
      → (rank z.phase ≤ 2 → rank y.phase ≤ 2)
      → start_of y ≤ start_of z
      → start_of z < start_of y + 256
      → (rank z.phase ≤ 2 → (rank z.phase ≡ 2 → ⊥) → start_of y ≡ start_of z)
      → rank z.phase ≤ 2
      → counted_on n c k ≡ start_of z
  counted_next z k m2 l2 q was before low high still in-time =
      counted_on_lem n (start_of y) (start_of z) c k (w.now.counted (before in-time)) low high
      (λ e. (w.now.means.within (was (open_then e)) (before in-time)).start)
      (λ e. (q.within (omega (arith, open_then e)) in-time).start)
      (λ e. still in-time (λ z2. e (q.state ∙ rank_opened z.phase z2)))
    where
      open_then : k.phase.state ≡ state.opened → rank z.phase ≡ 2
      open_then e = opened_rank z.phase (sym q.state ∙ e)

  module _ (r : Request) (copy : ℕ) (a : Answer) (o : List ℕ) where
    abbrev event : Event
    event = subscriber_event r copy n (index_for r) a o

    -- no Data Ack for the host is written
    abbrev pub Unreplied : Type 0
    Unreplied =
        (packet : List ℕ) → is subscriber arrives (subscriber_call r copy) ≡ true → written event ≡ packet → Toward s (index_for r) → names h packet ≡ true → IsDataAck packet → ⊥

    pub unwritten : written event ≡ [] → Unreplied
    unwritten e packet is wrote toward named kind = true≢false (sym named ∙ ap (names h) (sym wrote ∙ e) ∙ names_nothing h)

    module _ (untaken : granted subscriber takes s.index event ≡ false) (unopened : granted subscriber opens s.index event ≡ false) (unreplied : Unreplied) where
      taken_same : taken s (event ∷ past) ≡ taken s past
      taken_same = passed_by (granted subscriber takes s.index event) _ _ untaken

      still_waits : openings subscriber s.index (event ∷ past) ≡ 0 → y.phase ≡ fresh
      still_waits e = w.now.waits (sym (passed_by (granted subscriber opens s.index event) _ _ unopened) ∙ e)

      -- nothing changes
      pub quiet : Next r copy a o c m l
      quiet =
          subscriber_quiet h s past x y w.inv w.numbered small r copy n (index_for r) a o c m l taken_same unreplied w.now.means w.now.counted still_waits

      -- a move to a later phase
      pub moves_next : (k : Channel) → Moves c k m l y → Next r copy a o k m l
      moves_next k q =
          subscriber_next h s past x y w.inv w.numbered small r copy n (index_for r) a o call tt tt taken_same
          (no_reply h s past x y w.inv w.numbered small r copy n (index_for r) a o call unreplied (λ j b. b))
          c k m l q.related (counted (ltb (rank y.phase) (rank q.phase)) refl q.related) (waits (ltb (rank y.phase) (rank q.phase)))
        where
          call : ReceiverCall
          call = ReceiverCall.control q.phase

          Counted : Bool → Type 0
          Counted b = rank (controlled b y q.phase).0.phase ≤ 2 → counted_on n c k ≡ start_of (controlled b y q.phase).0

          -- it was opened before, as a record that was not makes no move
          opened_before : rank y.phase < rank q.phase → (j : ℕ) → rank y.phase ≡ j → 1 ≤ j
          opened_before less zero e = absurd (omega (arith, less, e, ap rank (q.waits (rank_fresh y.phase e))))
          opened_before less (suc j) e = omega arith

          counted : (b : Bool) → ltb (rank y.phase) (rank q.phase) ≡ b → Receives k m l (controlled b y q.phase).0 → Counted b
          counted false e related =
              counted_next y k m l related (λ z. omega (arith, z)) (λ z. z) (omega arith) (omega arith) (λ z other. refl)
          counted true e related =
              let less : rank y.phase < rank q.phase = ltb-true (rank y.phase) (rank q.phase) e in
              counted_next (controlled true y q.phase).0 k m l related
              (λ z. opened_before less (rank y.phase) refl) (λ z. omega (arith, z, less)) (omega arith) (omega arith) (λ z other. refl)

          waits : (b : Bool) → openings subscriber s.index (event ∷ past) ≡ 0 → (controlled b y q.phase).0.phase ≡ fresh
          waits false e = still_waits e
          waits true e = q.waits (still_waits e)
