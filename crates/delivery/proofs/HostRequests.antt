-- Requests at the host, by the index of a channel: each keeps what is known of the channel that is watched.
-- Assumes nothing.
use mathlib.Core.Path.{◌≡◌, refl, sym, ap, ap₂, ◌∙◌, subst}
use mathlib.Core.Bool.{Bool, true, false, true≢false, ◌&&◌}
use mathlib.Core.List.{List, ◌∷◌}
use Prim.Native.Nat.{ℕ, suc}
use native.Mathlib.Omega.{arith}
use borrow.Author.Tests.{eqb-false, eq-eqb, ne_eqb}
use lib.Dec.{ltb, eqb}
use lib.ListN.{length}
use Rattle.laws.proofs.Choice.{chosen, passed_by, last_not}
use Rattle.walks.specs.Serving.{works}
use Rattle.channel.specs.declared.record.Channel.{Channel}
use Rattle.channel.specs.declared.answer.Answer.{Answer}
use Rattle.channel.specs.declared.answer.Answer.TheVariants.{Refused}
use Rattle.channel.specs.declared.answer.Refusal.TheVariants as refusal
use Rattle.channel.specs.declared.step.Stepped.{Stepped}
use Rattle.channel.specs.Answers.{number_of}
use Rattle.channel.specs.Record.{sends, receives}
use Rattle.channel.specs.Record as state
use Rattle.channel.specs.Steps.{refusing}
use Rattle.sender.specs.Directives as sender
use Rattle.receiver_data.specs.Taking.{take_step, take_out}
use Rattle.table.specs.declared.looking.Look.{Look}
use Rattle.table.specs.declared.looking.Sought.TheVariants.{Index, Question, Nobody}
use Rattle.table.specs.Looking.{seeking}
use Rattle.table.specs.Serving.{Step, alone, serve_one}
use Rattle.requests.specs.Requests.{opened_by, closed_by, asked_by, take_for}
use Rattle.requests.proofs.RequestLaws.{opened_sends, closed_sends}
use Rattle.node.specs.declared.request.Request.TheVariants.{Open, Close, WouldTransfer, Take, Unknown}
use Rattle.node.specs.Calls.{served}
use Rattle.keeps.proofs.Alone.{Shapes, index_served_lem, asked_served}
use Rattle.keeps.specs.Keeping.{Given}
use Rattle.keeps.proofs.StepsKeep.{open_keeps, close_keeps, take_keeps}
use Rattle.keeps.proofs.CallsAlone.{shapes}
use Rattle.keeps.proofs.DoorKeeps.{question_keeps, unknown_keeps}
use Rattle.protocol.specs.Ends.{rank}
use Rattle.protocol.specs.Sending.{Sender, SenderCall}
use Rattle.protocol.specs.Receiving.{Receiver}
use Rattle.ends.proofs.SenderCases.{open_cases}
use Rattle.ends.proofs.SenderRefusals.{open_unchanged}
use Rattle.means.proofs.SenderControl.{close_sends, open_sends}
use Rattle.delivery.specs.Calls.{End, Kind, opens, closes, transfers, asks, takes, reclaims, strays}
use Rattle.delivery.specs.History.{host, Event, granted, openings}
use Rattle.delivery.proofs.Counting.{counted_same}
use Rattle.delivery.proofs.HostFrame.{host_event, host_next}
use Rattle.delivery.proofs.Own.{View, Seen, Left, worked_at, own_cases}
use Rattle.delivery.proofs.Packets.{refused_not_done}
use Rattle.delivery.proofs.HostNow.{HostAt, asking, own, octets, lengths, own_below, own_sends, asked, small, index_for, Next, stays_so, moved_start, moves_on}

-- the calls that name their channel by its index
pub data Named : Kind → Type 0 where
  an_opens : Named opens
  a_closes : Named closes
  a_transfers : Named transfers
  a_takes : Named takes
  a_reclaims : Named reclaims

module _ {h s : End} {past : List Event} {x : Sender} {y : Receiver} {t : List Channel} {mem lens lines : List ℕ} {n : ℕ}
    (k : HostAt h s past x y t mem lens lines n) where
  -- for another channel, or refused
  pub request_quiet : {kind : Kind} → Named kind → (copy i : ℕ) (u b : List ℕ) (a : Answer) (o : List ℕ)
      → (eqb i h.index && eqb (number_of a) 0) ≡ false
      → Next k (asking kind i u b) copy a o (own k) (octets k) (lengths k)
  request_quiet an_opens copy i u b a o e = stays_so k (asking opens i u b) copy a o refl refl refl (λ packet q. absurd (true≢false (sym q)))
  request_quiet a_closes copy i u b a o e = stays_so k (asking closes i u b) copy a o refl refl refl (λ packet q. absurd (true≢false (sym q)))
  request_quiet a_transfers copy i u b a o e =
      stays_so k (asking transfers i u b) copy a o (passed_by (eqb i h.index && eqb (number_of a) 0) _ _ e) refl refl (λ packet q. absurd (true≢false (sym q)))
  request_quiet a_takes copy i u b a o e = stays_so k (asking takes i u b) copy a o refl refl refl (λ packet q. absurd (true≢false (sym q)))
  request_quiet a_reclaims copy i u b a o e =
      stays_so k (asking reclaims i u b) copy a o refl refl (passed_by (eqb i h.index && eqb (number_of a) 0) _ _ e) (λ packet q. absurd (true≢false (sym q)))

  -- a view that holds for another channel, for a refusal, and for its own step; of what names its channel
  pub by_name : (look : Look) (P : View) (i : ℕ) → ((at rank : ℕ) (c : Channel) (m l : List ℕ) → Given look at rank c m l → at ≡ i)
      → (step : Step) (out : List ℕ) → Shapes look step out
      → ((a : Answer) (o : List ℕ) → (eqb i h.index && eqb (number_of a) 0) ≡ false → P a o (own k) (octets k) (lengths k))
      → (i ≡ h.index → (rank : ℕ) → Left P (step (own k) rank (octets k) (lengths k) out))
      → Seen P h.index (serve_one look step t mem lens lines out)
  by_name look P i named step out shaped quiet mine =
      own_cases look step t mem lens lines out shaped h.index (own_below k) P
      (λ why. quiet (Refused why) out (last_not (eqb i h.index) (eqb (number_of (Refused why)) 0) (refused_not_done why)))
      (λ j there apart at g.
      let w = worked_at look step t mem lens lines out shaped h.index (own_below k) j in
      quiet w.made.answer w.out
      (ap (λ (q : Bool). q && eqb (number_of w.made.answer) 0) (ne_eqb i h.index (λ q. apart (named j _ _ _ _ g ∙ q)))))
      (λ at g. mine (sym (named h.index _ _ _ _ g)) _)

  pub by_index : (P : View) (i : ℕ) (step : Step) (out : List ℕ) → Shapes (seeking (Index i)) step out
      → ((a : Answer) (o : List ℕ) → (eqb i h.index && eqb (number_of a) 0) ≡ false → P a o (own k) (octets k) (lengths k))
      → (i ≡ h.index → (rank : ℕ) → Left P (step (own k) rank (octets k) (lengths k) out))
      → Seen P h.index (serve_one (seeking (Index i)) step t mem lens lines out)
  by_index P i = by_name (seeking (Index i)) P i (index_served_lem i)

-- ---- the Open directive

-- done it leads to ENABLED
open_enables : (c : Channel) → eqb (number_of (sender.open_step c).answer) 0 ≡ true → (sender.open_step c).channel.phase.state ≡ state.enabled
open_enables c =
    open_cases c (λ (s : Stepped). eqb (number_of s.answer) 0 ≡ true → s.channel.phase.state ≡ state.enabled)
    (λ e. absurd (true≢false (sym e))) (λ e. absurd (true≢false (sym e))) (λ e. refl)

module _ {h s : End} {past : List Event} {x : Sender} {y : Receiver} {t : List Channel} {mem lens lines : List ℕ} {n : ℕ}
    (k : HostAt h s past x y t mem lens lines n) where
  own_opens : (copy i : ℕ) (u b o : List ℕ) → i ≡ h.index
      → (eqb (number_of (sender.open_step (own k)).answer) 0 ≡ true → openings host h.index past ≡ 0)
      → Next k (asking opens i u b) copy (sender.open_step (own k)).answer o (sender.open_step (own k)).channel (octets k) (lengths k)
  own_opens copy i u b o at once = go (eqb (number_of a) 0) refl
    where
      a : Answer
      a = (sender.open_step (own k)).answer

      c : Channel
      c = (sender.open_step (own k)).channel

      e : Event
      e = host_event (asking opens i u b) copy n (index_for k (asking opens i u b)) a o

      go : (q : Bool) → eqb (number_of a) 0 ≡ q → Next k (asking opens i u b) copy a o c (octets k) (lengths k)
      go false q =
          subst (λ (c : Channel). Next k (asking opens i u b) copy a o c (octets k) (lengths k)) (sym (open_unchanged (own k) (eqb-false _ _ q)))
          (request_quiet k an_opens copy i u b a o (last_not (eqb i h.index) (eqb (number_of a) 0) q))
      go true q =
          let w = open_sends (own k) (octets k) (lengths k) x (asked k) (own_sends k) k.now.means (λ z. k.now.waits (once q)) in
          let on = ltb (rank x.phase) (rank w.phase) in
          let counted : openings host h.index (e ∷ past) ≡ suc (openings host h.index past)
          = chosen (eqb i h.index && eqb (number_of a) 0) _ _ (ap₂ (λ (p r : Bool). p && r) (eq-eqb i h.index at) q)
          in
          host_next h s past y x k.inv k.numbered (small k) (asking opens i u b) copy n (index_for k (asking opens i u b)) a o (SenderCall.control w.phase) tt tt refl refl refl
          (λ j packet z. absurd (true≢false (sym z)))
          (own k) c (octets k) (lengths k) w.related
          (counted_same n (own k) c (λ z. absurd (omega (arith, z, open_enables (own k) q))) ∙ k.now.counted ∙ sym (moved_start k on w.phase))
          (λ z. absurd (omega (arith, z, counted)))

  pub host_opens : (copy i : ℕ) (u b : List ℕ)
      → (granted host opens h.index (host_event (asking opens i u b) copy n (index_for k (asking opens i u b)) (served t mem lens lines (Open i) u b).answer (served t mem lens lines (Open i) u b).out) ≡ true
      → openings host h.index past ≡ 0)
      → Seen (Next k (asking opens i u b) copy) h.index (served t mem lens lines (Open i) u b)
  host_opens copy i u b =
      by_index k Once i (alone opened_by) b (shapes (seeking (Index i)) (alone opened_by) b (open_keeps (seeking (Index i)) b))
      (λ a o q once. request_quiet k an_opens copy i u b a o q)
      (λ at rank.
      subst (λ (w : Stepped). Left Once (works w (octets k) (lengths k) b)) (sym (opened_sends (own k) (own_sends k)))
      (λ once. own_opens copy i u b b at (λ q. once (ap₂ (λ (p r : Bool). p && r) (eq-eqb i h.index at) q))))
    where
      Once : View
      Once a o c m l =
          (granted host opens h.index (host_event (asking opens i u b) copy n (index_for k (asking opens i u b)) a o) ≡ true → openings host h.index past ≡ 0)
          → Next k (asking opens i u b) copy a o c m l

  -- ---- the Close directive

  pub host_closes : (copy i : ℕ) (u b : List ℕ) → Seen (Next k (asking closes i u b) copy) h.index (served t mem lens lines (Close i) u b)
  host_closes copy i u b =
      let P = Next k (asking closes i u b) copy in
      by_index k P i (alone closed_by) b (shapes (seeking (Index i)) (alone closed_by) b (close_keeps (seeking (Index i)) b))
      (request_quiet k a_closes copy i u b)
      (λ at rank.
      subst (λ (w : Stepped). Left P (works w (octets k) (lengths k) b)) (sym (closed_sends (own k) (own_sends k)))
      (moves_on k (asking closes i u b) copy (sender.close_step (own k)).answer b refl refl refl refl (sender.close_step (own k)).channel
      (close_sends (own k) (octets k) (lengths k) x (asked k) (own_sends k) k.now.means)))

  -- ---- a question, which is in no account

  ask_quiet : (copy i : ℕ) (u b : List ℕ) (a : Answer) (o : List ℕ) → Next k (asking asks i u b) copy a o (own k) (octets k) (lengths k)
  ask_quiet copy i u b a o = stays_so k (asking asks i u b) copy a o refl refl refl (λ packet q. absurd (true≢false (sym q)))

  pub host_asks : (copy i : ℕ) (u b : List ℕ) → Seen (Next k (asking asks i u b) copy) h.index (served t mem lens lines (WouldTransfer i (length u)) u b)
  unfolding asked_by
  host_asks copy i u b =
      by_name k (seeking (Question i)) (Next k (asking asks i u b) copy) i (asked_served i) (alone (asked_by (length u))) b
      (shapes (seeking (Question i)) (alone (asked_by (length u))) b (question_keeps (seeking (Question i)) (length u) b))
      (λ a o q. ask_quiet copy i u b a o)
      (λ at rank. ask_quiet copy i u b (asked_by (length u) (own k)).answer b)

  -- ---- and a request that is none

  pub host_strays : (copy i : ℕ) (u b : List ℕ) → Seen (Next k (asking strays i u b) copy) h.index (served t mem lens lines Unknown u b)
  host_strays copy i u b =
      own_cases none refuses t mem lens lines b (shapes none refuses b (unknown_keeps none b)) h.index (own_below k) (Next k (asking strays i u b) copy)
      (λ why. nothing (Refused why) b)
      (λ j there apart at g. nothing (Refused refusal.NoChannel) b)
      (λ at g. nothing (Refused refusal.NoChannel) b)
    where
      none : Look
      none = seeking (Nobody refusal.NoChannel)

      refuses : Step
      refuses = alone (λ c. refusing c refusal.NoChannel)

      nothing : (a : Answer) (o : List ℕ) → Next k (asking strays i u b) copy a o (own k) (octets k) (lengths k)
      nothing a o = stays_so k (asking strays i u b) copy a o refl refl refl (λ packet q. absurd (true≢false (sym q)))

  -- ---- a sender gives no unit

  take_here : (c : Channel) (rank : ℕ) (m l o : List ℕ) → c.addresses.direction ≡ sends → take_for c rank m l o ≡ works (refusing c refusal.State) m l o
  unfolding take_for
  take_here c rank m l o d =
      passed_by (eqb c.addresses.direction receives) (works (take_step c l (length o)) m l (take_out c l m o)) (works (refusing c refusal.State) m l o)
      (ne_eqb c.addresses.direction receives (λ q. omega (arith, q, d)))

  pub host_takes : (copy i : ℕ) (u b : List ℕ) → Seen (Next k (asking takes i u b) copy) h.index (served t mem lens lines (Take i) u b)
  host_takes copy i u b =
      let P = Next k (asking takes i u b) copy in
      by_index k P i take_for b (shapes (seeking (Index i)) take_for b (take_keeps (seeking (Index i)) b))
      (request_quiet k a_takes copy i u b)
      (λ at rank.
      subst (Left P) (sym (take_here (own k) rank (octets k) (lengths k) b (own_sends k)))
      (request_quiet k a_takes copy i u b (Refused refusal.State) b
      (last_not (eqb i h.index) (eqb (number_of (Refused refusal.State)) 0) (refused_not_done refusal.State))))
