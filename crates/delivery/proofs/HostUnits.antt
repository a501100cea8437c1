-- A unit handed over to the host, and one given back: each keeps what is known of the channel that is watched.
-- Assumes nothing.
use mathlib.Core.Path.{◌≡◌, refl, sym, ap, ap₂, ◌∙◌, subst}
use mathlib.Core.Bool.{Bool, true, false, true≢false, ◌&&◌}
use mathlib.Core.List.{List, [], ◌∷◌, ◌++◌}
use Prim.Native.Nat.{ℕ, ◌+◌, ◌-◌}
use borrow.Author.Tests.{eqb-false, eqb-true, eq-eqb}
use lib.Dec.{leb, eqb}
use lib.ListN.{length, take, drop}
use lib.Seq.{take_at}
use Rattle.std.specs.Prelude.{if◌then◌else◌}
use Rattle.laws.proofs.Choice.{chosen, last_not}
use Rattle.slots.specs.Slots.{laid}
use Rattle.channel.specs.Places.{slot_of}
use Rattle.store.specs.Store.{octets_in}
use Rattle.walks.specs.Serving.{works}
use Rattle.channel.specs.declared.record.Channel.{Channel}
use Rattle.channel.specs.declared.answer.Answer.{Answer}
use Rattle.channel.specs.declared.answer.Refusal.TheVariants as refusal
use Rattle.channel.specs.declared.step.Stepped.{Stepped}
use Rattle.channel.specs.Answers.{number_of, length_of}
use Rattle.channel.specs.Record.{sends}
use Rattle.channel.specs.Steps.{refusing}
use Rattle.channel.specs.Pairs.{filed}
use Rattle.sender_units.specs.Transfer.{transfer_step, transfer_mem, transfer_lens}
use Rattle.sender_units.specs.Reclaiming.{unit_at, size_at, reclaim_step, reclaim_out}
use Rattle.table.specs.declared.looking.Sought.TheVariants.{Index}
use Rattle.table.specs.Looking.{seeking}
use Rattle.requests.specs.Requests.{transfer_for, reclaim_for}
use Rattle.node.specs.declared.request.Request.TheVariants.{Transfer, Reclaim}
use Rattle.node.specs.Calls.{served}
use Rattle.keeps.proofs.StepsKeep.{reclaim_keeps}
use Rattle.keeps.proofs.CallsAlone.{shapes, transfer_shapes}
use Rattle.protocol.specs.Units.{DataUnit, Segment, cut}
use Rattle.protocol.specs.Ends as ends
use Rattle.protocol.specs.Ends.{Limits, Phase, fresh, enabled, rank, is_open}
use Rattle.protocol.specs.Sending as sending
use Rattle.protocol.specs.Sending.{Sender, SenderCall, sender_step}
use Rattle.protocol.specs.Receiving.{Receiver}
use Rattle.ends.proofs.SenderCases.{reclaim_out_cases}
use Rattle.ends.proofs.SenderRefusals.{reclaim_unchanged}
use Rattle.means.proofs.Sends.{Sends}
use Rattle.means.proofs.Transfers.{transfer_sends}
use Rattle.means.proofs.Reclaims.{reclaim_sends}
use Rattle.delivery.specs.Calls.{End, transfers, reclaims, channel_of}
use Rattle.delivery.specs.History as history
use Rattle.delivery.specs.History.{Event, accepted}
use Rattle.delivery.proofs.Nodes.{same_limits}
use Rattle.delivery.proofs.Known.{limits}
use Rattle.delivery.proofs.HostFrame.{host_event, host_next}
use Rattle.delivery.proofs.Own.{Seen, Left}
use Rattle.delivery.proofs.HostRequests.{a_transfers, a_reclaims, request_quiet, by_index}
use Rattle.delivery.proofs.HostNow.{HostAt, asking, own, octets, lengths, own_sends, own_limits, asked, small, index_for, Next, waits_on, counts_same, was_open}

-- ---- a unit is handed over

module _ {h s : End} {past : List Event} {x : Sender} {y : Receiver} {t : List Channel} {mem lens lines : List ℕ} {n : ℕ}
    (k : HostAt h s past x y t mem lens lines n) where
  taken_start : (a b d : Bool) (l : List Segment) → (sending.transferred a b d x l).0.start ≡ x.start
  taken_start false b d l = refl
  taken_start true false d l = refl
  taken_start true true false l = refl
  taken_start true true true l = refl

  taken_phase : (a b d : Bool) (l : List Segment) → (sending.transferred a b d x l).0.phase ≡ x.phase
  taken_phase false b d l = refl
  taken_phase true false d l = refl
  taken_phase true true false l = refl
  taken_phase true true true l = refl

  -- whatever is answered, the start and the phase are left
  transfer_start : (u : DataUnit) → (sender_step (limits h s) x (SenderCall.transfer u)).0.start ≡ x.start
  transfer_start u =
      let l = cut (limits h s).payload u in
      taken_start (is_open x.phase) (leb (length l) (limits h s).segments) (leb (length x.line - x.oldest + length l) (limits h s).slots) l

  transfer_phase : (u : DataUnit) → (sender_step (limits h s) x (SenderCall.transfer u)).0.phase ≡ x.phase
  transfer_phase u =
      let l = cut (limits h s).payload u in
      taken_phase (is_open x.phase) (leb (length l) (limits h s).segments) (leb (length x.line - x.oldest + length l) (limits h s).slots) l

  -- what is filed of a unit
  abbrev put : List ℕ → List ℕ
  put u = filed (own k).limits u

  own_transfers : (copy i : ℕ) (u b o : List ℕ) → i ≡ h.index
      → Next k (asking transfers i u b) copy (transfer_step (own k) (length (put u))).answer o (transfer_step (own k) (length (put u))).channel
      (transfer_mem (own k) (put u) (octets k)) (transfer_lens (own k) (put u) (lengths k))
  own_transfers copy i u b o at =
      let c = (transfer_step (own k) (length (put u))).channel in
      let a = (transfer_step (own k) (length (put u))).answer in
      let m = transfer_mem (own k) (put u) (octets k) in
      let l = transfer_lens (own k) (put u) (lengths k) in
      let call = SenderCall.transfer (put u) in
      let w : Sends c m l (sender_step (limits h s) x call).0 × (number_of a ≡ (sender_step (limits h s) x call).1.number)
      = subst (λ (L : Limits). Sends c m l (sender_step L x call).0 × (number_of a ≡ (sender_step L x call).1.number)) (own_limits k)
      (transfer_sends (own k) (octets k) (lengths k) x (asked k) (own_sends k) k.now.means (put u))
      in
      let z = (sender_step (limits h s) x call).0 in
      let same : filed (channel_of h).limits u ≡ put u = ap (λ l. filed l u) (sym (same_limits h t mem lens k.now.kept h.index)) in
      host_next h s past y x k.inv k.numbered (small k) (asking transfers i u b) copy n (index_for k (asking transfers i u b)) a o call tt tt
      (ap (λ (v : List ℕ). if eqb i h.index && eqb (number_of a) 0 then accepted h past ++ (v ∷ []) else accepted h past) same
      ∙ ap₂ (λ (p : Bool) (q : ℕ). if p && eqb q 0 then accepted h past ++ (put u ∷ []) else accepted h past) (eq-eqb i h.index at) w.1)
      refl refl
      (λ j packet q. absurd (true≢false (sym q)))
      (own k) c m l w.0
      (counts_same k c m l z w.0 (transfer_start (put u)) (was_open k (transfer_phase (put u))))
      (λ q. transfer_phase (put u) ∙ waits_on k (host_event (asking transfers i u b) copy n (index_for k (asking transfers i u b)) a o) q)

  transfer_here : (c : Channel) (rank : ℕ) (u m l o : List ℕ) → c.addresses.direction ≡ sends
      → let v = filed c.limits u in
      transfer_for u c rank m l o ≡ works (transfer_step c (length v)) (transfer_mem c v m) (transfer_lens c v l) o
  unfolding transfer_for
  transfer_here c rank u m l o d =
      let v = filed c.limits u in
      chosen (eqb c.addresses.direction sends) (works (transfer_step c (length v)) (transfer_mem c v m) (transfer_lens c v l) o)
      (works (refusing c refusal.State) m l o) (eq-eqb c.addresses.direction sends d)

  pub host_transfers : (copy i : ℕ) (u b : List ℕ) → Seen (Next k (asking transfers i u b) copy) h.index (served t mem lens lines (Transfer i) u b)
  host_transfers copy i u b =
      let P = Next k (asking transfers i u b) copy in
      by_index k P i (transfer_for u) b (transfer_shapes (seeking (Index i)) u b)
      (request_quiet k a_transfers copy i u b)
      (λ at rank. subst (Left P) (sym (transfer_here (own k) rank u (octets k) (lengths k) b (own_sends k))) (own_transfers copy i u b b at))

-- ---- a unit is given back

-- done it writes the unit
reclaim_writes : (c : Channel) (mem lens out : List ℕ) → eqb (number_of (reclaim_step c lens (length out)).answer) 0 ≡ true
    → (length_of (reclaim_step c lens (length out)).answer ≡ size_at c lens)
    × (reclaim_out c lens mem out ≡ laid out 0 (octets_in (slot_of c) c.limits.payload mem lens c.limits.slots (unit_at c) c.window.place))
reclaim_writes c mem lens out =
    reclaim_out_cases c lens mem out
    (λ (s : Stepped) (o : List ℕ). eqb (number_of s.answer) 0 ≡ true
    → (length_of s.answer ≡ size_at c lens)
    × (o ≡ laid out 0 (octets_in (slot_of c) c.limits.payload mem lens c.limits.slots (unit_at c) c.window.place)))
    (λ e. absurd (true≢false (sym e))) (λ e. absurd (true≢false (sym e))) (λ e. absurd (true≢false (sym e))) (λ e. (refl, refl))

laid_first : (out u : List ℕ) → take (length u) (laid out 0 u) ≡ u
unfolding laid
laid_first out u = take_at u (drop (0 + length u) out) (length u) refl

module _ {h s : End} {past : List Event} {x : Sender} {y : Receiver} {t : List Channel} {mem lens lines : List ℕ} {n : ℕ}
    (k : HostAt h s past x y t mem lens lines n) where
  given_start : (p : Phase) (l : List DataUnit) → (sending.reclaiming p l x).0.start ≡ x.start
  given_start fresh l = refl
  given_start enabled l = refl
  given_start ends.opened l = refl
  given_start ends.closing l = refl
  given_start ends.shut [] = refl
  given_start ends.shut (u ∷ l) = refl

  given_phase : (p : Phase) (l : List DataUnit) → (sending.reclaiming p l x).0.phase ≡ x.phase
  given_phase fresh l = refl
  given_phase enabled l = refl
  given_phase ends.opened l = refl
  given_phase ends.closing l = refl
  given_phase ends.shut [] = refl
  given_phase ends.shut (u ∷ l) = refl

  own_reclaims : (copy i : ℕ) (u b : List ℕ) → i ≡ h.index
      → Next k (asking reclaims i u b) copy (reclaim_step (own k) (lengths k) (length b)).answer (reclaim_out (own k) (lengths k) (octets k) b)
      (reclaim_step (own k) (lengths k) (length b)).channel (octets k) (lengths k)
  own_reclaims copy i u b at = go (eqb (number_of a) 0) refl
    where
      a : Answer
      a = (reclaim_step (own k) (lengths k) (length b)).answer

      c : Channel
      c = (reclaim_step (own k) (lengths k) (length b)).channel

      o : List ℕ
      o = reclaim_out (own k) (lengths k) (octets k) b

      unit : List ℕ
      unit = octets_in (slot_of (own k)) (own k).limits.payload (octets k) (lengths k) (own k).limits.slots (unit_at (own k)) (own k).window.place

      Given : Limits → Type 0
      Given L =
          Sends c (octets k) (lengths k) (sender_step L x SenderCall.reclaim).0
          × ((sender_step L x SenderCall.reclaim).1.number ≡ 0)
          × ((sender_step L x SenderCall.reclaim).1.unit ≡ unit)
          × (size_at (own k) (lengths k) ≡ length (sender_step L x SenderCall.reclaim).1.unit)

      go : (q : Bool) → eqb (number_of a) 0 ≡ q → Next k (asking reclaims i u b) copy a o c (octets k) (lengths k)
      go false q =
          subst (λ (c : Channel). Next k (asking reclaims i u b) copy a o c (octets k) (lengths k)) (sym (reclaim_unchanged (own k) (lengths k) (octets k) b (eqb-false _ _ q)).0)
          (request_quiet k a_reclaims copy i u b a o (last_not (eqb i h.index) (eqb (number_of a) 0) q))
      go true q =
          let w : Given (limits h s)
          = subst Given (own_limits k)
          (reclaim_sends (own k) (octets k) (lengths k) x (asked k) (own_sends k) k.now.means (length b) (eqb-true (number_of a) 0 q))
          in
          let call = SenderCall.reclaim in
          let said = (sender_step (limits h s) x call).1 in
          let z = (sender_step (limits h s) x call).0 in
          let wrote = reclaim_writes (own k) (octets k) (lengths k) b q in
          let is_unit : take (length_of a) o ≡ said.unit
          = ap₂ (λ (p : ℕ) (r : List ℕ). take p r) (wrote.0 ∙ w.3 ∙ ap length w.2) wrote.1 ∙ laid_first b unit ∙ sym w.2
          in
          let was = history.reclaimed h past in
          host_next h s past y x k.inv k.numbered (small k) (asking reclaims i u b) copy n (index_for k (asking reclaims i u b)) a o call tt tt refl refl
          (chosen (eqb i h.index && eqb (number_of a) 0) _ _ (ap₂ (λ (p r : Bool). p && r) (eq-eqb i h.index at) q)
          ∙ ap (λ (p : List ℕ). was ++ (p ∷ [])) is_unit
          ∙ sym (chosen (eqb said.number 0) (was ++ (said.unit ∷ [])) was (eq-eqb said.number 0 w.1)))
          (λ j packet r. absurd (true≢false (sym r)))
          (own k) c (octets k) (lengths k) w.0
          (counts_same k c (octets k) (lengths k) z w.0 (given_start x.phase (sending.held x)) (was_open k (given_phase x.phase (sending.held x))))
          (λ r. given_phase x.phase (sending.held x) ∙ waits_on k (host_event (asking reclaims i u b) copy n (index_for k (asking reclaims i u b)) a o) r)

  reclaim_here : (c : Channel) (rank : ℕ) (m l o : List ℕ) → c.addresses.direction ≡ sends
      → reclaim_for c rank m l o ≡ works (reclaim_step c l (length o)) m l (reclaim_out c l m o)
  unfolding reclaim_for
  reclaim_here c rank m l o d =
      chosen (eqb c.addresses.direction sends) (works (reclaim_step c l (length o)) m l (reclaim_out c l m o)) (works (refusing c refusal.State) m l o)
      (eq-eqb c.addresses.direction sends d)

  pub host_reclaims : (copy i : ℕ) (u b : List ℕ) → Seen (Next k (asking reclaims i u b) copy) h.index (served t mem lens lines (Reclaim i) u b)
  host_reclaims copy i u b =
      let P = Next k (asking reclaims i u b) copy in
      by_index k P i reclaim_for b (shapes (seeking (Index i)) reclaim_for b (reclaim_keeps (seeking (Index i)) b))
      (request_quiet k a_reclaims copy i u b)
      (λ at rank. subst (Left P) (sym (reclaim_here (own k) rank (octets k) (lengths k) b (own_sends k))) (own_reclaims copy i u b at))
