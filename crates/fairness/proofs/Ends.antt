-- Who is served is the head of its line, and stands last in it if it has more.
-- Assumes nothing.
use mathlib.Core.Path.{◌≡◌, refl, sym, ap, ◌∙◌, subst}
use mathlib.Core.Bool.{Bool, true, false, ◌&&◌, false≢true}
use mathlib.Core.Logic.{⊎_elim}
use mathlib.Core.List.{List, [], ◌∷◌}
use Prim.Native.Nat.{ℕ, suc, ◌<◌}
use native.Mathlib.Numerals.{add-one}
use native.Mathlib.Omega.{arith}
use borrow.Author.Tests.{eqb-true, ltb-true, lt-ltb}
use lib.Dec.{ltb, eqb}
use lib.ListN.{length, length-append}
use Rattle.laws.proofs.Choice.{both, by_test}
use Rattle.walks.specs.Serving.{Called}
use Rattle.lines.specs.Lines.{stands, without, relisted, before, line_at, of_rank}
use Rattle.lines.proofs.FitLaws as fit
use Rattle.lines.proofs.LineLaws as line
use Rattle.channel.specs.declared.record.Node.{Node}
use Rattle.channel.specs.declared.record.Channel.{Channel}
use Rattle.channel.specs.declared.answer.Answer.{Answer}
use Rattle.channel.specs.declared.answer.Refusal.TheVariants as refusal
use Rattle.channel.specs.declared.step.Stepped.{Stepped}
use Rattle.channel.specs.Answers.{number_of}
use Rattle.channel.specs.Steps.{refusing, doing}
use Rattle.sender_packets.specs.HandingOut.{next_length, next_out, hand_step}
use Rattle.table.specs.declared.looking.Sought.TheVariants.{Ready}
use Rattle.table.specs.Waiting.{waits, served_for, moved}
use Rattle.table.specs.Looking.{seeking, chosen as choice, is_found}
use Rattle.table.specs.Serving.{record_at, own_lens, stored, index_served}
use Rattle.table.proofs.ServeLaws.{passing_is, found_below}
use Rattle.table.proofs.WaitingLaws.{rank_known}
use Rattle.requests.specs.Handing.{next_for}
use Rattle.node.specs.declared.request.Request.TheVariants.{Open, Close, Transfer, WouldTransfer, Take, Reclaim, Arrival, NextPacket, Unknown}
use Rattle.node.specs.Calls.{served}
use Rattle.keeps.proofs.Serving.{worked, serve_missing, serve_found}
use Rattle.fairness.specs.Fairness.{Lent, asks, tick, settings, after, Sound, next_rank, hands_out_of, FromTheHead, ToTheTail}
use Rattle.fairness.proofs.Fair.{next, grade, fits, next_waiting, next_first}

head_first : (l : List ℕ) (j : ℕ) → stands j l ≡ true → ((k : ℕ) → stands k l ≡ true → (j ≡ k → ⊥) → before j l < before k l) → before j l ≡ 0
unfolding stands
head_first [] j e first = absurd (false≢true e)
head_first (k ∷ l) j e first =
    ⊎_elim (λ q. line.before_head k j l q)
    (λ n. absurd (omega (arith, first k (line.stands_head k k l refl) (λ q. n (sym q)), line.before_head k k l refl)))
    (line.same_or_not k j)

-- who leaves and is listed anew stands last, if it stands
stands_last : (c : ℕ) (ready : Bool) (l : List ℕ) → stands c (relisted c ready (without c l)) ≡ true
    → suc (before c (relisted c ready (without c l))) ≡ length (relisted c ready (without c l))
stands_last c ready l y =
    let is = sym (line.stands_iff_ready c ready (without c l)) ∙ y in
    let out = line.gone c l in
    let e = line.relisted_ready c ready (without c l) is ∙ line.joined_tail c (without c l) out in
    subst (λ (t : List ℕ). suc (before c t) ≡ length t) (sym e)
    (ap suc (line.before_tail c (without c l) out) ∙ sym (length-append (without c l) (c ∷ []) ∙ add-one (length (without c l))))

module _ (s : Lent) (sound : Sound s) (c rank : ℕ) (known : rank < 3) where
  -- what is known of such a hand-out
  pub record Handed : Type 0 where
    pub found : grade s sound < 48
    pub is : next s sound ≡ c
    pub ranked : next_rank s ≡ rank

  handed_is : (node : Node) (x out : List ℕ) → hands_out_of c rank (asks (NextPacket node) x out) s ≡ true → Handed
  unfolding index_served
  handed_is node x out e =
      let p = both (eqb (number_of (served s.table s.mem s.lens s.lines (NextPacket node) x out).answer) 0 && eqb (next_rank s) rank) _ e in
      let q = both (eqb (number_of (served s.table s.mem s.lens s.lines (NextPacket node) x out).answer) 0) (eqb (next_rank s) rank) p.0 in
      by_found (is_found (choice (seeking Ready) s.lines s.table)) refl q.0 (eqb-true _ _ q.1) p.1
    where
      by_found : (b : Bool) → is_found (choice (seeking Ready) s.lines s.table) ≡ b
          → eqb (number_of (served s.table s.mem s.lens s.lines (NextPacket node) x out).answer) 0 ≡ true
          → next_rank s ≡ rank
          → eqb (index_served (seeking Ready) s.table s.mem s.lens s.lines) c ≡ true
          → Handed
      by_found false f n r i =
          absurd (false≢true
          (sym (ap (λ (g : Called Answer Channel). eqb (number_of g.answer) 0) (serve_missing (seeking Ready) (next_for node) s.table s.mem s.lens s.lines out sound.tested f)) ∙ n))
      by_found true f n r i =
          let told : index_served (seeking Ready) s.table s.mem s.lens s.lines ≡ next s sound = simp (sound.tested, f) in
          record { found = ltb-true (grade s sound) 48 f; is = sym told ∙ eqb-true _ _ i; ranked = r }

  -- ---- the head

  next_from_head : Handed → (stands c (line_at rank s.lines) ≡ true) × (before c (line_at rank s.lines) ≡ 0)
  next_from_head h =
      subst (λ (k : ℕ). (stands k (line_at rank s.lines) ≡ true) × (before k (line_at rank s.lines) ≡ 0)) h.is
      (subst (λ (q : ℕ). (stands (next s sound) (line_at q s.lines) ≡ true) × (before (next s sound) (line_at q s.lines) ≡ 0)) h.ranked
      (there, head_first (line_at (next_rank s) s.lines) (next s sound) there (next_first s sound h.found)))
    where
      there : stands (next s sound) (line_at (next_rank s) s.lines) ≡ true
      there = (next_waiting s sound h.found).standing

  -- ---- the tail, by what the step has made

  abbrev Last : List ℕ → Type 0
  Last l = stands c (line_at rank l) ≡ true → suc (before c (line_at rank l)) ≡ length (line_at rank l)

  Made : Stepped → Type 0
  Made m = eqb (number_of m.answer) 0 ≡ true → Last (moved Ready (next_rank s) (next s sound) m s.lines)

  module _ (h : Handed) where
    made_done : (k : Channel) (n : ℕ) → Made (doing k n)
    unfolding Made moved
    made_done k n e =
        subst (λ (j : ℕ). Placed j rank) h.is (subst (λ (q : ℕ). Placed (next s sound) q) h.ranked own)
      where
        Placed : ℕ → ℕ → Type 0
        Placed j q =
            stands j (line_at q (served_for (next_rank s) (next s sound) k s.lines)) ≡ true
            → suc (before j (line_at q (served_for (next_rank s) (next s sound) k s.lines))) ≡ length (line_at q (served_for (next_rank s) (next s sound) k s.lines))

        own : Placed (next s sound) (next_rank s)
        own =
            subst (λ (l : List ℕ). stands (next s sound) l ≡ true → suc (before (next s sound) l) ≡ length l)
            (sym (fit.served_here (length s.table) s.lines (fit.fit_facts (length s.table) s.lines (fits s sound)) (next_rank s) (rank_known (grade s sound)) (next s sound) (found_below (seeking Ready) s.lines s.table s.mem s.lens (passing_is s.table s.mem s.lens s.lines sound.tested).lawful h.found) (waits 0 k) (waits 1 k) (waits 2 k)))
            (stands_last (next s sound) (of_rank (next_rank s) (waits 0 k) (waits 1 k) (waits 2 k)) (line_at (next_rank s) s.lines))

    made_step : (lens : List ℕ) (n : ℕ) → Made (hand_step (record_at s.table (next s sound)) lens (next_rank s) n)
    unfolding hand_step Made
    made_step lens n =
        let k = record_at s.table (next s sound) in
        let m = next_length k lens (next_rank s) in
        by_test Made (ltb n m) (refusing k (refusal.Small m)) (doing (next_out k (next_rank s)) m) (λ p e. absurd (false≢true e)) (λ p. made_done (next_out k (next_rank s)) m)

    abbrev Tails : Called Answer Channel → Type 0
    Tails g = eqb (number_of g.answer) 0 ≡ true → Last g.lines

    stored_last : (node : Node) (out : List ℕ)
        → Tails (stored Ready s.table s.mem s.lens s.lines (choice (seeking Ready) s.lines s.table) (worked (seeking Ready) (next_for node) s.table s.mem s.lens s.lines out))
    unfolding stored next_for Made
    stored_last node out = made_step (own_lens s.table (next s sound) s.lens) (length out)

  next_to_tail : (node : Node) (x out : List ℕ) → hands_out_of c rank (asks (NextPacket node) x out) s ≡ true → Last (after (asks (NextPacket node) x out) s).lines
  next_to_tail node x out e =
      let h = handed_is node x out e in
      let p = both (eqb (number_of (served s.table s.mem s.lens s.lines (NextPacket node) x out).answer) 0 && eqb (next_rank s) rank) _ e in
      let q = both (eqb (number_of (served s.table s.mem s.lens s.lines (NextPacket node) x out).answer) 0) (eqb (next_rank s) rank) p.0 in
      subst (Tails h) (sym (serve_found (seeking Ready) (next_for node) s.table s.mem s.lens s.lines out sound.tested (lt-ltb (grade s sound) 48 h.found)))
      (stored_last h node out) q.0

-- ---- every call: none but the call for a packet hands out

pub from_the_head : FromTheHead
from_the_head s sound c rank (asks (Open index) x out) known e = absurd (false≢true e)
from_the_head s sound c rank (asks (Close index) x out) known e = absurd (false≢true e)
from_the_head s sound c rank (asks (Transfer index) x out) known e = absurd (false≢true e)
from_the_head s sound c rank (asks (WouldTransfer index count) x out) known e = absurd (false≢true e)
from_the_head s sound c rank (asks (Take index) x out) known e = absurd (false≢true e)
from_the_head s sound c rank (asks (Reclaim index) x out) known e = absurd (false≢true e)
from_the_head s sound c rank (asks (Arrival node) x out) known e = absurd (false≢true e)
from_the_head s sound c rank (asks (NextPacket node) x out) known e = next_from_head s sound c rank known (handed_is s sound c rank known node x out e)
from_the_head s sound c rank (asks Unknown x out) known e = absurd (false≢true e)
from_the_head s sound c rank tick known e = absurd (false≢true e)
from_the_head s sound c rank (settings l) known e = absurd (false≢true e)

pub to_the_tail : ToTheTail
to_the_tail s sound c rank (asks (Open index) x out) known e = absurd (false≢true e)
to_the_tail s sound c rank (asks (Close index) x out) known e = absurd (false≢true e)
to_the_tail s sound c rank (asks (Transfer index) x out) known e = absurd (false≢true e)
to_the_tail s sound c rank (asks (WouldTransfer index count) x out) known e = absurd (false≢true e)
to_the_tail s sound c rank (asks (Take index) x out) known e = absurd (false≢true e)
to_the_tail s sound c rank (asks (Reclaim index) x out) known e = absurd (false≢true e)
to_the_tail s sound c rank (asks (Arrival node) x out) known e = absurd (false≢true e)
to_the_tail s sound c rank (asks (NextPacket node) x out) known e = next_to_tail s sound c rank known node x out e
to_the_tail s sound c rank (asks Unknown x out) known e = absurd (false≢true e)
to_the_tail s sound c rank tick known e = absurd (false≢true e)
to_the_tail s sound c rank (settings l) known e = absurd (false≢true e)
