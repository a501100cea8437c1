-- Laws of who waits: a sender by what is ready, a receiver by its Heartbeat; the rank of a grade; and when a call moves its channel in the lines.
-- Assumes nothing.
use mathlib.Core.Path.{◌≡◌, refl, sym, ap, ◌∙◌, subst}
use mathlib.Core.Bool.{Bool, true, false}
use mathlib.Core.List.{List}
use Prim.Native.Nat.{ℕ, zero, suc, ◌+◌, ◌*◌, ◌<◌}
use native.Mathlib.Omega.{arith}
use borrow.Author.Tests.{lt-ltb, le-ltb, ne_eqb, eqb-true, eqb-false}
use lib.Dec.{ltb, eqb}
use Rattle.laws.proofs.Choice.{chosen, passed_by, both, by_test, either_way}
use Rattle.lines.specs.Lines.{before, line_at, of_rank}
use Rattle.lines.proofs.GradeLaws.{found, Waiting}
use Rattle.channel.specs.declared.record.Channel.{Channel}
use Rattle.channel.specs.declared.step.Stepped.{Stepped}
use Rattle.channel.specs.Record.{sends}
use Rattle.sender_packets.specs.HandingOut.{ready_open, ready}
use Rattle.sender_packets.proofs.HandLaws.{ready_beside_lem}
use Rattle.table.specs.declared.looking.Sought.{Sought}
use Rattle.table.specs.Waiting.{waits, grade_at, rank_in, moved_by, may_move, moved}

module _ (c : Channel) where
  -- a packet of the rank is ready, and of a receiver it is the Heartbeat
  pub waits_receives : (rank : ℕ) → (c.addresses.direction ≡ sends → ⊥) → waits rank c ≡ true → (rank ≡ 0) × (ready_open c ≡ true)
  unfolding waits
  waits_receives rank n e =
      let h = both (eqb rank 0) (ready_open c) (sym (passed_by (eqb c.addresses.direction sends) (ready rank c) _ (ne_eqb _ _ n)) ∙ e) in
      (eqb-true rank 0 h.0, h.1)

  pub waits_ready : (rank : ℕ) → waits rank c ≡ true → ready rank c ≡ true
  unfolding waits
  waits_ready rank e =
      either_way (eqb c.addresses.direction sends) (λ s. sym (chosen (eqb c.addresses.direction sends) (ready rank c) _ s) ∙ e)
      (λ s. let h = waits_receives rank (eqb-false _ _ s) e in ap (λ (r : ℕ). ready r c) h.0 ∙ ready_beside_lem c h.1)

  pub of_rank_waits : (rank : ℕ) → rank < 3 → of_rank rank (waits 0 c) (waits 1 c) (waits 2 c) ≡ waits rank c
  of_rank_waits rank h = go rank h
    where
      go : (r : ℕ) → r < 3 → of_rank r (waits 0 c) (waits 1 c) (waits 2 c) ≡ waits r c
      go zero h = refl
      go (suc zero) h = refl
      go (suc (suc zero)) h = refl
      go (suc (suc (suc r))) h = absurd (omega (arith, h))

-- ---- the rank of a grade

pub rank_known : (g : ℕ) → rank_in g < 3
rank_known g = by_test (λ (r : ℕ). r < 3) (ltb g 16) 0 _ (λ e. omega arith) (λ e. by_test (λ (r : ℕ). r < 3) (ltb g 32) 1 2 (λ e. omega arith) (λ e. omega arith))

pub rank_of_grade : (rank place : ℕ) → rank < 3 → place < 16 → rank_in (rank * 16 + place) ≡ rank
rank_of_grade zero place k h = chosen _ 0 _ (lt-ltb (0 * 16 + place) 16 (omega (arith, h)))
rank_of_grade (suc zero) place k h =
    passed_by _ 0 _ (le-ltb (1 * 16 + place) 16 (omega arith)) ∙ chosen _ 1 2 (lt-ltb (1 * 16 + place) 32 (omega (arith, h)))
rank_of_grade (suc (suc zero)) place k h =
    passed_by _ 0 _ (le-ltb (2 * 16 + place) 16 (omega arith)) ∙ passed_by _ 1 2 (le-ltb (2 * 16 + place) 32 (omega arith))
rank_of_grade (suc (suc (suc rank))) place k h = absurd (omega (arith, k))

-- a channel with a grade below 48 stands in the line of its rank, and a packet of that rank is ready in it
pub record Turn (i : ℕ) (c : Channel) (lines : List ℕ) : Type 0 where
  pub waiting : Waiting (rank_in (grade_at i c lines)) i (waits (rank_in (grade_at i c lines)) c) lines (grade_at i c lines)

pub turn_is : (i : ℕ) (c : Channel) (lines : List ℕ) → grade_at i c lines < 48 → Turn i c lines
turn_is i c lines h =
    let f = found i (waits 0 c) (waits 1 c) (waits 2 c) lines h in
    let w = f.waiting in
    let e : rank_in (grade_at i c lines) ≡ f.rank = ap rank_in w.grade ∙ rank_of_grade f.rank (before i (line_at f.rank lines)) f.known w.near in
    record {
      waiting =
          subst (λ (r : ℕ). Waiting r i (waits r c) lines (grade_at i c lines)) (sym e)
          (subst (λ (b : Bool). Waiting f.rank i b lines (grade_at i c lines)) (of_rank_waits c f.rank f.known) w);
    }

-- ---- when a call moves its channel

module _ (sought : Sought) (rank i : ℕ) (s : Stepped) (lines : List ℕ) where
  pub moves : may_move s.answer ≡ true → moved_by sought rank i s.channel lines ≡ moved sought rank i s lines
  unfolding moved
  moves e = sym (chosen (may_move s.answer) (moved_by sought rank i s.channel lines) lines e)

  pub moves_not : may_move s.answer ≡ false → lines ≡ moved sought rank i s lines
  unfolding moved
  moves_not e = sym (passed_by (may_move s.answer) (moved_by sought rank i s.channel lines) lines e)
