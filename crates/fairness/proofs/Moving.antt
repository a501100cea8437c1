-- What a call does to the lines, by what it looked for: they are lines again, its own channel stands where it waits, every other stands where it
-- stood, and nobody is put back but by a hand-out of its own.
-- Assumes nothing.
use mathlib.Core.Path.{◌≡◌, refl, sym, ap, ◌∙◌, subst}
use mathlib.Core.Bool.{Bool, true, false, false≢true}
use mathlib.Core.List.{List}
use Prim.Native.Nat.{ℕ, suc, ◌≤◌, ◌<◌}
use native.Mathlib.Nat.{le_refl}
use Rattle.laws.proofs.Choice.{by_test}
use Rattle.lines.specs.Lines.{stands, before, line_at, of_rank}
use Rattle.lines.specs.Fit.{fit_lines, Fit}
use Rattle.lines.proofs.FitLaws as fit
use Rattle.lines.proofs.FairLaws.{never_raised, hand_out_lowers}
use Rattle.channel.specs.declared.record.Channel.{Channel}
use Rattle.channel.specs.declared.step.Stepped.{Stepped}
use Rattle.table.specs.declared.looking.Sought.{Sought}
use Rattle.table.specs.declared.looking.Sought.TheVariants.{Index, Question, Packet, Ready, Nobody}
use Rattle.table.specs.Waiting.{waits, relisted_for, served_for, moved_by, may_move, moved}
use Rattle.table.proofs.WaitingLaws.{of_rank_waits}

-- it moves its channel
abbrev pub is_moving : Sought → Bool
is_moving (Index i) = true
is_moving (Question i) = false
is_moving (Packet f start x) = true
is_moving Ready = true
is_moving (Nobody why) = false

-- it may be a hand-out
abbrev pub is_handing : Sought → Bool
is_handing (Index i) = false
is_handing (Question i) = false
is_handing (Packet f start x) = false
is_handing Ready = true
is_handing (Nobody why) = false

module _ (n : ℕ) (lines : List ℕ) (e : fit_lines n lines ≡ true) (rank : ℕ) (known : rank < 3) (i : ℕ) (below : i < n) (c : Channel) where
  f : Fit n lines
  f = fit.fit_facts n lines e

  -- ---- they are lines

  by_fit : (z : Sought) → fit_lines n (moved_by z rank i c lines) ≡ true
  by_fit (Index j) = fit.relist_keeps n lines i (waits 0 c) (waits 1 c) (waits 2 c) below e
  by_fit (Question j) = e
  by_fit (Packet g start x) = fit.relist_keeps n lines i (waits 0 c) (waits 1 c) (waits 2 c) below e
  by_fit Ready = fit.serve_keeps n lines rank i (waits 0 c) (waits 1 c) (waits 2 c) known below e
  by_fit (Nobody why) = e

  -- ---- the channel itself

  relisted_self : (q : ℕ) → q < 3 → stands i (line_at q (relisted_for i c lines)) ≡ waits q c
  relisted_self q h = fit.standing_is_ready n lines f i below (waits 0 c) (waits 1 c) (waits 2 c) q h ∙ of_rank_waits c q h

  pub moved_self : (z : Sought) → is_moving z ≡ true → (q : ℕ) → q < 3 → stands i (line_at q (moved_by z rank i c lines)) ≡ waits q c
  moved_self (Index j) m q h = relisted_self q h
  moved_self (Question j) m q h = absurd (false≢true m)
  moved_self (Packet g start x) m q h = relisted_self q h
  moved_self Ready m q h = fit.served_is_ready n lines f rank known i below (waits 0 c) (waits 1 c) (waits 2 c) q h ∙ of_rank_waits c q h
  moved_self (Nobody why) m q h = absurd (false≢true m)

  -- ---- every other

  relisted_other : (j q : ℕ) → q < 3 → (i ≡ j → ⊥) → stands j (line_at q (relisted_for i c lines)) ≡ stands j (line_at q lines)
  relisted_other j q h apart = fit.standing_stays n lines f i below (waits 0 c) (waits 1 c) (waits 2 c) j q h apart

  pub moved_other : (z : Sought) (j q : ℕ) → q < 3 → (i ≡ j → ⊥) → stands j (line_at q (moved_by z rank i c lines)) ≡ stands j (line_at q lines)
  moved_other (Index k) j q h apart = relisted_other j q h apart
  moved_other (Question k) j q h apart = refl
  moved_other (Packet g start x) j q h apart = relisted_other j q h apart
  moved_other Ready j q h apart = fit.served_stays n lines f rank known i below (waits 0 c) (waits 1 c) (waits 2 c) j q h apart
  moved_other (Nobody why) j q h apart = refl

  -- ---- the place of any channel d in the line of a rank

  module _ (d q : ℕ) (in_three : q < 3) (there : stands d (line_at q lines) ≡ true) where
    abbrev l : List ℕ
    l = line_at q lines

    -- who was in the line and still is, is not put back
    abbrev NotBack : List ℕ → Type 0
    NotBack l2 = stands d l2 ≡ true → before d l2 ≤ before d (line_at q lines)

    relisted_place : NotBack (line_at q (relisted_for i c lines))
    relisted_place =
        subst NotBack (sym (fit.relisted_line n lines f i below (waits 0 c) (waits 1 c) (waits 2 c) q in_three))
        (never_raised d i (of_rank q (waits 0 c) (waits 1 c) (waits 2 c)) l there)

    pub moved_place : (z : Sought) → is_handing z ≡ false → NotBack (line_at q (moved_by z rank i c lines))
    moved_place (Index j) m = relisted_place
    moved_place (Question j) m = λ s. le_refl (before d l)
    moved_place (Packet g start x) m = relisted_place
    moved_place Ready m = absurd (false≢true (sym m))
    moved_place (Nobody why) m = λ s. le_refl (before d l)

    -- a hand-out of another rank
    pub served_place : (q ≡ rank → ⊥) → NotBack (line_at q (served_for rank i c lines))
    served_place other =
        subst NotBack (sym (fit.served_elsewhere n lines f rank known i below (waits 0 c) (waits 1 c) (waits 2 c) q in_three other))
        (never_raised d i (of_rank q (waits 0 c) (waits 1 c) (waits 2 c)) l there)

  -- a hand-out of the rank, of one that stands before d
  pub served_lowers : (d : ℕ) → stands d (line_at rank lines) ≡ true → before i (line_at rank lines) < before d (line_at rank lines)
      → before d (line_at rank lines) ≡ suc (before d (line_at rank (served_for rank i c lines)))
  served_lowers d there ahead =
      hand_out_lowers d i (of_rank rank (waits 0 c) (waits 1 c) (waits 2 c)) (line_at rank lines) (fit.line_of n lines f rank known).once there ahead
      ∙ ap (λ (t : List ℕ). suc (before d t)) (sym (fit.served_here n lines f rank known i below (waits 0 c) (waits 1 c) (waits 2 c)))

-- by the answer
pub moved_fit : (n : ℕ) (lines : List ℕ) → fit_lines n lines ≡ true → (rank : ℕ) → rank < 3 → (i : ℕ) → i < n → (sought : Sought) (s : Stepped)
    → fit_lines n (moved sought rank i s lines) ≡ true
unfolding moved
moved_fit n lines e rank known i below sought s =
    by_test (λ (t : List ℕ). fit_lines n t ≡ true) (may_move s.answer) (moved_by sought rank i s.channel lines) lines
    (λ m. by_fit n lines e rank known i below s.channel sought) (λ m. e)
