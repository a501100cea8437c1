-- Laws of the move: one for each way that a turn ends, and for the turn.
-- Assumes nothing.
use Rattle.std.proofs.Common.{◌≡◌, ℕ, zero, suc, ◌+◌, ◌-◌, ◌<◌, ◌≤◌, Bool, true, false, eqb, List, get_or, sym, refl, ap, subst, arith, eq-eqb, ne_eqb, eqb-true}
use borrow.Author.Tests.{eqb-false}
use Rattle.std.specs.Prelude.{if◌then◌else◌}
use Rattle.slots.specs.Ring.{round_of, run_of}
use Rattle.slots.proofs.RingLaws.{round_lt, run_stop, run_step, run_le}
use Rattle.slots.specs.Marks.{ends}
use Rattle.channel.specs.declared.record.Limits.{Limits}
use Rattle.channel.specs.declared.record.Window.{Window}
use Rattle.receiver_data.specs.declared.moving.Moved.{Moved}
use Rattle.channel.specs.Asked.{Ringed}
use Rattle.receiver_data.specs.Moving.{fitting, way_after, passed, moved_by, moved_of}

module _ (slots most : ℕ) (marks : List ℕ) where
  -- the next number is not held
  pub move_stop : (w : Window) (n : ℕ) → get_or marks w.place 0 ≡ 0 → moved_by slots most marks n w ≡ record { window = w; broken = false }
  unfolding moved_by
  move_stop w zero h = refl
  move_stop w (suc n) h = simp (eq-eqb _ _ h)

  -- its flags do not fit
  pub move_break : (w : Window) (n : ℕ) → (get_or marks w.place 0 ≡ 0 → ⊥)
      → fitting most w.way (get_or marks w.place 0) ≡ false
      → moved_by slots most marks (suc n) w ≡ record { window = w; broken = true }
  unfolding moved_by
  move_break w n h e = simp (ne_eqb _ _ h, e)

  -- it is passed
  pub move_step : (w : Window) (n : ℕ) → (get_or marks w.place 0 ≡ 0 → ⊥)
      → fitting most w.way (get_or marks w.place 0) ≡ true
      → moved_by slots most marks (suc n) w ≡ moved_by slots most marks n (passed slots w (get_or marks w.place 0))
  unfolding moved_by
  move_step w n h e = simp (ne_eqb _ _ h, e)

  -- where the run of marks goes on, the next number is held, and there is room for it; the run behind it is one less
  pub run_here : (n p k : ℕ) → run_of marks slots n p ≡ suc k → get_or marks p 0 ≡ 0 → ⊥
  run_here n p k e h = omega (arith, run_stop marks slots n p h)

  pub run_room : (b p k : ℕ) → run_of marks slots (slots - b) p ≡ suc k → b < slots
  run_room b p k e = omega (arith, run_le marks slots (slots - b) p)

  pub run_next : (b p k : ℕ) → run_of marks slots (slots - b) p ≡ suc k → run_of marks slots (slots - (b + 1)) (round_of slots (p + 1)) ≡ k
  run_next b p k e =
      let less = run_room b p k e in
      let one : slots - b ≡ suc (slots - (b + 1)) = omega arith in
      let step = run_step marks slots (slots - (b + 1)) p (run_here (slots - b) p k e) in
      omega (arith, step, ap (λ (n : ℕ). run_of marks slots n p) one)

  -- where it ends, so does the move
  pub run_over : (n : ℕ) (w : Window) → run_of marks slots n w.place ≡ 0 → moved_by slots most marks n w ≡ record { window = w; broken = false }
  unfolding moved_by
  run_over zero w e = refl
  run_over (suc n) w e = by (eqb (get_or marks w.place 0) 0) refl
    where
      by : (t : Bool) → eqb (get_or marks w.place 0) 0 ≡ t → moved_by slots most marks (suc n) w ≡ record { window = w; broken = false }
      by true z = move_stop w (suc n) (eqb-true _ _ z)
      by false z = absurd (held z)
        where
          held : eqb (get_or marks w.place 0) 0 ≡ false → ⊥
          held y = omega (arith, run_step marks slots n w.place (eqb-false _ _ y))

  -- what each segment passed keeps, a turn keeps, if the turns after it do
  turn_keeps : (P : Window → Type 0) (n : ℕ) (w : Window)
      → ((get_or marks w.place 0 ≡ 0 → ⊥) → fitting most w.way (get_or marks w.place 0) ≡ true
      → P (moved_by slots most marks n (passed slots w (get_or marks w.place 0))).window)
      → P w
      → P (moved_by slots most marks (suc n) w).window
  turn_keeps P n w rest p = at (eqb (get_or marks w.place 0) 0) refl (fitting most w.way (get_or marks w.place 0)) refl
    where
      at : (t : Bool) → eqb (get_or marks w.place 0) 0 ≡ t → (u : Bool) → fitting most w.way (get_or marks w.place 0) ≡ u
          → P (moved_by slots most marks (suc n) w).window
      at true e u f = subst (λ (x : Moved). P x.window) (sym (move_stop w (suc n) (eqb-true _ _ e))) p
      at false e true f = subst (λ (x : Moved). P x.window) (sym (move_step w n (eqb-false _ _ e) f)) (rest (eqb-false _ _ e) f)
      at false e false f = subst (λ (x : Moved). P x.window) (sym (move_break w n (eqb-false _ _ e) f)) p

  -- and so does the whole move
  pub move_keeps : (P : Window → Type 0)
      → ((w : Window) → w.behind < slots → (get_or marks w.place 0 ≡ 0 → ⊥) → fitting most w.way (get_or marks w.place 0) ≡ true
      → P w → P (passed slots w (get_or marks w.place 0)))
      → (n : ℕ) (w : Window) → n + w.behind ≤ slots → P w → P (moved_by slots most marks n w).window
  unfolding moved_by
  move_keeps P step zero w h p = p
  move_keeps P step (suc n) w h p =
      turn_keeps P n w
      (λ m f. move_keeps P step n (passed slots w (get_or marks w.place 0)) (omega arith) (step w (omega arith) m f p))
      p

-- what the unit on the way has is at most one more
pub way_le : (way mark : ℕ) → way_after way mark ≤ way + 1
way_le way mark = by (ends mark)
  where
    by : (t : Bool) → (if t then 0 else way + 1) ≤ way + 1
    by true = omega arith
    by false = omega arith

pub pass_ringed : (l : Limits) (w : Window) (mark : ℕ) → w.behind < l.slots → Ringed l w → Ringed l (passed l.slots w mark)
pass_ringed l w mark h r =
    record {
      window = r.window;
      most = r.most;
      octet = r.octet;
      payload = r.payload;
      segments = r.segments;
      place = round_lt l.slots (w.place + 1) (omega arith);
      behind = omega arith;
      ahead = r.ahead;
      flight = r.flight;
      way = omega (arith, way_le w.way mark);
    }

pub move_ringed : (l : Limits) (marks : List ℕ) (w : Window) → Ringed l w → Ringed l (moved_of l marks w).window
move_ringed l marks w r =
    move_keeps l.slots l.segments marks (Ringed l) (λ v h m f q. pass_ringed l v (get_or marks v.place 0) h q) (l.slots - w.behind) w (omega arith) r
