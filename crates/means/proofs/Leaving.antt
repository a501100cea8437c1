-- Leaving OPEN, and the steps that change no segment: what lies there means what it meant.
-- Assumes nothing.
use mathlib.Core.Path.{◌≡◌, refl, sym, ap, ◌∙◌}
use mathlib.Core.Bool.{Bool, true, false}
use mathlib.Core.List.{List}
use mathlib.Core.Option.{Option}
use Prim.Native.Nat.{ℕ, ◌+◌, ◌-◌, ◌≤◌, ◌<◌}
use native.Mathlib.Omega.{arith}
use borrow.Author.Tests.{ltb-true, ltb-false}
use lib.Dec.{ltb}
use lib.ListN.{get_or}
use Rattle.slots.specs.Ring.{round_of, back_of}
use Rattle.slots.proofs.RingLaws.{back_lt, cleared_out}
use Rattle.channel.specs.declared.record.Window.{Window}
use Rattle.channel.specs.declared.record.Timers.{Timers}
use Rattle.channel.specs.declared.record.Channel.{Channel}
use Rattle.channel.specs.Record.{with_state, with_timers}
use Rattle.channel.specs.Standing.{oldest_of}
use Rattle.receiver.specs.Receiving.{left_marks, leaving, shut_for}
use Rattle.ends.proofs.Rings.{back_back, back_then}
use Rattle.protocol.specs.Units.{Segment}
use Rattle.protocol.specs.Ends.{rank}
use Rattle.protocol.specs.Receiving.{Receiver}
use Rattle.means.specs.Meaning.{lying}
use Rattle.means.proofs.Wholes.{whole_in}
use Rattle.means.proofs.Lying.{lying_same}
use Rattle.means.proofs.Receives.{Within, Whole, After, Receives}

-- a window on its ring, as far as it counts here
pub record Turned (slots : ℕ) (w : Window) : Type 0 where
  pub place : w.place < slots
  pub behind : w.behind ≤ slots
  pub way : w.way ≤ w.behind

-- until OPEN is left the complete units lie there too
pub within_whole : (c : Channel) (mem lens : List ℕ) (base : ℕ) (l : List Segment) (f : ℕ → Option Segment) → Turned c.limits.slots c.window
    → Within c mem lens base l f → Whole c mem lens base l
within_whole c mem lens base l f t w =
    record {
      complete = omega (arith, w.behind, w.way, whole_in l);
      view = λ j h. w.view j (omega (arith, t.behind)) ∙ w.known (base + j) (omega (arith, w.behind));
    }

-- once open they do in every phase
pub receives_whole : (c : Channel) (mem lens : List ℕ) (r : Receiver) → Turned c.limits.slots c.window → Receives c mem lens r
    → 1 ≤ rank r.phase → Whole c mem lens r.oldest r.passed
receives_whole c mem lens r t h opens = by (ltb 2 (rank r.phase)) refl
  where
    by : (b : Bool) → ltb 2 (rank r.phase) ≡ b → Whole c mem lens r.oldest r.passed
    by true e = (h.after (ltb-true 2 (rank r.phase) e)).whole
    by false e = within_whole c mem lens r.oldest r.passed r.filed t (h.within opens (ltb-false 2 (rank r.phase) e))

-- ---- leaving OPEN keeps the complete units

module _ (c : Channel) (mem lens : List ℕ) (base : ℕ) (l : List Segment) (t : Turned c.limits.slots c.window) (w : Whole c mem lens base l) where
  abbrev slots : ℕ
  slots = c.limits.slots

  abbrev first : ℕ
  first = back_of slots c.window.place c.window.way

  abbrev kept : ℕ
  kept = c.window.behind - c.window.way

  same_oldest : back_of slots first kept ≡ oldest_of slots c.window
  same_oldest =
      let sum : c.window.way + kept ≡ c.window.behind = omega (arith, t.way) in
      back_back slots c.window.place c.window.way kept t.place (omega (arith, t.behind))
      ∙ ap (back_of slots c.window.place) sum

  -- the marks of the segments kept stay
  mark_stays : (j : ℕ) → j < kept
      → get_or (left_marks c.limits c.window c.marks) (round_of slots (back_of slots first kept + j)) 0
      ≡ get_or c.marks (round_of slots (back_of slots first kept + j)) 0
  mark_stays j h =
      let on : first < slots = back_lt slots c.window.place c.window.way t.place in
      let there : round_of slots (back_of slots first kept + j) ≡ round_of slots (first + (slots - kept + j))
      = back_then slots first kept j on (omega (arith, t.behind)) h
      in
      ap (λ (k : ℕ). get_or (left_marks c.limits c.window c.marks) k 0) there
      ∙ cleared_out c.marks slots (slots - kept) first (slots - kept + j) on (omega (arith, t.behind)) (omega arith)
      ∙ ap (λ (k : ℕ). get_or c.marks k 0) (sym there)

  pub left : (state ticks : ℕ) → After (leaving c state ticks) mem lens base l
  unfolding leaving
  left state ticks =
      record {
        whole =
            record {
              complete = omega (arith, w.complete, t.way);
              view = λ j h.
                  lying_same c (leaving c state ticks) mem lens mem lens (round_of slots (back_of slots first kept + j)) (mark_stays j (omega arith)) (λ _. refl)
                  ∙ ap (λ (k : ℕ). lying c mem lens (round_of slots (k + j))) same_oldest
                  ∙ w.view j (omega (arith, t.way));
            };
        way = refl;
      }

  pub shut_left : (why : ℕ) → After (shut_for c why) mem lens base l
  unfolding lying
  shut_left why = let a = left 0 0 in record { whole = record { complete = a.whole.complete; view = a.whole.view }; way = a.way }

-- ---- what changes no segment

pub after_state : (c : Channel) (mem lens : List ℕ) (base : ℕ) (l : List Segment) (state : ℕ) (timers : Timers) → After c mem lens base l
    → After (with_state (with_timers c timers) state) mem lens base l
unfolding lying
after_state c mem lens base l state timers a =
    record { whole = record { complete = a.whole.complete; view = a.whole.view }; way = a.way }

pub within_state : (c : Channel) (mem lens : List ℕ) (base : ℕ) (l : List Segment) (f : ℕ → Option Segment) (state : ℕ) → Within c mem lens base l f
    → Within (with_state c state) mem lens base l f
unfolding lying
within_state c mem lens base l f state w =
    record {
      start = w.start;
      behind = w.behind;
      way = w.way;
      view = w.view;
      room = w.room;
      near = w.near;
      known = w.known;
      count = w.count;
    }
