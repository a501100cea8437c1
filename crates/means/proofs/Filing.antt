-- A segment filed d past the start, where none lay: in the protocol one more is accepted, and the start has not moved yet.
-- Assumes nothing.
use mathlib.Core.Path.{◌≡◌, sym, ap, ◌∙◌}
use mathlib.Core.Logic.{⊎_elim}
use mathlib.Core.List.{List}
use mathlib.Core.Option.{Option, some}
use Prim.Native.Nat.{ℕ, ◌+◌, ◌*◌, ◌≤◌, ◌<◌}
use native.Mathlib.Omega.{arith}
use lib.ListN.{length, set, length-set}
use Rattle.slots.specs.Ring.{round_of}
use Rattle.slots.proofs.RingLaws.{back_lt, round_lt, round_apart}
use Rattle.slots.specs.Marks.{mark_of}
use Rattle.slots.specs.Slots.{laid}
use Rattle.channel.specs.Places.{slot_of}
use Rattle.channel.specs.declared.record.Channel.{Channel}
use Rattle.channel.specs.Standing.{oldest_of}
use Rattle.channel.specs.Asked.{Asked}
use Rattle.receiver_data.specs.Sorting.{place_at}
use Rattle.receiver_data.specs.Data.{marking}
use Rattle.protocol.specs.Units.{Segment}
use Rattle.protocol.specs.Ends.{put}
use Rattle.protocol.proofs.Small.{put_cases}
use Rattle.means.specs.Meaning.{carried, lying}
use Rattle.means.proofs.ReceiverPlaces.{filed_here, filed_elsewhere, place_past}
use Rattle.means.proofs.Receives.{Within}
use Rattle.means.proofs.Leaving.{Turned}

module _ (c : Channel) (mem lens : List ℕ) (asked : Asked c mem lens) (t : Turned c.limits.slots c.window)
    (base : ℕ) (l : List Segment) (f : ℕ → Option Segment) (w : Within c mem lens base l f)
    (d flags : ℕ) (p : List ℕ) (ahead : d < c.limits.window) (room : c.window.behind + d < c.limits.slots) (short : length p ≤ c.limits.payload) where
  abbrev slots : ℕ
  slots = c.limits.slots

  abbrev from : ℕ
  from = oldest_of slots c.window

  abbrev place : ℕ
  place = place_at c.limits c.window d

  low : from < slots
  low = back_lt slots c.window.place c.window.behind t.place

  there : place ≡ round_of slots (from + (c.window.behind + d))
  there = place_past slots c.window d t.place t.behind room

  inside : place < slots
  inside = round_lt slots (c.window.place + d) (omega (arith, t.place))

  abbrev new : ℕ → Option Segment
  new = put f (length l + d) (some (carried flags p))

  -- what lies j past the oldest
  new_view : (j : ℕ) → j < slots
      → lying (marking c place flags) (laid mem (slot_of c place * c.limits.payload) p) (set lens (slot_of c place) (length p)) (round_of slots (from + j)) ≡ new (base + j)
  new_view j h =
      ⊎_elim
      (λ q.
      let same : c.window.behind + d ≡ j = omega (arith, q.0, w.behind) in
      let here : round_of slots (from + j) ≡ place = ap (λ (k : ℕ). round_of slots (from + k)) (sym same) ∙ sym there in
      ap (lying (marking c place flags) (laid mem (slot_of c place * c.limits.payload) p) (set lens (slot_of c place) (length p))) here
      ∙ filed_here c mem lens asked place flags p inside short w.count
      ∙ sym q.1)
      (λ q.
      filed_elsewhere c mem lens asked place flags p inside short (round_of slots (from + j)) (round_lt slots (from + j) (omega (arith, low)))
      (λ e.
      let same : j ≡ c.window.behind + d = round_apart slots from j (c.window.behind + d) low h room (e ∙ there) in
      q.0 (omega (arith, w.behind)))
      ∙ w.view j h
      ∙ sym q.1)
      (put_cases f (length l + d) (some (carried flags p)) (base + j))

  pub filed_within : Within (marking c place flags) (laid mem (slot_of c place * c.limits.payload) p) (set lens (slot_of c place) (length p)) base l new
  filed_within =
      record {
        start = w.start;
        behind = w.behind;
        way = w.way;
        view = new_view;
        room = λ i g e.
            ⊎_elim (λ q. omega (arith, q.0, w.behind)) (λ q. w.room i g (sym q.1 ∙ e)) (put_cases f (length l + d) (some (carried flags p)) i);
        near = λ i g e. ⊎_elim (λ q. omega (arith, q.0)) (λ q. w.near i g (sym q.1 ∙ e)) (put_cases f (length l + d) (some (carried flags p)) i);
        known = λ i h.
            ⊎_elim (λ q. absurd (omega (arith, q.0))) (λ q. q.1 ∙ w.known i h) (put_cases f (length l + d) (some (carried flags p)) i);
        count = length-set c.marks place (mark_of flags) ∙ w.count;
      }
