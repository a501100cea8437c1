-- Data at a receiving record is an arrival at the protocol's receiver: the same answer, and what it leaves means what is left there.
-- Assumes nothing.
use mathlib.Core.Path.{◌≡◌, refl, sym, ap, ◌∙◌, subst, subst₃}
use mathlib.Core.Bool.{Bool, true, false, not}
use mathlib.Core.List.{List}
use mathlib.Core.Option.{Option, none, some}
use Prim.Native.Nat.{ℕ, ◌+◌, ◌-◌, ◌*◌, ◌%◌, ◌≤◌, ◌<◌}
use native.Mathlib.Omega.{arith}
use borrow.Author.Tests.{lt-ltb, le-ltb, ltb-true, ltb-false, leb-true, leb-false, eq-eqb, ne_eqb}
use lib.Dec.{ltb, leb}
use lib.ListN.{length, set}
use Rattle.slots.specs.Slots.{laid}
use Rattle.channel.specs.Places.{slot_of}
use Rattle.channel.specs.declared.record.Channel.{Channel}
use Rattle.channel.specs.declared.step.Stepped.{Stepped}
use Rattle.channel.specs.Record as record_of
use Rattle.channel.specs.Record.{receives, data_number, broken_flags, with_window}
use Rattle.channel.specs.Answers.{number_of}
use Rattle.channel.specs.Asked.{Asked}
use Rattle.channel.proofs.StandingLaws.{ringed}
use Rattle.receiver.specs.Receiving.{ack_length, leaving}
use Rattle.receiver_data.specs.declared.sorting.Sort.{Sort}
use Rattle.receiver_data.specs.declared.sorting.Sort.TheVariants.{New, Held, Behind, Other}
use Rattle.receiver_data.specs.Sorting.{place_at}
use Rattle.receiver_data.proofs.SortLaws.{held_no_room, held_room, sort_held, sort_new, sort_behind, sort_other}
use Rattle.receiver_data.specs.declared.moving.Moved.{Moved}
use Rattle.receiver_data.specs.Moving.{moved_of}
use Rattle.receiver_data.proofs.MoveLaws.{move_ringed}
use Rattle.receiver_data.specs.Data.{marking, accept_step, data_by, away_of, sort_of, data_step, mem_by, lens_by, data_mem, data_lens}
use Rattle.receiver_data.proofs.DataLaws.{accept_breaks, accept_done, new_full, full_mem, full_lens, new_accepted, new_mem, new_lens, data_state, state_mem, state_lens, data_by_lem, mem_by_lem, lens_by_lem}
use Rattle.protocol.specs.Numbers.{number_at, distance}
use Rattle.protocol.specs.Units.{Segment}
use Rattle.protocol.specs.Ends as protocol
use Rattle.protocol.specs.Ends.{Phase, fresh, enabled, opened, closing, shut, rank, is_open, Answer, say, put}
use Rattle.protocol.specs.Receiving as receiver
use Rattle.protocol.specs.Receiving.{Receiver, ReceiverCall, start_of, moved, receiver_step}
use Rattle.protocol.proofs.Small.{yes_no}
use Rattle.means.specs.Meaning.{state_of, limits_of, carried, lying}
use Rattle.means.proofs.ReceiverPlaces.{none_unmarked, some_marked, place_past}
use Rattle.means.proofs.Receives.{Within, Receives}
use Rattle.means.proofs.Leaving.{Turned, within_whole, shut_left}
use Rattle.means.proofs.ReceiverControl.{turned, in_phase}
use Rattle.means.proofs.Filing.{filed_within}
use Rattle.means.proofs.Moving.{Ended, moved_within}

-- OPEN is one phase alone
open_is : (p : Phase) → is_open p ≡ true → (rank p ≡ 2) × (state_of p ≡ record_of.opened)
open_is fresh e = absurd (yes_no e refl)
open_is enabled e = absurd (yes_no e refl)
open_is opened e = (refl, refl)
open_is closing e = absurd (yes_no e refl)
open_is shut e = absurd (yes_no e refl)

not_open : (p : Phase) → is_open p ≡ false → state_of p ≡ record_of.opened → ⊥
not_open fresh e z = omega arith
not_open enabled e z = omega arith
not_open opened e z = yes_no refl e
not_open closing e z = omega arith
not_open shut e z = omega arith

-- a step beside the protocol's: related, and with the same answer
abbrev Result : Stepped → List ℕ → List ℕ → Receiver × Answer → Type 0
Result s mem lens a = (Receives s.channel mem lens a.0) × (number_of s.answer ≡ a.1.number)

module _ (c : Channel) (mem lens : List ℕ) (r : Receiver) (asked : Asked c mem lens) (receiving : c.addresses.direction ≡ receives) (t : Receives c mem lens r) where
  abbrev L : protocol.Limits
  L = limits_of c.limits

  ring : Turned c.limits.slots c.window
  ring = turned c mem lens asked receiving

  -- ---- in OPEN

  module _ (number flags : ℕ) (p : List ℕ) (short : length p ≤ c.limits.payload) (open_now : is_open r.phase ≡ true) where
    phase_is : rank r.phase ≡ 2
    phase_is = (open_is r.phase open_now).0

    state_is : c.phase.state ≡ record_of.opened
    state_is = t.state ∙ (open_is r.phase open_now).1

    within : Within c mem lens r.oldest r.passed r.filed
    within = t.within (omega (arith, phase_is)) (omega (arith, phase_is))

    abbrev d : ℕ
    d = away_of c number

    abbrev place : ℕ
    place = place_at c.limits c.window d

    abbrev g : Segment
    g = carried flags p

    -- d in the protocol
    away_is : d ≡ distance number (number_at (start_of r))
    unfolding distance
    away_is = ap (λ (n : ℕ). (number + 256 - n) % 256) within.start

    -- what it comes to, by its sort
    sorted_by : (s : Sort) → sort_of c number ≡ s → (a : Receiver × Answer)
        → Result (data_by s c d flags) (mem_by s c d p mem) (lens_by s c d p lens) a
        → Result (data_step c number flags) (data_mem c number p mem) (data_lens c number p lens) a
    sorted_by s e a h =
        subst₃ (λ (x : Stepped) (m l : List ℕ). Result x m l a)
        (sym (data_by_lem c number s state_is e flags)) (sym (mem_by_lem c number s state_is e p mem)) (sym (lens_by_lem c number s state_is e p lens)) h

    -- ---- new, with room: filed, and the start moved

    module _ (ahead : d < c.limits.window) (room : c.window.behind + d < c.limits.slots) where
      abbrev k : Channel
      k = marking c place flags

      abbrev mem₁ : List ℕ
      mem₁ = laid mem (slot_of c place * c.limits.payload) p

      abbrev lens₁ : List ℕ
      lens₁ = set lens (slot_of c place) (length p)

      abbrev f : ℕ → Option Segment
      f = put r.filed (start_of r + d) (some g)

      abbrev m : Moved
      m = moved_of c.limits k.marks c.window

      abbrev x : List Segment × Bool
      x = moved L c.limits.window f r.passed

      filed : Within k mem₁ lens₁ r.oldest r.passed f
      filed = filed_within c mem lens asked ring r.oldest r.passed r.filed within d flags p ahead room short

      ended : Ended k mem₁ lens₁ r.oldest f m x
      ended =
          moved_within k mem₁ lens₁ r.oldest f (c.limits.slots - c.window.behind) c.limits.window c.window r.passed
          ring.place (omega (arith, ring.behind)) filed filed.near

      moved_ring : Turned c.limits.slots m.window
      moved_ring =
          let q = move_ringed c.limits k.marks c.window (ringed c lens asked.standing) in
          record { place = q.place; behind = q.behind; way = q.way }

      settles : (b : Bool) → x.1 ≡ b → Result (accept_step c place flags) mem₁ lens₁ (receiver.moved_answer b r f x.0)
      unfolding leaving
      settles true e =
          subst (λ (s : Stepped). Result s mem₁ lens₁ (receiver.moved_answer true r f x.0))
          (sym (accept_done c place flags k m refl refl (ack_length c) (ended.same ∙ ap not e) refl)) (
            record {
              state = t.state;
              before = λ z. absurd (omega (arith, phase_is));
              within = λ y z. ended.at;
              after = λ z. absurd (omega (arith, phase_is));
            },
            refl,
          )
      settles false e =
          subst (λ (s : Stepped). Result s mem₁ lens₁ (receiver.moved_answer false r f x.0))
          (sym (accept_breaks c place flags k m refl refl (ended.same ∙ ap not e))) (
            record {
              state = refl;
              before = λ z. absurd (omega arith);
              within = λ y z. absurd (omega arith);
              after = λ z.
                  shut_left (with_window k m.window) mem₁ lens₁ r.oldest x.0 moved_ring
                  (within_whole (with_window k m.window) mem₁ lens₁ r.oldest x.0 f moved_ring ended.at)
                  broken_flags;
            },
            refl,
          )

      accepts : Result (accept_step c place flags) mem₁ lens₁ (receiver.placed L true r (start_of r + d) g)
      accepts = settles x.1 refl

      -- what lies at its place
      here : lying c mem lens place ≡ r.filed (start_of r + d)
      here =
          let sum : r.oldest + (c.window.behind + d) ≡ start_of r + d = omega (arith, within.behind) in
          ap (lying c mem lens) (place_past c.limits.slots c.window d ring.place ring.behind room)
          ∙ within.view (c.window.behind + d) room
          ∙ ap r.filed sum

      -- held already, or new
      with_room : (o : Option Segment) → r.filed (start_of r + d) ≡ o
          → Result (data_step c number flags) (data_mem c number p mem) (data_lens c number p lens) (receiver.in_window L o r (start_of r + d) g)
      with_room (some y) e =
          let held = held_room c.limits c.window c.marks d room ∙ ap not (ne_eqb _ _ (some_marked c mem lens place y (here ∙ e))) in
          sorted_by Held (sort_held c.limits c.window c.marks d ahead held) (r, say 15) (t, refl)
      with_room none e =
          let held = held_room c.limits c.window c.marks d room ∙ ap not (eq-eqb _ _ (none_unmarked c mem lens place (here ∙ e))) in
          let inside : start_of r + d < r.oldest + c.limits.slots = omega (arith, within.behind) in
          subst (λ (b : Bool). Result (data_step c number flags) (data_mem c number p mem) (data_lens c number p lens) (receiver.placed L b r (start_of r + d) g))
          (sym (lt-ltb (start_of r + d) (r.oldest + c.limits.slots) inside))
          (sorted_by New (sort_new c.limits c.window c.marks d ahead held) (receiver.placed L true r (start_of r + d) g)
          (subst₃ (λ (s : Stepped) (y z : List ℕ). Result s y z (receiver.placed L true r (start_of r + d) g))
          (sym (new_accepted c d flags room)) (sym (new_mem c d p mem room)) (sym (new_lens c d p lens room)) accepts))

    -- ---- no room: nothing can be accepted so far on

    full : d < c.limits.window → c.limits.slots ≤ c.window.behind + d → (o : Option Segment) → r.filed (start_of r + d) ≡ o
        → Result (data_step c number flags) (data_mem c number p mem) (data_lens c number p lens) (receiver.in_window L o r (start_of r + d) g)
    full ahead over (some y) e = absurd (let z : start_of r + d < r.oldest + c.limits.slots = within.room (start_of r + d) y e in omega (arith, within.behind))
    full ahead over none e =
        let past : r.oldest + c.limits.slots ≤ start_of r + d = omega (arith, within.behind) in
        subst (λ (b : Bool). Result (data_step c number flags) (data_mem c number p mem) (data_lens c number p lens) (receiver.placed L b r (start_of r + d) g))
        (sym (le-ltb (start_of r + d) (r.oldest + c.limits.slots) past))
        (sorted_by New (sort_new c.limits c.window c.marks d ahead (held_no_room c.limits c.window c.marks d over)) (r, say 8)
        (subst₃ (λ (s : Stepped) (y z : List ℕ). Result s y z (r, say 8))
        (sym (new_full c d flags over)) (sym (full_mem c d p mem over)) (sym (full_lens c d p lens over)) (t, refl)))

    -- ---- behind the start, or nowhere near

    outside : c.limits.window ≤ d → (b : Bool) → leb (256 - c.limits.window) d ≡ b
        → Result (data_step c number flags) (data_mem c number p mem) (data_lens c number p lens) (receiver.outside b r)
    unfolding leaving
    outside past true e = sorted_by Behind (sort_behind c.limits c.window c.marks d past (leb-true _ _ e)) (r, say 15) (t, refl)
    outside past false e =
        sorted_by Other (sort_other c.limits c.window c.marks d past (leb-false _ _ e)) (in_phase r shut, say 9) (
          record {
            state = refl;
            before = λ z. absurd (omega arith);
            within = λ y z. absurd (omega arith);
            after = λ z.
                shut_left c mem lens r.oldest r.passed ring (within_whole c mem lens r.oldest r.passed r.filed ring within) data_number;
          },
          refl,
        )

    in_window_lem : d < c.limits.window → (b : Bool) → leb c.limits.slots (c.window.behind + d) ≡ b
        → Result (data_step c number flags) (data_mem c number p mem) (data_lens c number p lens) (receiver.sorted L true r d g)
    in_window_lem ahead true e = full ahead (leb-true _ _ e) (r.filed (start_of r + d)) refl
    in_window_lem ahead false e = with_room ahead (leb-false _ _ e) (r.filed (start_of r + d)) refl

    sorts : (b : Bool) → ltb d c.limits.window ≡ b
        → Result (data_step c number flags) (data_mem c number p mem) (data_lens c number p lens) (receiver.sorted L b r d g)
    sorts true e = in_window_lem (ltb-true _ _ e) (leb c.limits.slots (c.window.behind + d)) refl
    sorts false e = outside (ltb-false _ _ e) (leb (256 - c.limits.window) d) refl

    in_open : Result (data_step c number flags) (data_mem c number p mem) (data_lens c number p lens) (receiver.arrived L true r (distance number (number_at (start_of r))) g)
    in_open =
        subst (λ (n : ℕ). Result (data_step c number flags) (data_mem c number p mem) (data_lens c number p lens) (receiver.arrived L true r n g)) away_is
        (sorts (ltb d c.limits.window) refl)

  -- ---- in any phase

  module _ (number flags i : ℕ) (p : List ℕ) (few : flags < 4) (short : length p ≤ c.limits.payload) where
    by_phase : (b : Bool) → is_open r.phase ≡ b
        → Result (data_step c number flags) (data_mem c number p mem) (data_lens c number p lens)
        (receiver.arrived L b r (distance number (number_at (start_of r))) (carried flags p))
    by_phase true e = in_open number flags p short e
    by_phase false e =
        let other : c.phase.state ≡ record_of.opened → ⊥ = λ z. not_open r.phase e (sym t.state ∙ z) in
        subst₃ (λ (s : Stepped) (m l : List ℕ). Result s m l (r, say 5))
        (sym (data_state c number other flags)) (sym (state_mem c number other p mem)) (sym (state_lens c number other p lens)) (t, refl)

    pub data_receives :
        (Receives (data_step c number flags).channel (data_mem c number p mem) (data_lens c number p lens)
        (receiver_step (limits_of c.limits) r (ReceiverCall.arrival i number (carried flags p))).0)
        × (number_of (data_step c number flags).answer ≡ (receiver_step (limits_of c.limits) r (ReceiverCall.arrival i number (carried flags p))).1.number)
    data_receives = by_phase (is_open r.phase) refl
