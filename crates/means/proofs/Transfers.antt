-- A transfer: the unit's segments come to the end of the line, none of them acknowledged, and the answers are the protocol's.
-- Assumes nothing.
use mathlib.Core.Path.{◌≡◌, refl, sym, ap, ap₂, ◌∙◌, subst, subst₂}
use mathlib.Core.Bool.{Bool, true, false, not}
use mathlib.Core.List.{List, ◌++◌}
use mathlib.Core.Logic.{⊎_elim}
use mathlib.Core.Option.{some}
use Prim.Native.Nat.{ℕ, ◌+◌, ◌-◌, ◌≤◌, ◌<◌}
use native.Mathlib.Nat.{zero-add}
use native.Mathlib.Omega.{arith}
use borrow.Author.Tests.{leb-true, leb-false}
use lib.Dec.{leb, eqb}
use lib.ListN.{length, get_or, length-append, get_or-append}
use lib.Seq.{get_or-append-add}
use Rattle.laws.proofs.Numbers.{lt_cases}
use Rattle.slots.specs.Ring.{round_of, cleared}
use Rattle.slots.proofs.RingLaws.{round_lt, round_add, round_apart, back_lt, cleared_in, cleared_out, cleared_length}
use Rattle.slots.specs.Marks.{mark_of}
use Rattle.slots.specs.Slots.{segment_in}
use Rattle.channel.specs.Places.{slot_of}
use Rattle.slots.specs.Units.{segments_of, segment_cut, flags_of}
use Rattle.channel.proofs.PlaceLaws.{slotted}
use Rattle.store.specs.Store.{filed_mem, filed_lens, filed_marks}
use Rattle.store.proofs.Laws.{filed_marks_in, filed_marks_out, filed_marks_length, filed_octets_in, filed_octets_out}
use Rattle.channel.specs.declared.record.Channel.{Channel}
use Rattle.channel.specs.declared.answer.Answer.TheVariants.{Done, Refused}
use Rattle.channel.specs.declared.answer.Refusal.{Refusal}
use Rattle.channel.specs.declared.answer.Refusal.TheVariants as refusal
use Rattle.channel.specs.declared.step.Stepped.{Stepped}
use Rattle.channel.specs.Answers.{number_of, refusal_number}
use Rattle.channel.specs.Record.{sends, held_in}
use Rattle.channel.specs.Record as record_of
use Rattle.channel.specs.Standing.{oldest_of}
use Rattle.channel.specs.Steps.{answered}
use Rattle.channel.specs.Asked.{Asked}
use Rattle.channel.proofs.SettingsLaws.{fit_is}
use Rattle.channel.proofs.StandingLaws.{counted_is}
use Rattle.sender.specs.Directives.{place_at}
use Rattle.sender.proofs.AskedLaws.{from_oldest, slot_bounds}
use Rattle.sender_units.specs.Transfer.{would_transfer, filed_unit, free_at, transfer_step, transfer_mem, transfer_lens}
use Rattle.sender_units.proofs.UnitLaws.{would_long, would_room, would_done, accepted_by_lem, would_state, transfer_no, transfer_no_mem, transfer_no_lens, transfer_done, transfer_done_mem, transfer_done_lens}
use Rattle.ends.proofs.SenderKeeps.{toward, toward_is}
use Rattle.protocol.specs.Units.{DataUnit, Segment, blank, cut}
use Rattle.protocol.specs.Ends.{rank, is_open, Answer, say}
use Rattle.protocol.specs.Sending.{Sender, transferred, transfer, sender_step}
use Rattle.protocol.proofs.Small.{not_true, yes_no}
use Rattle.means.specs.Held.{octets_at}
use Rattle.means.specs.Meaning.{limits_of, segment_by, lying}
use Rattle.means.proofs.Sends.{held_at, Holds, Windowed, Sends, not_fresh, state_opened, open_state}
use Rattle.means.proofs.Lying.{lying_some, lying_same}
use Rattle.means.proofs.Cuts.{cut_length, cut_at, cut_ends, by_mark}

-- ---- the unit filed

module _ (c : Channel) (mem lens : List ℕ) (a : Asked c mem lens) (line : List Segment) (oldest : ℕ) (x : Holds c mem lens line oldest) (u : DataUnit)
    (room : held_in c.window + segments_of c.limits.payload (length u) ≤ c.limits.slots) where
  abbrev slots : ℕ
  slots = c.limits.slots

  abbrev most : ℕ
  most = c.limits.payload

  abbrev count : ℕ
  count = segments_of most (length u)

  abbrev all : ℕ
  all = held_in c.window

  abbrev first : ℕ
  first = oldest_of slots c.window

  abbrev mem₁ : List ℕ
  mem₁ = filed_mem (slot_of c) most slots u mem count 0 (free_at c)

  abbrev lens₁ : List ℕ
  lens₁ = filed_lens (slot_of c) most slots u lens count 0 (free_at c)

  place_in : c.window.place < slots
  place_in = (counted_is c.limits c.window a.standing.ring a.standing.flight).place

  first_in : first < slots
  first_in = back_lt slots c.window.place c.window.behind place_in

  free_in : free_at c < slots
  free_in = round_lt slots (c.window.place + c.window.ahead) (omega (arith, place_in))

  -- where the unit is filed, counted from the oldest segment
  on : (j : ℕ) → all + j < slots → round_of slots (free_at c + j) ≡ held_at c (all + j)
  on j l =
      ap (λ (p : ℕ). round_of slots (p + j)) (sym (from_oldest slots c.window c.window.ahead place_in (omega arith)))
      ∙ round_add slots first all j (omega (arith, first_in))

  -- the places of what is held already lie outside, as far from there as this
  abbrev off : ℕ → ℕ
  off j = toward slots (free_at c) (held_at c j)

  off_is : (j : ℕ) → j < all → (off j < slots) × (round_of slots (free_at c + off j) ≡ held_at c j)
  off_is j l = toward_is slots (free_at c) (held_at c j) free_in (round_lt slots (first + j) (omega (arith, first_in)))

  off_far : (j : ℕ) → j < all → count ≤ off j
  off_far j l =
      ⊎_elim
      (λ inside.
      let same : j ≡ all + off j
      = round_apart slots first j (all + off j) first_in (omega arith) (omega arith) (sym (off_is j l).1 ∙ on (off j) (omega arith))
      in
      absurd (omega arith))
      (λ outside. outside)
      (lt_cases (off j) count)

  old_lying : (j : ℕ) → j < all → lying (filed_unit c (length u)) mem₁ lens₁ (held_at c j) ≡ lying c mem lens (held_at c j)
  old_lying j l =
      let o = off_is j l in
      let h = a.standing in
      let here = held_at c j in
      let in_ring_lem : here < slots = round_lt slots (first + j) (omega (arith, first_in)) in
      let short : get_or lens (slot_of c here) 0 ≤ most
      = (slot_bounds (eqb c.addresses.direction sends) most (get_or c.marks here 0) (get_or lens (slot_of c here) 0) (h.slots here in_ring_lem) (h.held j l)).1
      in
      lying_same c (filed_unit c (length u)) mem lens mem₁ lens₁ here
      (ap (λ (p : ℕ). get_or (filed_marks slots count c.marks count 0 (free_at c)) p 0) (sym o.1)
      ∙ filed_marks_out slots count c.marks count 0 (free_at c) (off j) free_in o.0 (off_far j l)
      ∙ ap (λ (p : ℕ). get_or c.marks p 0) o.1)
      (λ used.
      ap (λ (p : ℕ). segment_in most mem₁ lens₁ (slot_of c p)) (sym o.1)
      ∙ filed_octets_out (slot_of c) slots most slots u (slotted c.limits) mem lens count 0 (free_at c) (off j) a.sized free_in o.0 (off_far j l)
      (subst (λ (p : ℕ). get_or lens (slot_of c p) 0 ≤ most) (sym o.1) short)
      ∙ ap (λ (p : ℕ). segment_in most mem lens (slot_of c p)) o.1)

  new_lying : (j : ℕ) → j < count → lying (filed_unit c (length u)) mem₁ lens₁ (held_at c (all + j)) ≡ some (get_or (cut most u) j blank)
  new_lying j l =
      let f = fit_is c.limits a.standing.fit in
      let k = filed_unit c (length u) in
      let at = on j (omega arith) in
      let here = held_at c (all + j) in
      let mark : get_or k.marks here 0 ≡ mark_of (flags_of count j)
      = ap (λ (p : ℕ). get_or k.marks p 0) (sym at)
      ∙ filed_marks_in slots count c.marks count 0 (free_at c) j free_in (omega (arith, f.most, x.marks)) (omega arith) l
      ∙ ap (λ (i : ℕ). mark_of (flags_of count i)) (zero-add j)
      in
      let octets : octets_at k mem₁ lens₁ here ≡ segment_cut most u j
      = ap (λ (p : ℕ). segment_in most mem₁ lens₁ (slot_of c p)) (sym at)
      ∙ filed_octets_in (slot_of c) slots most slots u (slotted c.limits) mem lens count 0 (free_at c) j a.sized free_in (omega arith) l
      ∙ ap (segment_cut most u) (zero-add j)
      in
      lying_some k mem₁ lens₁ here (λ z. let y : mark_of (flags_of count j) ≡ 0 = sym mark ∙ z in omega arith)
      ∙ ap₂ (λ (m : ℕ) (o : List ℕ). some (segment_by m o)) mark octets
      ∙ ap some (by_mark count j (segment_cut most u j) l ∙ sym (cut_at most u j l))

  filed_holds : Holds (filed_unit c (length u)) mem₁ lens₁ (line ++ cut most u) oldest
  filed_holds =
      record {
        count = omega (arith, x.count, length-append line (cut most u), cut_length most u);
        each = λ j l.
            ⊎_elim
            (λ before.
            old_lying j before
            ∙ x.each j before
            ∙ ap some (sym (get_or-append line (cut most u) blank (oldest + j) (omega (arith, x.count)))))
            (λ after.
            let i = j - all in
            let back : all + i ≡ j = omega arith in
            let at : length line + i ≡ oldest + j = omega (arith, x.count) in
            ap (λ (p : ℕ). lying (filed_unit c (length u)) mem₁ lens₁ (held_at c p)) (sym back)
            ∙ new_lying i (omega arith)
            ∙ ap some (sym (get_or-append-add line (cut most u) i blank))
            ∙ ap (λ (p : ℕ). some (get_or (line ++ cut most u) p blank)) at)
            (lt_cases j all);
        whole = cut_ends most u line;
        marks = filed_marks_length slots count c.marks count 0 (free_at c) ∙ x.marks;
        acks = cleared_length c.acked slots count (free_at c) ∙ x.acks;
      }

  filed_windowed : (start next : ℕ) (acked : ℕ → Bool) → Windowed c oldest start next acked → Windowed (filed_unit c (length u)) oldest start next acked
  filed_windowed start next acked w =
      let n = counted_is c.limits c.window a.standing.ring a.standing.flight in
      record {
        number = w.number;
        behind = w.behind;
        flight = w.flight;
        noted = λ j l.
            ⊎_elim
            (λ before.
            let i = c.window.behind + j in
            let o = off_is i (omega arith) in
            let at : held_at c i ≡ place_at c j = from_oldest slots c.window j place_in (omega arith) in
            ap (λ (m : ℕ). eqb m 0)
            (ap (λ (p : ℕ). get_or (cleared c.acked slots count (free_at c)) p 0) (sym (o.1 ∙ at))
            ∙ cleared_out c.acked slots count (free_at c) (off i) free_in o.0 (off_far i (omega arith))
            ∙ ap (λ (p : ℕ). get_or c.acked p 0) (o.1 ∙ at))
            ∙ w.noted j before)
            (λ after.
            let i = j - c.window.ahead in
            let back : c.window.ahead + i ≡ j = omega arith in
            let at : round_of slots (free_at c + i) ≡ place_at c j
            = round_add slots c.window.place c.window.ahead i (omega (arith, place_in))
            ∙ ap (λ (p : ℕ). round_of slots (c.window.place + p)) back
            in
            let unsent : acked (start + j) ≡ false
            = not_true (acked (start + j)) (λ t. let z : start + j < next = w.sent (start + j) t in omega (arith, w.flight, n.flight))
            in
            ap (λ (m : ℕ). eqb m 0)
            (ap (λ (p : ℕ). get_or (cleared c.acked slots count (free_at c)) p 0) (sym at)
            ∙ cleared_in c.acked slots count (free_at c) i free_in (omega arith) (omega arith))
            ∙ ap not (sym unsent))
            (lt_cases j c.window.ahead);
        sent = w.sent;
      }

-- ---- the theorem

module _ (c : Channel) (mem lens : List ℕ) (s : Sender) (a : Asked c mem lens) (d : c.addresses.direction ≡ sends) (r : Sends c mem lens s)
    (u : DataUnit) where
  -- the step of the record is this of the protocol
  abbrev Both : Sender × Answer → Type 0
  Both x =
      Sends (transfer_step c (length u)).channel (transfer_mem c u mem) (transfer_lens c u lens) x.0
      × (number_of (transfer_step c (length u)).answer ≡ x.1.number)

  refused : (why : Refusal) → eqb (refusal_number why) 0 ≡ false → would_transfer c (length u) ≡ Refused why → Both (s, say (refusal_number why))
  refused why apart would =
      let f = accepted_by_lem c (length u) (Refused why) would ∙ apart in
      let e = transfer_no c u mem lens f ∙ ap (answered c) would in (
        subst (λ (k : Stepped). Sends k.channel (transfer_mem c u mem) (transfer_lens c u lens) s) (sym e)
            (subst₂ (λ (m l : List ℕ). Sends c m l s) (sym (transfer_no_mem c u mem lens f)) (sym (transfer_no_lens c u mem lens f)) r),
        ap (λ (k : Stepped). number_of k.answer) e,
      )

  abbrev count₁ : ℕ
  count₁ = segments_of c.limits.payload (length u)

  go : (o m b : Bool) → is_open s.phase ≡ o → leb (length (cut c.limits.payload u)) c.limits.segments ≡ m
      → leb (length s.line - s.oldest + length (cut c.limits.payload u)) c.limits.slots ≡ b
      → Both (transferred o m b s (cut c.limits.payload u))
  go false m b p q t =
      let closed : c.phase.state ≡ record_of.opened → ⊥
      = λ e. yes_no (ap is_open (state_opened s.phase (sym r.state ∙ e))) p
      in
      refused refusal.State refl (would_state c (length u) closed)
  go true false b p q t =
      let o : c.phase.state ≡ record_of.opened = r.state ∙ open_state s.phase p in
      let long : c.limits.segments < count₁
      = omega (arith, leb-false (length (cut c.limits.payload u)) c.limits.segments q, cut_length c.limits.payload u)
      in
      refused refusal.Long refl (would_long c (length u) count₁ refl o long)
  go true true false p q t =
      let o : c.phase.state ≡ record_of.opened = r.state ∙ open_state s.phase p in
      let z : rank s.phase ≡ 2 = ap rank (state_opened s.phase (sym r.state ∙ o)) in
      let x = r.held (omega arith) in
      let len = cut_length c.limits.payload u in
      let few : count₁ ≤ c.limits.segments
      = omega (arith, leb-true (length (cut c.limits.payload u)) c.limits.segments q, len)
      in
      let full : c.limits.slots < held_in c.window + count₁
      = omega (arith, leb-false (length s.line - s.oldest + length (cut c.limits.payload u)) c.limits.slots t, len, x.count)
      in
      refused refusal.NoRoom refl (would_room c (length u) count₁ refl o few full)
  go true true true p q t =
      let o : c.phase.state ≡ record_of.opened = r.state ∙ open_state s.phase p in
      let z : rank s.phase ≡ 2 = ap rank (state_opened s.phase (sym r.state ∙ o)) in
      let x = r.held (omega arith) in
      let w = r.window (omega arith) (omega arith) in
      let len = cut_length c.limits.payload u in
      let few : count₁ ≤ c.limits.segments
      = omega (arith, leb-true (length (cut c.limits.payload u)) c.limits.segments q, len)
      in
      let room : held_in c.window + count₁ ≤ c.limits.slots
      = omega (arith, leb-true (length s.line - s.oldest + length (cut c.limits.payload u)) c.limits.slots t, len, x.count)
      in
      let f = accepted_by_lem c (length u) (Done 0 0) (would_done c (length u) count₁ refl o few room) in
      let e = transfer_done c u mem lens f in
      let to = (transferred true true true s (cut c.limits.payload u)).0 in
      let done : Sends (filed_unit c (length u))
      (filed_mem (slot_of c) c.limits.payload c.limits.slots u mem count₁ 0 (free_at c))
      (filed_lens (slot_of c) c.limits.payload c.limits.slots u lens count₁ 0 (free_at c))
      to
      = record {
        state = r.state;
        before = λ y. absurd (not_fresh s.phase (omega arith) y);
        held = λ _. filed_holds c mem lens a s.line s.oldest x u room;
        window = λ _ _. filed_windowed c mem lens a s.line s.oldest x u room s.start s.next s.acked w;
      }
      in (
        subst (λ (k : Stepped). Sends k.channel (transfer_mem c u mem) (transfer_lens c u lens) to) (sym e)
            (subst₂ (λ (m l : List ℕ). Sends (filed_unit c (length u)) m l to) (sym (transfer_done_mem c u mem lens f)) (sym (transfer_done_lens c u mem lens f)) done),
        ap (λ (k : Stepped). number_of k.answer) e,
      )

  pub transfer_sends : Sends (transfer_step c (length u)).channel (transfer_mem c u mem) (transfer_lens c u lens) (sender_step (limits_of c.limits) s (transfer u)).0
      × (number_of (transfer_step c (length u)).answer ≡ (sender_step (limits_of c.limits) s (transfer u)).1.number)
  transfer_sends =
      go (is_open s.phase) (leb (length (cut c.limits.payload u)) c.limits.segments)
      (leb (length s.line - s.oldest + length (cut c.limits.payload u)) c.limits.slots) refl refl refl
