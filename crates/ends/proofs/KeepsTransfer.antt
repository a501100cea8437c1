-- A transfer keeps the standing condition, and the size of the memory.
-- Assumes nothing.
use mathlib.Core.Path.{◌≡◌, refl, sym, ap, ap₂, ◌∙◌, subst}
use mathlib.Core.Logic.{⊎_elim}
use mathlib.Core.Bool.{Bool, true, false}
use mathlib.Core.List.{List}
use Prim.Native.Nat.{ℕ, ◌+◌, ◌-◌, ◌≤◌, ◌<◌}
use native.Mathlib.Nat.{zero-add}
use native.Mathlib.Omega.{arith}
use borrow.Author.Tests.{le-leb, eq-eqb, eqb-true, eqb-false}
use lib.Dec.{leb, eqb}
use lib.ListN.{length, get_or}
use Rattle.laws.proofs.Numbers.{lt_cases}
use Rattle.std.specs.Prelude.{if◌then◌else◌}
use Rattle.slots.specs.Ring.{round_of}
use Rattle.slots.proofs.RingLaws.{round_lt, round_add, round_apart, back_lt}
use Rattle.slots.specs.Slots.{Sized}
use Rattle.channel.specs.Places.{slot_of}
use Rattle.channel.proofs.PlaceLaws.{slotted}
use Rattle.slots.specs.Units.{segments_of, segment_cut, flags_of}
use Rattle.slots.specs.Marks.{mark_of}
use Rattle.slots.proofs.Units.{fits, full}
use Rattle.store.specs.Store.{filed_mem, filed_lens, filed_marks}
use Rattle.store.proofs.Laws.{filed_marks_in, filed_marks_out, filed_lens_in, filed_lens_out, filed_lens_length, filed_sized}
use Rattle.channel.specs.declared.record.Channel.{Channel}
use Rattle.channel.specs.declared.step.Stepped.{Stepped}
use Rattle.channel.specs.Record.{sends, held_in}
use Rattle.channel.specs.Standing.{oldest_of, slot_fit, Standing}
use Rattle.channel.proofs.SettingsLaws.{fit_is}
use Rattle.channel.proofs.StandingLaws.{counted_is, named_is, open_rests}
use Rattle.sender_units.specs.Transfer.{is_accepted, longer, filed_unit, free_at, transfer_step, transfer_mem, transfer_lens}
use Rattle.sender_units.proofs.UnitLaws.{accepted_is, transfer_no, transfer_no_lens, transfer_done, transfer_done_lens}
use Rattle.ends.proofs.SenderKeeps.{sided_way, open_sided, stand, toward, toward_is}
use Rattle.sender.proofs.AskedLaws.{from_oldest}

-- ---- a segment filed fits: full, unless it is its unit's last

module _ (most len : ℕ) where
  end_fits : slot_fit true most 3 len ≡ leb len most
  unfolding slot_fit
  end_fits = refl

  whole_fits : slot_fit true most 4 len ≡ leb len most
  unfolding slot_fit
  whole_fits = refl

  first_fits : slot_fit true most 2 len ≡ eqb len most
  unfolding slot_fit
  first_fits = refl

  middle_fits : slot_fit true most 1 len ≡ eqb len most
  unfolding slot_fit
  middle_fits = refl

segment_fits : (most : ℕ) (u : List ℕ) (k : ℕ) → k < segments_of most (length u)
    → slot_fit true most (mark_of (flags_of (segments_of most (length u)) k)) (length (segment_cut most u k)) ≡ true
segment_fits most u k l = go (eqb count 1) refl (eqb k 0) refl (eqb (k + 1) count) refl
  where
    count : ℕ
    count = segments_of most (length u)

    len : ℕ
    len = length (segment_cut most u k)

    short : leb len most ≡ true
    short = le-leb _ _ (fits most u k)

    exact : k + 1 < count → eqb len most ≡ true
    exact h = eq-eqb _ _ (full most u k h)

    go : (a : Bool) → eqb count 1 ≡ a → (b : Bool) → eqb k 0 ≡ b → (d : Bool) → eqb (k + 1) count ≡ d
        → slot_fit true most ((if a then 3 else if b then 1 else if d then 2 else 0) + 1) len ≡ true
    go true p b q d r = whole_fits most len ∙ short
    go false p true q d r = first_fits most len ∙ exact (omega (arith, eqb-false count 1 p, eqb-true k 0 q))
    go false p false q true r = end_fits most len ∙ short
    go false p false q false r = middle_fits most len ∙ exact (omega (arith, eqb-false (k + 1) count r))

-- ---- the unit filed

module _ (c : Channel) (u lens : List ℕ) (h : Standing c lens) (s : c.addresses.direction ≡ sends) (wide : length c.marks ≡ 128)
    (a : is_accepted c (length u) ≡ true) where
  filed_stands : Standing (filed_unit c (length u))
      (filed_lens (slot_of c) c.limits.payload c.limits.slots u lens (segments_of c.limits.payload (length u)) 0 (free_at c))
  filed_stands =
      let w = c.window in
      let slots = c.limits.slots in
      let most = c.limits.payload in
      let count = segments_of most (length u) in
      let t = accepted_is c (length u) a in
      let f = fit_is c.limits h.fit in
      let n = named_is c h.named in
      let k = counted_is c.limits w h.ring h.flight in
      let z = sided_way c.addresses.direction c.phase.state w s h.sided in
      let old = oldest_of slots w in
      let p = back_lt slots w.place w.behind k.place in
      let from = free_at c in
      let q : from < slots = round_lt slots (w.place + w.ahead) (omega (arith, k.place, k.held)) in
      let all = held_in w in
      let free : round_of slots (old + all) ≡ from = from_oldest slots w w.ahead k.place k.held in
      let room : all + count ≤ slots = t.2 in
      let marks = filed_marks slots count c.marks count 0 from in
      let lengths = filed_lens (slot_of c) most slots u lens count 0 from in
      let enough : slots ≤ length c.marks = omega (arith, f.most) in
      let enough_lens : slots ≤ length lens = omega (arith, h.count) in
      let on : (j : ℕ) → all + j < slots → round_of slots (from + j) ≡ round_of slots (old + (all + j)) = λ j l.
      ap (λ (x : ℕ). round_of slots (x + j)) (sym free) ∙ round_add slots old all j (omega arith) in
      stand (filed_unit c (length u)) lengths h.fit (filed_lens_length (slot_of c) most slots u lens count 0 from ∙ h.count)
      (record { addresses = n.addresses; state = n.state; reason = n.reason; kept = n.kept; accepted = n.accepted; control = n.control; pulse = n.pulse })
      (record { place = k.place; held = omega arith; flight = omega (arith, k.flight); window = k.window; way = k.way; unit = k.unit })
      (open_sided c.addresses.direction c.phase.state (longer w count) s z t.0)
      (open_rests c.addresses.direction c.phase (longer w count) t.0)
      (λ i less zero-mark.
      ⊎_elim
      (λ before.
      let here = round_of slots (old + i) in
      let d = toward_is slots from here q (round_lt slots (old + i) (omega arith)) in
      let j = toward slots from here in
      ⊎_elim
      (λ inside.
      let same : i ≡ all + j = round_apart slots old i (all + j) p (omega arith) (omega arith) (sym d.1 ∙ on j (omega arith)) in
      omega arith)
      (λ outside.
      h.held i before
      (ap (λ (x : ℕ). get_or c.marks x 0) (sym d.1)
      ∙ sym (filed_marks_out slots count c.marks count 0 from j q d.0 outside)
      ∙ ap (λ (x : ℕ). get_or marks x 0) d.1
      ∙ zero-mark))
      (lt_cases j count))
      (λ after.
      let j = i - all in
      let back : all + j ≡ i = omega arith in
      let mark : get_or marks (round_of slots (from + j)) 0 ≡ mark_of (flags_of count (0 + j)) =
      filed_marks_in slots count c.marks count 0 from j q enough (omega arith) (omega arith) in
      let place : round_of slots (from + j) ≡ round_of slots (old + i) = on j (omega arith) ∙ ap (λ (x : ℕ). round_of slots (old + x)) back in
      let none : mark_of (flags_of count (0 + j)) ≡ 0 = sym mark ∙ ap (λ (x : ℕ). get_or marks x 0) place ∙ zero-mark in
      omega (arith, none))
      (lt_cases i all))
      (λ i less.
      let d = toward_is slots from i q less in
      let j = toward slots from i in
      let sending : eqb c.addresses.direction sends ≡ true = eq-eqb _ _ s in
      ⊎_elim
      (λ inside.
      let mark : get_or marks i 0 ≡ mark_of (flags_of count j) =
      ap (λ (x : ℕ). get_or marks x 0) (sym d.1)
      ∙ filed_marks_in slots count c.marks count 0 from j q enough (omega arith) inside
      ∙ ap (λ (x : ℕ). mark_of (flags_of count x)) (zero-add j) in
      let len : get_or lengths (slot_of c i) 0 ≡ length (segment_cut most u j) =
      ap (λ (x : ℕ). get_or lengths (slot_of c x) 0) (sym d.1)
      ∙ filed_lens_in (slot_of c) most slots u lens slots (slotted c.limits) count 0 from j q enough_lens (omega arith) inside
      ∙ ap (λ (x : ℕ). length (segment_cut most u x)) (zero-add j) in
      ap (λ (x : Bool). slot_fit x most (get_or marks i 0) (get_or lengths (slot_of c i) 0)) sending
      ∙ ap₂ (λ (x y : ℕ). slot_fit true most x y) mark len
      ∙ segment_fits most u j inside)
      (λ outside.
      let mark : get_or marks i 0 ≡ get_or c.marks i 0 =
      ap (λ (x : ℕ). get_or marks x 0) (sym d.1)
      ∙ filed_marks_out slots count c.marks count 0 from j q d.0 outside
      ∙ ap (λ (x : ℕ). get_or c.marks x 0) d.1 in
      let len : get_or lengths (slot_of c i) 0 ≡ get_or lens (slot_of c i) 0 =
      ap (λ (x : ℕ). get_or lengths (slot_of c x) 0) (sym d.1)
      ∙ filed_lens_out (slot_of c) most slots u lens slots (slotted c.limits) count 0 from j q d.0 outside
      ∙ ap (λ (x : ℕ). get_or lens (slot_of c x) 0) d.1 in
      ap₂ (λ (x y : ℕ). slot_fit (eqb c.addresses.direction sends) most x y) mark len ∙ h.slots i less)
      (lt_cases j count))

-- ---- the theorems

-- the array of marks has a place for each slot
pub transfer_stands : (c : Channel) (u lens : List ℕ) → length c.marks ≡ 128 → Standing c lens → c.addresses.direction ≡ sends
    → Standing (transfer_step c (length u)).channel (transfer_lens c u lens)
transfer_stands c u lens wide h s = go (is_accepted c (length u)) refl
  where
    go : (t : Bool) → is_accepted c (length u) ≡ t → Standing (transfer_step c (length u)).channel (transfer_lens c u lens)
    go true e =
        subst (λ (x : List ℕ). Standing (transfer_step c (length u)).channel x) (sym (transfer_done_lens c u lens lens e))
        (subst (λ (x : Stepped). Standing x.channel (filed_lens (slot_of c) c.limits.payload c.limits.slots u lens (segments_of c.limits.payload (length u)) 0 (free_at c)))
        (sym (transfer_done c u lens lens e))
        (filed_stands c u lens h s wide e))
    go false e =
        subst (λ (x : List ℕ). Standing (transfer_step c (length u)).channel x) (sym (transfer_no_lens c u lens lens e))
        (subst (λ (x : Channel). Standing x lens) (sym (ap (λ (x : Stepped). x.channel) (transfer_no c u lens lens e))) h)

pub transfer_sized : (c : Channel) (u mem lens : List ℕ) → Standing c lens → Sized c.limits.slots c.limits.payload mem lens
    → Sized c.limits.slots c.limits.payload (transfer_mem c u mem) (transfer_lens c u lens)
unfolding transfer_mem transfer_lens
transfer_sized c u mem lens h sized = go (is_accepted c (length u))
  where
    here : Sized c.limits.slots c.limits.payload
        (filed_mem (slot_of c) c.limits.payload c.limits.slots u mem (segments_of c.limits.payload (length u)) 0 (free_at c))
        (filed_lens (slot_of c) c.limits.payload c.limits.slots u lens (segments_of c.limits.payload (length u)) 0 (free_at c))
    here =
        let k = counted_is c.limits c.window h.ring h.flight in
        filed_sized (slot_of c) c.limits.slots c.limits.payload c.limits.slots u (slotted c.limits) mem lens (segments_of c.limits.payload (length u)) 0 (free_at c) sized
        (round_lt c.limits.slots (c.window.place + c.window.ahead) (omega (arith, k.place, k.held)))

    go : (t : Bool)
        → Sized c.limits.slots c.limits.payload
        (if t then filed_mem (slot_of c) c.limits.payload c.limits.slots u mem (segments_of c.limits.payload (length u)) 0 (free_at c) else mem)
        (if t then filed_lens (slot_of c) c.limits.payload c.limits.slots u lens (segments_of c.limits.payload (length u)) 0 (free_at c) else lens)
    go true = here
    go false = sized
