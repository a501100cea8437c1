-- The segment at a place: by its mark, and after a segment is filed or others are cleared. Places are counted from the oldest segment held.
-- Assumes nothing.
use mathlib.Core.Path.{◌≡◌, sym, ap, ap₂, ◌∙◌}
use mathlib.Core.List.{List}
use mathlib.Core.Option.{Option, none, some}
use Prim.Native.Nat.{ℕ, ◌+◌, ◌*◌, ◌≤◌, ◌<◌}
use native.Mathlib.Omega.{arith}
use borrow.Author.Tests.{eqb-true, eqb-false}
use lib.Dec.{eqb}
use lib.ListN.{length, get_or, set}
use lib.Seq.{get_or-set_same, get_or-set_other}
use Rattle.laws.proofs.Choice.{either_way}
use Rattle.slots.specs.Ring.{round_of}
use Rattle.slots.proofs.RingLaws.{back_lt, back_forth, round_add}
use Rattle.slots.specs.Marks.{mark_of}
use Rattle.slots.specs.Slots.{laid}
use Rattle.channel.specs.Places.{slot_of}
use Rattle.slots.proofs.SlotLaws.{filed_same, filed_other}
use Rattle.channel.proofs.PlaceLaws.{slot_bound, slot_apart}
use Rattle.channel.specs.declared.record.Window.{Window}
use Rattle.channel.specs.declared.record.Channel.{Channel}
use Rattle.channel.specs.Record.{sends}
use Rattle.channel.specs.Standing.{oldest_of}
use Rattle.channel.specs.Asked.{Asked}
use Rattle.receiver_data.specs.Data.{marking}
use Rattle.receiver_data.proofs.TakeLaws.{fit_length}
use Rattle.protocol.specs.Units.{Segment}
use Rattle.protocol.proofs.Small.{none_some}
use Rattle.means.specs.Held.{octets_at}
use Rattle.means.specs.Meaning.{segment_by, carried, lying}
use Rattle.means.proofs.Lying.{lying_none, lying_some, lying_same}

-- ---- by the mark

module _ (c : Channel) (mem lens : List ℕ) (place : ℕ) where
  pub none_unmarked : lying c mem lens place ≡ none → get_or c.marks place 0 ≡ 0
  none_unmarked e = either_way (eqb (get_or c.marks place 0) 0) (λ z. eqb-true _ _ z) (λ z. absurd (none_some e (lying_some c mem lens place (eqb-false _ _ z))))

  pub some_marked : (g : Segment) → lying c mem lens place ≡ some g → get_or c.marks place 0 ≡ 0 → ⊥
  some_marked g e z = none_some (lying_none c mem lens place z) e

  pub some_is : (g : Segment) → lying c mem lens place ≡ some g → g ≡ segment_by (get_or c.marks place 0) (octets_at c mem lens place)
  some_is g e = let p = lying_some c mem lens place (some_marked g e) in cc (e, p)

-- ---- a segment filed at a place

module _ (c : Channel) (mem lens : List ℕ) (asked : Asked c mem lens) (place flags : ℕ) (p : List ℕ) (inside : place < c.limits.slots) (short : length p ≤ c.limits.payload) where
  abbrev after : ℕ → Option Segment
  after =
      lying (marking c place flags) (laid mem (slot_of c place * c.limits.payload) p) (set lens (slot_of c place) (length p))

  -- it lies there
  pub filed_here : length c.marks ≡ 128 → after place ≡ some (carried flags p)
  filed_here count =
      let mark : get_or (set c.marks place (mark_of flags)) place 0 ≡ mark_of flags = get_or-set_same c.marks place (mark_of flags) 0 (omega (arith, asked.sized.few)) in
      lying_some
      (marking c place flags)
      (laid mem (slot_of c place * c.limits.payload) p)
      (set lens (slot_of c place) (length p))
      place
      (λ z. omega (arith, mark))
      ∙ ap₂
      (λ (m : ℕ) (o : List ℕ). some (segment_by m o))
      mark
      (filed_same c.limits.slots c.limits.payload mem lens (slot_of c place) p asked.sized (slot_bound c.limits place inside) short)

  -- what lies elsewhere stays
  pub filed_elsewhere : (q : ℕ) → q < c.limits.slots → (q ≡ place → ⊥) → after q ≡ lying c mem lens q
  filed_elsewhere q within other =
      lying_same
      c
      (marking c place flags)
      mem
      lens
      (laid mem (slot_of c place * c.limits.payload) p)
      (set lens (slot_of c place) (length p))
      q
      (get_or-set_other c.marks place q (mark_of flags) 0 other)
      (λ used.
      filed_other
      c.limits.slots
      c.limits.payload
      mem
      lens
      (slot_of c place)
      p
      asked.sized
      (slot_bound c.limits place inside)
      short
      (slot_of c q)
      (λ e. other (slot_apart c.limits q place e))
      (fit_length
      (eqb c.addresses.direction sends)
      c.limits.payload
      (get_or c.marks q 0)
      (get_or lens (slot_of c q) 0)
      (asked.standing.slots q within)
      used))

-- ---- the place d past the start, counted from the oldest segment held

pub place_past : (slots : ℕ) (w : Window) (d : ℕ) → w.place < slots → w.behind ≤ slots → w.behind + d < slots
    → round_of slots (w.place + d) ≡ round_of slots (oldest_of slots w + (w.behind + d))
place_past slots w d on few less =
    let from = oldest_of slots w in
    let low : from < slots = back_lt slots w.place w.behind on in
    ap (λ (k : ℕ). round_of slots (k + d)) (sym (back_forth slots w.place w.behind on few))
    ∙ round_add slots from w.behind d (omega arith)
