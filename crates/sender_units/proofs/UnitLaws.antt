-- Laws of units filed, and of what is reclaimed: what a transfer answers in each case, and that a unit's segments fit.
-- Assumes nothing.
use mathlib.Core.Path.{◌≡◌, refl, sym, ap, ap₂, ◌∙◌}
use mathlib.Core.Bool.{Bool, true, false, not, false≢true}
use mathlib.Core.List.{List}
use Prim.Native.Nat.{ℕ, ◌+◌, ◌*◌, ◌≤◌, ◌<◌, min}
use native.Mathlib.Nat.{mul-le-mul, mul-le-mul_right, min-eq_left, min-eq_right}
use native.Mathlib.Omega.{arith}
use borrow.Author.Tests.{lt-ltb, le-ltb, eq-eqb, ne_eqb, ltb-false, leb-true, leb-false, eqb-true, eqb-false}
use lib.Dec.{leb, ltb, eqb}
use lib.ListN.{length}
use Rattle.std.specs.Prelude.{if◌then◌else◌}
use Rattle.laws.proofs.Choice.{either_way, chosen, passed_by}
use Rattle.slots.specs.Ring.{cleared}
use Rattle.channel.specs.Places.{slot_of}
use Rattle.slots.specs.Units.{segments_of}
use Rattle.slots.proofs.Units.{segments_cover, segments_over}
use Rattle.store.specs.Store.{filed_mem, filed_lens, filed_marks, EachFits}
use Rattle.channel.specs.declared.record.Channel.{Channel}
use Rattle.channel.specs.declared.answer.Answer.{Answer}
use Rattle.channel.specs.declared.answer.Answer.TheVariants.{Done, Refused}
use Rattle.channel.specs.declared.answer.Refusal.TheVariants as refusal
use Rattle.channel.specs.Answers.{number_of}
use Rattle.channel.specs.Record.{opened, held_in, with_window, with_marks, with_acked}
use Rattle.channel.specs.Steps.{answered, doing}
use Rattle.channel.specs.Asked.{Ringed, Asked}
use Rattle.channel.specs.Pairs.{filed, filed_count}
use Rattle.channel.proofs.PairLaws.{filed_length}
use Rattle.sender_units.specs.Transfer.{would_transfer, is_accepted, longer, filed_unit, transfer_step, transfer_mem, transfer_lens, free_at}
use Rattle.sender.proofs.AskedLaws.{mark_fits}

-- ---- transfer

module _ (c : Channel) (n count : ℕ) (e : count ≡ segments_of c.limits.payload n) where
  module _ (h : c.phase.state ≡ opened) where
    pub would_long : c.limits.segments < count → would_transfer c n ≡ Refused refusal.Long
    unfolding would_transfer
    would_long k = simp (eq-eqb _ _ h, ← e, lt-ltb _ _ k)

    pub would_room : count ≤ c.limits.segments → c.limits.slots < held_in c.window + count → would_transfer c n ≡ Refused refusal.NoRoom
    unfolding would_transfer
    would_room k r = simp (eq-eqb _ _ h, ← e, le-ltb _ _ k, lt-ltb _ _ r)

    pub would_done : count ≤ c.limits.segments → held_in c.window + count ≤ c.limits.slots → would_transfer c n ≡ Done 0 0
    unfolding would_transfer
    would_done k r = simp (eq-eqb _ _ h, ← e, le-ltb _ _ k, le-ltb _ _ r)

pub would_state : (c : Channel) (n : ℕ) → (c.phase.state ≡ opened → ⊥) → would_transfer c n ≡ Refused refusal.State
unfolding would_transfer
would_state c n h = simp (ne_eqb _ _ h)

-- whether it is accepted, by what it is answered
pub accepted_by_lem : (c : Channel) (n : ℕ) (a : Answer) → would_transfer c n ≡ a → is_accepted c n ≡ eqb (number_of a) 0
unfolding is_accepted
accepted_by_lem c n a e = ap (λ (x : Answer). eqb (number_of x) 0) e

pub accepted_is : (c : Channel) (n : ℕ) → is_accepted c n ≡ true
    → (c.phase.state ≡ opened) × (segments_of c.limits.payload n ≤ c.limits.segments) × (held_in c.window + segments_of c.limits.payload n ≤ c.limits.slots)
unfolding is_accepted would_transfer
accepted_is c n = go (eqb c.phase.state opened) refl (ltb c.limits.segments count) refl (ltb c.limits.slots (held_in c.window + count)) refl
  where
    count : ℕ
    count = segments_of c.limits.payload n

    go : (o : Bool) → eqb c.phase.state opened ≡ o → (l : Bool) → ltb c.limits.segments count ≡ l
        → (r : Bool) → ltb c.limits.slots (held_in c.window + count) ≡ r
        → eqb (number_of (if not o then Refused refusal.State else if l then Refused refusal.Long else if r then Refused refusal.NoRoom else Done 0 0)) 0 ≡ true
        → (c.phase.state ≡ opened) × (count ≤ c.limits.segments) × (held_in c.window + count ≤ c.limits.slots)
    go true o false l false r e = (eqb-true _ _ o, ltb-false _ _ l, ltb-false _ _ r)
    go false o l lₑ r rₑ e = absurd (false≢true e)
    go true o true l r rₑ e = absurd (false≢true e)
    go true o false l true r e = absurd (false≢true e)

pub accepted_done : (c : Channel) (n : ℕ) → is_accepted c n ≡ true → would_transfer c n ≡ Done 0 0
accepted_done c n e = let t = accepted_is c n e in would_done c n (segments_of c.limits.payload n) refl t.0 t.1 t.2

module _ (c : Channel) (u mem lens : List ℕ) where
  module _ (e : is_accepted c (length u) ≡ false) where
    pub transfer_no : transfer_step c (length u) ≡ answered c (would_transfer c (length u))
    unfolding transfer_step
    transfer_no = ap (λ (x : Channel). answered x (would_transfer c (length u))) (passed_by (is_accepted c (length u)) _ _ e)

    pub transfer_no_mem : transfer_mem c u mem ≡ mem
    unfolding transfer_mem
    transfer_no_mem = passed_by (is_accepted c (length u)) _ _ e

    pub transfer_no_lens : transfer_lens c u lens ≡ lens
    unfolding transfer_lens
    transfer_no_lens = passed_by (is_accepted c (length u)) _ _ e

  module _ (e : is_accepted c (length u) ≡ true) where
    pub transfer_done : transfer_step c (length u) ≡ doing (filed_unit c (length u)) 0
    unfolding transfer_step
    transfer_done = ap₂ answered (chosen (is_accepted c (length u)) _ _ e) (accepted_done c (length u) e)

    pub transfer_done_mem : transfer_mem c u mem ≡ filed_mem (slot_of c) c.limits.payload c.limits.slots u mem (segments_of c.limits.payload (length u)) 0 (free_at c)
    unfolding transfer_mem
    transfer_done_mem = chosen (is_accepted c (length u)) _ _ e

    pub transfer_done_lens : transfer_lens c u lens ≡ filed_lens (slot_of c) c.limits.payload c.limits.slots u lens (segments_of c.limits.payload (length u)) 0 (free_at c)
    unfolding transfer_lens
    transfer_done_lens = chosen (is_accepted c (length u)) _ _ e

-- ---- units longer than any that is filed: M segments are at most 128, of at most 1,024 octets

module _ (c : Channel) (r : Ringed c.limits c.window) where
  unit_most : c.limits.segments * c.limits.payload ≤ 131072
  unit_most = let m : c.limits.segments ≤ 128 = omega (arith, r.segments, r.most) in mul-le-mul m r.payload

  -- what is accepted is no longer
  pub accepted_short : (n : ℕ) → is_accepted c n ≡ true → n ≤ 131072
  accepted_short n e =
      let t = accepted_is c n e in
      omega (arith, unit_most, segments_cover c.limits.payload n r.octet, mul-le-mul_right c.limits.payload t.1)

  -- all that are longer are answered alike
  would_over : (m n : ℕ) → 131072 < m → 131072 < n → would_transfer c m ≡ would_transfer c n
  would_over m n h k =
      either_way (eqb c.phase.state opened)
      (λ e. long m h (eqb-true _ _ e) ∙ sym (long n k (eqb-true _ _ e)))
      (λ e. would_state c m (eqb-false _ _ e) ∙ sym (would_state c n (eqb-false _ _ e)))
    where
      long : (n : ℕ) → 131072 < n → c.phase.state ≡ opened → would_transfer c n ≡ Refused refusal.Long
      long n k o =
          would_long c n _ refl o (segments_over c.limits.payload n c.limits.segments r.octet (omega (arith, unit_most)))

  -- so the largest number may stand for those past it
  pub would_capped : (n top : ℕ) → 131072 < top → would_transfer c (min n top) ≡ would_transfer c n
  would_capped n top h =
      either_way (leb n top)
      (λ e. ap (would_transfer c) (min-eq_left (leb-true _ _ e)))
      (λ e.
      let k : top < n = leb-false _ _ e in
      ap (would_transfer c) (min-eq_right (omega arith)) ∙ would_over top n h (omega arith))

  pub filed_size : (u : List ℕ) (size top : ℕ) → 131072 < top → is_accepted c (length (filed c.limits u)) ≡ true
      → size ≡ min (filed_count c.limits (length u)) top → size ≡ length (filed c.limits u)
  filed_size u size top h e is =
      is
      ∙ ap (λ (k : ℕ). min k top) (sym (filed_length c.limits u))
      ∙ min-eq_left (omega (arith, accepted_short (length (filed c.limits u)) e))

  -- what is asked of a unit, by how many octets are filed of it
  module _ (u : List ℕ) (size top : ℕ) (h : 131072 < top) (is : size ≡ min (filed_count c.limits (length u)) top) where
    pub would_filed : would_transfer c size ≡ would_transfer c (length (filed c.limits u))
    would_filed =
        ap (would_transfer c) is
        ∙ would_capped (filed_count c.limits (length u)) top h
        ∙ ap (would_transfer c) (sym (filed_length c.limits u))

    pub accepted_filed : is_accepted c (length (filed c.limits u)) ≡ is_accepted c size
    unfolding is_accepted
    accepted_filed = ap (λ (a : Answer). eqb (number_of a) 0) (sym would_filed)

    -- accepted, in so many segments
    pub filing : (count : ℕ) → would_transfer c size ≡ Done 0 0 → count ≡ segments_of c.limits.payload size
        → (is_accepted c (length (filed c.limits u)) ≡ true) × (count ≡ segments_of c.limits.payload (length (filed c.limits u)))
    filing count e n =
        let taken : is_accepted c (length (filed c.limits u)) ≡ true = accepted_filed ∙ accepted_by_lem c size (Done 0 0) e in
        (taken, n ∙ ap (segments_of c.limits.payload) (filed_size u size top h taken is))

-- the unit filed, from what the calls gave
pub filed_is : (c : Channel) (n count from ahead : ℕ) (marks acked : List ℕ)
    → count ≡ segments_of c.limits.payload n
    → from ≡ free_at c
    → ahead ≡ c.window.ahead + count
    → marks ≡ filed_marks c.limits.slots count c.marks count 0 from
    → acked ≡ cleared c.acked c.limits.slots count from
    → with_acked (with_marks (with_window c (longer c.window count)) marks) acked ≡ filed_unit c n
filed_is c n count from ahead marks acked ec ef ea em ek =
    ap₂ (λ (m a : List ℕ). with_acked (with_marks (with_window c (longer c.window count)) m) a)
    (em ∙ ap (λ (k : ℕ). filed_marks c.limits.slots count c.marks count 0 k) ef)
    (ek ∙ ap (λ (k : ℕ). cleared c.acked c.limits.slots count k) ef)
    ∙ ap
    (λ (k : ℕ).
    with_acked (with_marks (with_window c (longer c.window k)) (filed_marks c.limits.slots k c.marks k 0 (free_at c)))
    (cleared c.acked c.limits.slots k (free_at c)))
    ec

-- ---- a unit reclaimed

-- the oldest unit: each of its segments has at most P octets
pub unit_fits : (c : Channel) (mem lens : List ℕ) → Asked c mem lens → (n : ℕ) → n ≤ c.window.ahead
    → EachFits (slot_of c) c.limits.payload lens c.limits.slots n c.window.place
unit_fits c mem lens a n h i l = (mark_fits c lens a.standing i (omega arith)).1
