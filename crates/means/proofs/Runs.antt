-- Where the segments of a list lie one after another round the ring, the walks over marks and octets give what the protocol reads from the list.
-- Assumes nothing.
use mathlib.Core.Path.{◌≡◌, refl, sym, ap, ◌∙◌}
use mathlib.Core.Bool.{Bool, true, false}
use mathlib.Core.List.{List, [], ◌∷◌, ◌++◌, append_assoc, append-nil}
use mathlib.Core.Option.{Option, none, some}
use Prim.Native.Nat.{ℕ, zero, suc, ◌+◌, ◌≤◌, ◌<◌}
use native.Mathlib.Omega.{arith}
use lib.Dec.{eqb}
use lib.ListN.{length, get_or}
use Rattle.laws.specs.Choice.{if◌then◌else◌}
use Rattle.slots.specs.Ring.{round_of}
use Rattle.slots.proofs.RingLaws.{round_lt, first_place, next_place}
use Rattle.slots.specs.Marks.{ends}
use Rattle.channel.specs.Places.{slot_of}
use Rattle.store.specs.Store.{unit_of, ends_in, last_with, last_end_in, octets_in}
use Rattle.channel.specs.declared.record.Channel.{Channel}
use Rattle.protocol.specs.Units.{DataUnit, Segment, blank, units, endings, whole_to, one_more, first_unit}
use Rattle.protocol.proofs.Small.{none_some}
use Rattle.means.specs.Held.{octets_at, units_in}
use Rattle.means.specs.Meaning.{segment_by, lying}

nothing_some : (u : DataUnit) (us : List DataUnit) → ◌≡◌ {A = List DataUnit} [] (u ∷ us) → ⊥
nothing_some u us e = let z : ◌≡◌ {A = ℕ} 0 1 = cc in omega arith

-- ---- one place

pub record Filed (c : Channel) (mem lens : List ℕ) (place : ℕ) (g : Segment) : Type 0 where
  pub used : eqb (get_or c.marks place 0) 0 ≡ false
  pub is : segment_by (get_or c.marks place 0) (octets_at c mem lens place) ≡ g

abbrev inside : Option Segment → Segment
inside none = blank
inside (some g) = g

filed_by_lem : (c : Channel) (mem lens : List ℕ) (place : ℕ) (g : Segment) (b : Bool) → eqb (get_or c.marks place 0) 0 ≡ b
    → ◌≡◌ {A = Option Segment} (if b then none else some (segment_by (get_or c.marks place 0) (octets_at c mem lens place))) (some g)
    → Filed c mem lens place g
filed_by_lem c mem lens place g true e q = absurd (none_some refl q)
filed_by_lem c mem lens place g false e q = record { used = e; is = ap inside q }

pub lying_filed : (c : Channel) (mem lens : List ℕ) (place : ℕ) (g : Segment) → lying c mem lens place ≡ some g → Filed c mem lens place g
unfolding lying
lying_filed c mem lens place g q = filed_by_lem c mem lens place g (eqb (get_or c.marks place 0) 0) refl q

pub filed_lying : (c : Channel) (mem lens : List ℕ) (place : ℕ) (g : Segment) → Filed c mem lens place g → lying c mem lens place ≡ some g
unfolding lying
filed_lying c mem lens place g f = simp f.used (ap some f.is)

-- ---- a list of segments from a place on

abbrev pub Lies : Channel → List ℕ → List ℕ → ℕ → List Segment → Type 0
Lies c mem lens from l = (j : ℕ) → j < length l → lying c mem lens (round_of c.limits.slots (from + j)) ≡ some (get_or l j blank)

module _ (c : Channel) (mem lens : List ℕ) where
  abbrev slots : ℕ
  slots = c.limits.slots

  abbrev marks : List ℕ
  marks = c.marks

  after_lt : (from : ℕ) → from < slots → round_of slots (from + 1) < slots
  after_lt from p = round_lt slots (from + 1) (omega arith)

  pub lies_first : (from : ℕ) (g : Segment) (l : List Segment) → from < slots → Lies c mem lens from (g ∷ l) → Filed c mem lens from g
  lies_first from g l p h =
      lying_filed c mem lens from g (ap (lying c mem lens) (sym (first_place slots from p)) ∙ h 0 (omega arith))

  pub lies_rest : (from : ℕ) (g : Segment) (l : List Segment) → from < slots → length l < slots → Lies c mem lens from (g ∷ l)
      → Lies c mem lens (round_of slots (from + 1)) l
  lies_rest from g l p b h = λ j q.
      ap (lying c mem lens) (next_place slots from j p (omega arith)) ∙ h (suc j) (omega arith)

  -- ---- the units that end there

  pub run_units : (l : List Segment) (part : DataUnit) (from : ℕ) → from < slots → length l ≤ slots → Lies c mem lens from l
      → units_in c mem lens part (length l) from ≡ units part l
  unfolding units_in
  run_units [] part from p b h = refl
  run_units (g ∷ l) part from p b h =
      let f = lies_first from g l p h in
      let next = round_of slots (from + 1) in
      let go : (rest : DataUnit) → units_in c mem lens rest (length l) next ≡ units rest l
      = λ rest. run_units l rest next (after_lt from p) (omega arith) (lies_rest from g l p (omega arith) h)
      in
      let last : ends (get_or marks from 0) ≡ g.last = ap (λ (x : Segment). x.last) f.is in
      let octets : octets_at c mem lens from ≡ g.octets = ap (λ (x : Segment). x.octets) f.is in
      let step = λ (t : Bool). elim t as
      (λ t. (if t
      then (part ++ g.octets) ∷ units_in c mem lens [] (length l) next
      else units_in c mem lens (part ++ g.octets) (length l) next)
      ≡ (if t then (part ++ g.octets) ∷ units [] l else units (part ++ g.octets) l)) [ true ↦ ap ((part ++ g.octets) ∷◌) (go []) | false ↦ go (part ++ g.octets) ]
      in simp (last, octets) (step g.last)

  -- ---- the first of them: how many segments it has, and its octets

  pub record First (part : DataUnit) (l : List Segment) (from : ℕ) (u : DataUnit) : Type 0 where
    pub count : unit_of marks slots (length l) from ≡ first_unit l
    pub octets : part ++ octets_in (slot_of c) c.limits.payload mem lens slots (first_unit l) from ≡ u
    pub some : 1 ≤ first_unit l

  one_more_lem : (m : ℕ) → 1 ≤ m → one_more m ≡ suc m
  one_more_lem zero h = omega arith
  one_more_lem (suc m) h = refl

  first_by_lem : (t : Bool) (part : DataUnit) (g : Segment) (l : List Segment) (from : ℕ) (u : DataUnit) (us : List DataUnit)
      → ends (get_or marks from 0) ≡ t
      → g.last ≡ t
      → octets_at c mem lens from ≡ g.octets
      → (if t then (part ++ g.octets) ∷ units [] l else units (part ++ g.octets) l) ≡ u ∷ us
      → (units (part ++ g.octets) l ≡ u ∷ us → First (part ++ g.octets) l (round_of slots (from + 1)) u)
      → First part (g ∷ l) from u
  unfolding unit_of octets_in
  first_by_lem true part g l from u us a b o e rest =
      let one : first_unit (g ∷ l) ≡ 1 = simp (b) in
      let is : part ++ g.octets ≡ u = cc in
      record {
        count = simp (a, b);
        octets =
            ap (λ (m : ℕ). part ++ octets_in (slot_of c) c.limits.payload mem lens slots m from) one
            ∙ ap (part ++◌) (append-nil (octets_at c mem lens from) ∙ o)
            ∙ is;
        some = omega (arith, one);
      }
  first_by_lem false part g l from u us a b o e rest =
      let r = rest e in
      let more : first_unit (g ∷ l) ≡ suc (first_unit l) = ap (λ (t : Bool). if t then 1 else one_more (first_unit l)) b ∙ one_more_lem (first_unit l) r.some in
      let next : ℕ = round_of slots (from + 1) in
      let tail : List ℕ = octets_in (slot_of c) c.limits.payload mem lens slots (first_unit l) next in
      record {
        count =
            ap (λ (t : Bool). if t then 1 else suc (unit_of marks slots (length l) next)) a
            ∙ ap suc r.count
            ∙ sym more;
        octets =
            ap (λ (m : ℕ). part ++ octets_in (slot_of c) c.limits.payload mem lens slots m from) more
            ∙ ap (λ (x : List ℕ). part ++ (x ++ tail)) o
            ∙ sym (append_assoc part g.octets tail)
            ∙ r.octets;
        some = omega (arith, more);
      }

  pub run_first : (l : List Segment) (part : DataUnit) (from : ℕ) (u : DataUnit) (us : List DataUnit) → from < slots → length l ≤ slots
      → Lies c mem lens from l → units part l ≡ u ∷ us → First part l from u
  run_first [] part from u us p b h e = absurd (nothing_some u us e)
  run_first (g ∷ l) part from u us p b h e =
      let f = lies_first from g l p h in
      let last : ends (get_or marks from 0) ≡ g.last = ap (λ (x : Segment). x.last) f.is in
      let octets : octets_at c mem lens from ≡ g.octets = ap (λ (x : Segment). x.octets) f.is in
      first_by_lem g.last part g l from u us last refl octets e
      (λ q. run_first l (part ++ g.octets) (round_of slots (from + 1)) u us (after_lt from p) (omega arith) (lies_rest from g l p (omega arith) h) q)

  -- ---- how many end there, and up to where

  pub run_endings : (l : List Segment) (from : ℕ) → from < slots → length l ≤ slots → Lies c mem lens from l
      → ends_in marks slots (length l) from ≡ endings l
  unfolding ends_in
  run_endings [] from p b h = refl
  run_endings (g ∷ l) from p b h =
      let f = lies_first from g l p h in
      let next = round_of slots (from + 1) in
      let rest = run_endings l next (after_lt from p) (omega arith) (lies_rest from g l p (omega arith) h) in
      let last : ends (get_or marks from 0) ≡ g.last = ap (λ (x : Segment). x.last) f.is in
      let step = λ (t : Bool). elim t as
      (λ t. (if t then 1 else 0) + ends_in marks slots (length l) next ≡ (if t then suc (endings l) else endings l)) [ true ↦ omega (arith, rest) | false ↦ omega (arith, rest) ]
      in ap (λ (t : Bool). (if t then 1 else 0) + ends_in marks slots (length l) next) last ∙ step g.last

  -- the index past the last end, from the index `at` of the first: b if none ends
  abbrev pub whole_by : ℕ → ℕ → ℕ → ℕ
  whole_by b at zero = b
  whole_by b at (suc k) = at + suc k

  pub run_whole : (l : List Segment) (b at from : ℕ) → from < slots → length l ≤ slots → Lies c mem lens from l
      → whole_to b at l ≡ whole_by b at (last_end_in marks slots (length l) from)
  unfolding last_end_in
  run_whole [] b at from p few h = refl
  run_whole (g ∷ l) b at from p few h =
      let f = lies_first from g l p h in
      let next : ℕ = round_of slots (from + 1) in
      let last : ends (get_or marks from 0) ≡ g.last = ap (λ (x : Segment). x.last) f.is in
      let r : ℕ = last_end_in marks slots (length l) next in
      let rest : (b2 : ℕ) → whole_to b2 (suc at) l ≡ whole_by b2 (suc at) r
      = λ b2. run_whole l b2 (suc at) next (after_lt from p) (omega arith) (lies_rest from g l p (omega arith) h)
      in
      let step = λ (t : Bool). elim t as (λ t. (k : ℕ) → (if t then whole_by (suc at) (suc at) k else whole_by b (suc at) k) ≡ whole_by b at (last_with t k)) [
        | true ↦ λ k. elim k as (λ k. whole_by (suc at) (suc at) k ≡ whole_by b at (last_with true k)) [ zero ↦ (omega arith) | suc k ↦ (omega arith) ]
        | false ↦ λ k. elim k as (λ k. whole_by b (suc at) k ≡ whole_by b at (last_with false k)) [ zero ↦ refl | suc k ↦ (omega arith) ]
      ]
      in
      let two = λ (t : Bool). elim t as
      (λ t. (if t then whole_to (suc at) (suc at) l else whole_to b (suc at) l) ≡ (if t then whole_by (suc at) (suc at) r else whole_by b (suc at) r)) [ true ↦ rest (suc at) | false ↦ rest b ]
      in
      two g.last ∙ step g.last r ∙ ap (λ (t : Bool). whole_by b at (last_with t r)) (sym last)
