-- The unit on the way at the receiver has fewer than M segments, whatever arrives.
-- Assumes nothing.
use mathlib.Core.Path.{◌≡◌, refl, sym, ap, ◌∙◌}
use mathlib.Core.Bool.{Bool, true, false, not, ◌||◌}
use mathlib.Core.List.{List, [], ◌∷◌, ◌++◌}
use mathlib.Core.Option.{Option, none, some}
use Prim.Native.Nat.{ℕ, zero, suc, ◌+◌, ◌-◌, ◌≤◌, ◌<◌}
use native.Mathlib.Omega.{arith}
use borrow.Author.Tests.{ltb-true}
use lib.Dec.{leb, ltb, eqb}
use lib.ListN.{length, take, drop, length-drop, take-append-drop}
use Rattle.laws.specs.Choice.{if◌then◌else◌}
use Rattle.laws.proofs.Choice.{both}
use Rattle.protocol.specs.Numbers.{number_at, distance}
use Rattle.protocol.specs.Units.{DataUnit, Segment, endings, on_way, fitting}
use Rattle.protocol.specs.Ends.{Limits, Phase, rank, is_open, put}
use Rattle.protocol.specs.Receiving
use Rattle.protocol.specs.Receiving.{Receiver, ReceiverCall, start_of, waiting, moved_past, moved, receiver_step}
use Rattle.protocol.specs.History.{Call, at_sender, at_receiver}
use Rattle.protocol.specs.Delivery.{Run, begin, step, run}
use Rattle.protocol.specs.Windows.{OneUnitBehind}
use Rattle.protocol.proofs.Cutting.{length_units}

on_way_append : (n : ℕ) (p q : List Segment) → on_way n (p ++ q) ≡ on_way (on_way n p) q
on_way_append n [] q = refl
on_way_append n (g ∷ p) q =
    elim g.last as
    (λ t. (if t then on_way 0 (p ++ q) else on_way (suc n) (p ++ q)) ≡ on_way (if t then on_way 0 p else on_way (suc n) p) q) [
      | true ↦ on_way_append 0 p q
      | false ↦ on_way_append (suc n) p q
    ]

-- where no unit ends, all segments are on the way
on_way_all : (n : ℕ) (q : List Segment) → endings q ≡ 0 → on_way n q ≡ n + length q
on_way_all n [] e = omega arith
on_way_all n (g ∷ q) e =
    let go = λ (t : Bool). elim t as (λ t. (if t then suc (endings q) else endings q) ≡ 0 → (if t then on_way 0 q else on_way (suc n) q) ≡ n + suc (length q)) [
      | true ↦ λ p. absurd (omega arith)
      | false ↦ λ p. omega (arith, on_way_all (suc n) q p)
    ]
    in go g.last e

module _ (c : Limits) (some-segments : 1 ≤ c.segments) where
  abbrev Short : List Segment → Type 0
  Short l = on_way 0 l < c.segments

  one_more_lem : (l : List Segment) (g : Segment) → fitting c.segments (on_way 0 l) g ≡ true → Short (l ++ (g ∷ []))
  one_more_lem l g e =
      let n = on_way 0 l in
      let second : (g.last || ltb (suc n) c.segments) ≡ true
      = (both (if eqb n 0 then g.first else not g.first) (g.last || ltb (suc n) c.segments) e).1
      in
      let go = λ (t : Bool). elim t as (λ t. (t || ltb (suc n) c.segments) ≡ true → (if t then 0 else suc n) < c.segments) [
        | true ↦ λ p. omega arith
        | false ↦ λ p. ltb-true (suc n) c.segments p
      ]
      in
      let h : (if g.last then 0 else suc n) < c.segments = go g.last second in
      omega (arith, on_way_append 0 l (g ∷ []), h)

  moved_short : (n : ℕ) (f : ℕ → Option Segment) (l : List Segment) → Short l → Short (moved c n f l).0
  moved_short zero f l h = h
  moved_short (suc n) f l h =
      let fit = λ (g : Segment) (b : Bool). elim b as
      (λ b. fitting c.segments (on_way 0 l) g ≡ b → Short (if b then moved c n f (l ++ (g ∷ [])) else (l, false)).0) [
        | true ↦ λ e. moved_short n f (l ++ (g ∷ [])) (one_more_lem l g e)
        | false ↦ λ e. h
      ]
      in
      let go = λ (o : Option Segment). elim o as
      (λ o. Short (moved_past c o (λ g. moved c n f (l ++ (g ∷ []))) l).0) [ none ↦ h | some g ↦ fit g (fitting c.segments (on_way 0 l) g) refl ]
      in go (f (length l))

  module _ (r : Receiver) (h : Short r.passed) where
    settled_short : (b : Bool) (f : ℕ → Option Segment) (l : List Segment) → Short l → Short (Receiving.moved_answer b r f l).0.passed
    settled_short true f l p = p
    settled_short false f l p = p

    placed_short : (b : Bool) (i : ℕ) (g : Segment) → Short (Receiving.placed c b r i g).0.passed
    placed_short false i g = h
    placed_short true i g =
        let f : ℕ → Option Segment = put r.filed i (some g) in
        let m = moved c c.window f r.passed in
        settled_short m.1 f m.0 (moved_short c.window f r.passed h)

    in_window_short : (o : Option Segment) (i : ℕ) (g : Segment) → Short (Receiving.in_window c o r i g).0.passed
    in_window_short (some x) i g = h
    in_window_short none i g = placed_short (ltb i (r.oldest + c.slots)) i g

    outside_short : (b : Bool) → Short (Receiving.outside b r).0.passed
    outside_short true = h
    outside_short false = h

    sorted_short : (b : Bool) (d : ℕ) (g : Segment) → Short (Receiving.sorted c b r d g).0.passed
    sorted_short true d g = in_window_short (r.filed (start_of r + d)) (start_of r + d) g
    sorted_short false d g = outside_short (leb (256 - c.window) d)

    arrived_short : (b : Bool) (d : ℕ) (g : Segment) → Short (Receiving.arrived c b r d g).0.passed
    arrived_short false d g = h
    arrived_short true d g = sorted_short (ltb d c.window) d g

    taking_short : (l : List DataUnit) → Short (Receiving.taking l r).0.passed
    taking_short [] = h
    taking_short (u ∷ l) = h

    controlled_short : (b : Bool) (p : Phase) → Short (Receiving.controlled b r p).0.passed
    controlled_short false p = h
    controlled_short true p = h

    step_short : (x : ReceiverCall) → Short (receiver_step c r x).0.passed
    step_short (ReceiverCall.control p) = controlled_short (ltb (rank r.phase) (rank p)) p
    step_short (ReceiverCall.arrival i q g) = arrived_short (is_open r.phase) (distance q (number_at (start_of r))) g
    step_short ReceiverCall.take_unit = taking_short (waiting r)
    step_short ReceiverCall.noise = h

  stays_short : (w : Run) (l : List Call) → Short w.receiver.passed → Short (run c w l).receiver.passed
  stays_short w [] h = h
  stays_short w (at_sender x ∷ l) h = stays_short (step c w (at_sender x)) l h
  stays_short w (at_receiver x ∷ l) h = stays_short (step c w (at_receiver x)) l (step_short w.receiver h x)

  behind : (r : Receiver) → Short r.passed → OneUnitBehind c r
  behind r h e =
      let d = drop r.oldest r.passed in
      let none_ends : endings d ≡ 0 = sym (length_units [] d) ∙ ap length e in
      let split : on_way 0 r.passed ≡ on_way (on_way 0 (take r.oldest r.passed)) d
      = ap (on_way 0) (sym (take-append-drop r.oldest r.passed)) ∙ on_way_append 0 (take r.oldest r.passed) d
      in
      omega (arith, on_way_all (on_way 0 (take r.oldest r.passed)) d none_ends, length-drop r.oldest r.passed)

  pub one_unit_behind : (l : List Call) → OneUnitBehind c (run c begin l).receiver
  one_unit_behind l = let z : Short [] = omega arith in behind (run c begin l).receiver (stays_short begin l z)
