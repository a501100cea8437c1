-- Each call at the receiver keeps the invariant.
-- Assumes nothing.
use mathlib.Core.Path.{◌≡◌, refl, sym, ap, ◌∙◌, subst}
use mathlib.Core.Bool.{Bool, true, false}
use mathlib.Core.List.{List, [], ◌∷◌, ◌++◌, append_assoc}
use mathlib.Core.Logic.{◌⊎◌, inr, ⊎_elim}
use mathlib.Core.Option.{Option, none, some}
use Prim.Native.Nat.{ℕ, ◌+◌, ◌-◌, ◌≤◌, ◌<◌}
use native.Mathlib.Omega.{arith}
use borrow.Author.Tests.{ltb-true, ltb-false}
use lib.Dec.{leb, ltb}
use lib.ListN.{length, take, drop, get_or, length-drop}
use lib.Seq.{take-add}
use Rattle.protocol.specs.Numbers.{number_at, distance}
use Rattle.protocol.specs.Units.{DataUnit, Segment, blank, units, first_unit}
use Rattle.protocol.specs.Ends
use Rattle.protocol.specs.Ends.{Limits, Phase, rank, is_open, put}
use Rattle.protocol.specs.Sending.{Sender}
use Rattle.protocol.specs.Receiving
use Rattle.protocol.specs.Receiving.{Receiver, ReceiverCall, moved}
use Rattle.protocol.specs.History.{taken_by, acked_by}
use Rattle.protocol.specs.Delivery.{NotLate}
use Rattle.protocol.proofs.Distances.{near_is, far_old}
use Rattle.protocol.proofs.Cutting.{first_unit_whole}
use Rattle.protocol.proofs.Small.{none_some, open_early, put_cases, first_unit_le}
use Rattle.protocol.proofs.Moves.{Moved, move_keeps, stops}
use Rattle.protocol.proofs.Invariant.{Copy, Took, Inv}

module _
    (c : Limits) (acc : List DataUnit) (cnt : ℕ) (back tak : List DataUnit) (Out : ℕ → Segment → Type 0) (Back : ℕ → Type 0) (sender : Sender) (receiver : Receiver)
    (v : Inv c acc cnt back tak Out Back sender receiver) where
  pub control_keeps : (p : Phase) (b : Bool) → ltb (rank receiver.phase) (rank p) ≡ b
      → Inv c acc cnt back tak Out Back sender (Receiving.controlled b receiver p).0
  control_keeps p true e =
      record {
        book = v.book;
        window = v.window;
        link = v.link;
        copy = v.copy;
        gap =
            record {
              hole = v.gap.hole;
              low = v.gap.low;
              high = v.gap.high;
              silent = v.gap.silent;
              got = v.gap.got;
              early = λ z. v.gap.early (omega (arith, ltb-true (rank receiver.phase) (rank p) e));
            };
        took = v.took;
      }
  control_keeps p false e = v

  pub take_keeps : (l : List DataUnit) → Receiving.waiting receiver ≡ l
      → Inv c acc cnt back (taken_by ReceiverCall.take_unit (Receiving.taking l receiver).1 tak) Out Back sender (Receiving.taking l receiver).0
  take_keeps [] e = v
  take_keeps (u ∷ l) e =
      let d = drop receiver.oldest receiver.passed in
      let m = first_unit d in
      record {
        book = v.book;
        window = v.window;
        link = v.link;
        copy = v.copy;
        gap = v.gap;
        took =
            record {
              upto = omega (arith, first_unit_le d, length-drop receiver.oldest receiver.passed, v.took.upto);
              whole = λ r.
                  ap (λ (x : List Segment). units [] (x ++ r)) (take-add receiver.oldest m receiver.passed)
                  ∙ ap (units []) (append_assoc (take receiver.oldest receiver.passed) (take m d) r)
                  ∙ v.took.whole (take m d ++ r)
                  ∙ ap (tak ++◌) (first_unit_whole [] d u l e r)
                  ∙ sym (append_assoc tak (u ∷ []) (units [] r));
            };
      }

  -- A Data packet: o is the segment that it was handed out for.
  module _ (small : c.window ≤ 128) (o q : ℕ) (g : Segment) (real : Out o g) (number : q ≡ number_at o)
      (late : NotLate c (length receiver.passed) o) where
    abbrev far : ℕ
    far = distance q (number_at (length receiver.passed))

    abbrev Back' : ℕ → Type 0
    Back' j = (o ≡ j) ⊎ Back j

    before : o < length receiver.passed + c.window
    before = let w = v.window in let a = (v.link.packets o g real).0 in omega (arith, v.gap.low, v.gap.high)

    there : far < c.window → length receiver.passed + far ≡ o
    there p =
        let e : far ≡ distance (number_at o) (number_at (length receiver.passed)) = ap (λ (n : ℕ). distance n (number_at (length receiver.passed))) number in
        omega (arith, near_is (length receiver.passed) o c.window small before (omega arith) (omega arith))

    gone_by : c.window ≤ far → o < length receiver.passed
    gone_by p =
        let e : far ≡ distance (number_at o) (number_at (length receiver.passed)) = ap (λ (n : ℕ). distance n (number_at (length receiver.passed))) number in
        far_old (length receiver.passed) o c.window small before (omega arith) (omega arith)

    -- a repeat is acknowledged: the segment was had already
    again : is_open receiver.phase ≡ true → (receiver.filed o ≡ none → o < length receiver.passed) → Inv c acc cnt back tak Out Back' sender receiver
    again e had =
        let got : (j : ℕ) → Back' j → receiver.filed j ≡ none → j < length receiver.passed
        = λ j. ⊎_elim
        (λ p z. subst (λ (n : ℕ). n < length receiver.passed) p (had (ap receiver.filed p ∙ z)))
        (λ b z. v.gap.got j b z)
        in
        let empty : receiver.filed (length receiver.passed) ≡ none = v.gap.early (open_early receiver.phase e) in
        record {
          book = v.book;
          window = v.window;
          link =
              record {
                packets = v.link.packets;
                acks = λ j. ⊎_elim (λ p. subst (λ (n : ℕ). n < sender.next) p (v.link.packets o g real).0) (λ b. v.link.acks j b);
                marks = λ j t. inr (v.link.marks j t);
              };
          copy = v.copy;
          gap =
              record {
                hole = length receiver.passed;
                low = omega (arith, v.gap.low, v.gap.high);
                high = omega arith;
                silent = λ b. let z : length receiver.passed < length receiver.passed = got (length receiver.passed) b empty in omega arith;
                got = got;
                early = v.gap.early;
              };
          took = v.took;
        }

    -- the end goes inactive and nothing is filed
    closes : Inv c acc cnt back tak Out Back sender (record { phase = Ends.shut; passed = receiver.passed; oldest = receiver.oldest; filed = receiver.filed })
    closes =
        record {
          book = v.book;
          window = v.window;
          link = v.link;
          copy = v.copy;
          gap =
              record {
                hole = v.gap.hole;
                low = v.gap.low;
                high = v.gap.high;
                silent = v.gap.silent;
                got = v.gap.got;
                early = λ z. absurd (omega arith);
              };
          took = v.took;
        }

    outside_keeps : is_open receiver.phase ≡ true → o < length receiver.passed → (b : Bool)
        → Inv c acc cnt back tak Out (λ j. acked_by (ReceiverCall.arrival o q g) (Receiving.outside b receiver).1 j (Back j)) sender (Receiving.outside b receiver).0
    outside_keeps e p true = again e (λ _. p)
    outside_keeps e p false = closes

    -- the segment is filed, and the start moves
    module _ (e : is_open receiver.phase ≡ true) (i : ℕ) (at : i ≡ o) (new : receiver.filed i ≡ none) where
      abbrev f : ℕ → Option Segment
      f = put receiver.filed i (some g)

      same : (j : ℕ) (x : Segment) → f j ≡ some x → (j < sender.next) × (get_or sender.line j blank ≡ x)
      same j x t =
          ⊎_elim
          (λ p.
          let y : g ≡ x = cc (p.1, t) in
          subst (λ (n : ℕ). (n < sender.next) × (get_or sender.line n blank ≡ x)) (sym (p.0 ∙ at))
          ((v.link.packets o g real).0, (v.link.packets o g real).1 ∙ y))
          (λ p. v.copy.same j x (sym p.1 ∙ t))
          (put_cases receiver.filed i (some g) j)

      near : (j : ℕ) (x : Segment) → f j ≡ some x → j < length receiver.passed + c.window
      near j x t =
          ⊎_elim
          (λ p. omega (arith, p.0, at, before))
          (λ p. v.copy.near j x (sym p.1 ∙ t))
          (put_cases receiver.filed i (some g) j)

      -- what is not filed now was not filed before, and is another segment
      absent : (j : ℕ) → f j ≡ none → (receiver.filed j ≡ none) × (o ≡ j → ⊥)
      absent j t =
          ⊎_elim
          (λ p. absurd (none_some t p.1))
          (λ p. (sym p.1 ∙ t, λ y. p.0 (sym (at ∙ y))))
          (put_cases receiver.filed i (some g) j)

      filing_keeps : (r : List Segment) → Moved c sender.line sender.next receiver.passed r
          → (b : Bool) → (b ≡ true → f (length r) ≡ none)
          → Inv c acc cnt back tak Out (λ j. acked_by (ReceiverCall.arrival o q g) (Receiving.moved_answer b receiver f r).1 j (Back j)) sender (Receiving.moved_answer b receiver f r).0
      filing_keeps r m b end =
          let copied : Copy c sender.line sender.next r f
          = record {
            prefix = m.prefix;
            inside = m.inside;
            same = same;
            near = λ j x t. omega (arith, near j x t, m.longer);
          }
          in
          let kept : Took c tak r receiver.oldest
          = record {
            upto = omega (arith, v.took.upto, m.longer);
            whole = λ x. ap (λ (y : List Segment). units [] (y ++ x)) (m.keeps receiver.oldest v.took.upto) ∙ v.took.whole x;
          }
          in
          let low : sender.start ≤ length receiver.passed = omega (arith, v.gap.low, v.gap.high) in
          let old : (j : ℕ) → Back j → f j ≡ none → j < length r
          = λ j y t. let z : j < length receiver.passed = v.gap.got j y (absent j t).0 in omega (arith, m.longer)
          in
          let empty : receiver.filed (length receiver.passed) ≡ none = v.gap.early (open_early receiver.phase e) in
          let go = λ (t : Bool). elim t as
          (λ t. b ≡ t
          → Inv c acc cnt back tak Out (λ j. acked_by (ReceiverCall.arrival o q g) (Receiving.moved_answer t receiver f r).1 j (Back j)) sender (Receiving.moved_answer t receiver f r).0) [
            | true ↦ λ y.
                let got : (j : ℕ) → Back' j → f j ≡ none → j < length r
                = λ j. ⊎_elim (λ p z. absurd ((absent j z).1 p)) (λ x z. old j x z)
                in
                record {
                  book = v.book;
                  window = v.window;
                  link =
                      record {
                        packets = v.link.packets;
                        acks = λ j. ⊎_elim (λ p. subst (λ (n : ℕ). n < sender.next) p (v.link.packets o g real).0) (λ x. v.link.acks j x);
                        marks = λ j x. inr (v.link.marks j x);
                      };
                  copy = copied;
                  gap =
                      record {
                        hole = length r;
                        low = omega (arith, m.longer);
                        high = omega arith;
                        silent = λ x. let z : length r < length r = got (length r) x (end y) in omega arith;
                        got = got;
                        early = λ _. end y;
                      };
                  took = kept;
                }
            | false ↦ λ y.
                record {
                  book = v.book;
                  window = v.window;
                  link = v.link;
                  copy = copied;
                  gap =
                      record {
                        hole = length receiver.passed;
                        low = low;
                        high = m.longer;
                        silent = λ x. let z : length receiver.passed < length receiver.passed = v.gap.got (length receiver.passed) x empty in omega arith;
                        got = old;
                        early = λ z. absurd (omega arith);
                      };
                  took = kept;
                }
          ]
          in go b refl

      placing_keeps : (b : Bool)
          → Inv c acc cnt back tak Out (λ j. acked_by (ReceiverCall.arrival o q g) (Receiving.placed c b receiver i g).1 j (Back j)) sender (Receiving.placed c b receiver i g).0
      placing_keeps false = v
      placing_keeps true =
          filing_keeps
          (moved c c.window f receiver.passed).0
          (move_keeps c sender.line sender.next v.window.filled f same c.window receiver.passed v.copy.prefix v.copy.inside)
          (moved c c.window f receiver.passed).1
          (stops c sender.line sender.next f c.window receiver.passed near)

    in_window_keeps : is_open receiver.phase ≡ true → (i : ℕ) → i ≡ o → (x : Option Segment) → receiver.filed i ≡ x
        → Inv c acc cnt back tak Out (λ j. acked_by (ReceiverCall.arrival o q g) (Receiving.in_window c x receiver i g).1 j (Back j)) sender (Receiving.in_window c x receiver i g).0
    in_window_keeps e i at (some x) t = again e (λ z. absurd (none_some z (ap receiver.filed (sym at) ∙ t)))
    in_window_keeps e i at none t = placing_keeps e i at t (ltb i (receiver.oldest + c.slots))

    sorting_keeps : is_open receiver.phase ≡ true → (b : Bool) → ltb far c.window ≡ b
        → Inv c acc cnt back tak Out (λ j. acked_by (ReceiverCall.arrival o q g) (Receiving.sorted c b receiver far g).1 j (Back j)) sender (Receiving.sorted c b receiver far g).0
    sorting_keeps e true t =
        in_window_keeps e (length receiver.passed + far) (there (ltb-true far c.window t)) (receiver.filed (length receiver.passed + far)) refl
    sorting_keeps e false t = outside_keeps e (gone_by (ltb-false far c.window t)) (leb (256 - c.window) far)

    pub arrival_keeps : (b : Bool) → is_open receiver.phase ≡ b
        → Inv c acc cnt back tak Out (λ j. acked_by (ReceiverCall.arrival o q g) (Receiving.arrived c b receiver far g).1 j (Back j)) sender (Receiving.arrived c b receiver far g).0
    arrival_keeps false e = v
    arrival_keeps true e = sorting_keeps e (ltb far c.window) refl
