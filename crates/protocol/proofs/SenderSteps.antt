-- Each call at the sender keeps the invariant.
-- Assumes nothing.
use mathlib.Core.Path.{◌≡◌, refl, sym, ap, ◌∙◌, subst}
use mathlib.Core.Bool.{Bool, true, false, not}
use mathlib.Core.List.{List, [], ◌∷◌, ◌++◌, append_assoc}
use mathlib.Core.Logic.{⊎_elim}
use Prim.Native.Nat.{ℕ, suc, ◌+◌, ◌-◌, ◌≤◌, ◌<◌}
use native.Mathlib.Omega.{arith}
use native.Mathlib.Nat.{zero-add}
use borrow.Author.Tests.{ltb-true, leb-true, eqb-true, eqb-false}
use lib.Dec.{leb, ltb, eqb}
use lib.ListN.{length, take, drop, get_or, length-append, take-append-drop, get_or-append}
use lib.Seq.{take-append-le, take-add, drop-drop, length-take-le}
use Rattle.laws.specs.Choice.{if◌then◌else◌}
use Rattle.protocol.specs.Numbers.{number_at, distance}
use Rattle.protocol.specs.Units.{DataUnit, Segment, blank, cut, units, endings, whole_to, first_unit}
use Rattle.protocol.specs.Ends
use Rattle.protocol.specs.Ends.{Limits, Phase, rank, is_open, is_shut, put}
use Rattle.protocol.specs.Sending
use Rattle.protocol.specs.Sending.{Sender, SenderCall, advance}
use Rattle.protocol.specs.Receiving.{Receiver}
use Rattle.protocol.specs.History.{accepted_by, confirmed_by, reclaimed_by, sent_by}
use Rattle.protocol.specs.Delivery.{NotLate}
use Rattle.protocol.proofs.Distances.{near_is}
use Rattle.protocol.proofs.Cutting.{cuts_snoc, endings_append, whole_to_append, first_unit_whole}
use Rattle.protocol.proofs.Small.{both3, both6, not_true, yes_no, not_shut, open_not_shut, put_cases, advance_up, advance_stop}
use Rattle.protocol.proofs.Invariant.{Inv}

module _
    (c : Limits) (acc : List DataUnit) (cnt : ℕ) (back tak : List DataUnit) (Out : ℕ → Segment → Type 0) (Back : ℕ → Type 0) (sender : Sender) (receiver : Receiver)
    (v : Inv c acc cnt back tak Out Back sender receiver) where
  pub control_keeps : (p : Phase) (b : Bool) → ltb (rank sender.phase) (rank p) ≡ b
      → Inv c acc cnt back tak Out Back (Sending.controlled b sender p).0 receiver
  control_keeps p true e =
      record {
        book =
            record {
              cut_all = v.book.cut_all;
              counted = v.book.counted;
              live = λ _. v.book.live (not_shut sender.phase p e);
              given = v.book.given;
            };
        window = v.window;
        link = v.link;
        copy = v.copy;
        gap = v.gap;
        took = v.took;
      }
  control_keeps p false e = v

  pub transfer_keeps : (u : DataUnit) (o m r : Bool) → is_open sender.phase ≡ o
      → Inv c (accepted_by (SenderCall.transfer u) (Sending.transferred o m r sender (cut c.payload u)).1 acc) cnt back tak Out Back (Sending.transferred o m r sender (cut c.payload u)).0 receiver
  transfer_keeps u false m r e = v
  transfer_keeps u true false r e = v
  transfer_keeps u true true false e = v
  transfer_keeps u true true true e =
      let x = cut c.payload u in
      let w = v.window in
      let low : sender.start ≤ length sender.line = omega arith in
      let t : take sender.start (sender.line ++ x) ≡ take sender.start sender.line = take-append-le sender.start sender.line x low in
      let lv : (back ≡ []) × (sender.oldest ≡ whole_to 0 0 (take sender.start sender.line)) = v.book.live (open_not_shut sender.phase e) in
      let b : sender.oldest ≡ whole_to 0 0 (take sender.start (sender.line ++ x)) = lv.1 ∙ ap (whole_to 0 0) (sym t) in
      let len : length (sender.line ++ x) ≡ length sender.line + length x = length-append sender.line x in
      let old : (i : ℕ) (g : Segment) → (i < sender.next) × (get_or sender.line i blank ≡ g) → (i < sender.next) × (get_or (sender.line ++ x) i blank ≡ g)
      = λ i g p. (p.0, get_or-append sender.line x blank i (omega arith) ∙ p.1)
      in
      record {
        book =
            record {
              cut_all = ap (◌++ x) v.book.cut_all ∙ sym (cuts_snoc c.payload acc u);
              counted = v.book.counted ∙ ap endings (sym t);
              live = λ _. (lv.0, b);
              given = ap (◌++ units [] (drop sender.oldest (sender.line ++ x))) lv.0 ∙ ap (λ (n : ℕ). units [] (drop n (sender.line ++ x))) b;
            };
        window = record { order = w.order; within = w.within; filled = omega arith };
        link =
            record {
              packets = λ i g q. old i g (v.link.packets i g q);
              acks = v.link.acks;
              marks = v.link.marks;
            };
        copy =
            record {
              prefix = v.copy.prefix ∙ sym (take-append-le (length receiver.passed) sender.line x (omega arith));
              inside = v.copy.inside;
              same = λ i g q. old i g (v.copy.same i g q);
              near = v.copy.near;
            };
        gap = v.gap;
        took = v.took;
      }

  pub next_keeps : (i : ℕ) (b : Bool) → Sending.may_hand_out c sender i ≡ b
      → Inv c acc cnt back tak (λ j g. sent_by (SenderCall.hand_out i) (Sending.handed_out b sender i).1 j g (Out j g)) Back (Sending.handed_out b sender i).0 receiver
  next_keeps i false e = v
  next_keeps i true e =
      let all =
      both6
      (is_open sender.phase)
      (leb sender.start i)
      (ltb i (sender.start + c.window))
      (ltb i (length sender.line))
      (leb i sender.next)
      (not (sender.acked i))
      e
      in
      let w = v.window in
      let to : ℕ = (if (eqb i sender.next) then suc i else sender.next) in
      let go = λ (t : Bool). elim t as
      (λ t. eqb i sender.next ≡ t
      → (i < (if t then suc i else sender.next))
      × (sender.next ≤ (if t then suc i else sender.next))
      × ((if t then suc i else sender.next) ≤ sender.start + c.window)
      × ((if t then suc i else sender.next) ≤ length sender.line)) [
        | true ↦ λ q. omega (arith, ltb-true, leb-true, eqb-true i sender.next q)
        | false ↦ λ q. let apart : i ≡ sender.next → ⊥ = eqb-false i sender.next q in omega (arith, ltb-true, leb-true)
      ]
      in
      let f : (i < to) × (sender.next ≤ to) × (to ≤ sender.start + c.window) × (to ≤ length sender.line) = go (eqb i sender.next) refl in
      let up : (j : ℕ) → j < sender.next → j < to = λ j q. omega arith in
      record {
        book = v.book;
        window = record { order = omega arith; within = f.2; filled = f.3 };
        link =
            record {
              packets = λ j g. ⊎_elim (λ q. (omega (arith, q.0, f), ap (λ (n : ℕ). get_or sender.line n blank) (sym q.0) ∙ q.1)) (λ q. (up j (v.link.packets j g q).0, (v.link.packets j g q).1));
              acks = λ j q. up j (v.link.acks j q);
              marks = v.link.marks;
            };
        copy =
            record {
              prefix = v.copy.prefix;
              inside = omega arith;
              same = λ j g q. (up j (v.copy.same j g q).0, (v.copy.same j g q).1);
              near = v.copy.near;
            };
        gap = v.gap;
        took = v.took;
      }

  -- A Data Ack: o is the segment that it answers.
  module _ (small : c.window ≤ 128) (o q : ℕ) (real : Back o) (number : q ≡ number_at o) (late : NotLate c sender.start o) where
    there : distance q (number_at sender.start) < c.window → sender.start + distance q (number_at sender.start) ≡ o
    there p =
        let w = v.window in
        let a : o < sender.next = v.link.acks o real in
        let e : distance q (number_at sender.start) ≡ distance (number_at o) (number_at sender.start) = ap (λ (n : ℕ). distance n (number_at sender.start)) number in
        omega (arith, near_is sender.start o c.window small (omega arith) (omega arith) (omega arith))

    pub ack_keeps : (b t : Bool) → is_open sender.phase ≡ b → Sending.is_awaited c sender (distance q (number_at sender.start)) ≡ t
        → let i = sender.start + distance q (number_at sender.start) in
        Inv c acc (confirmed_by (SenderCall.ack o q) (Sending.acknowledged c b t sender i).1 cnt) back tak Out Back (Sending.acknowledged c b t sender i).0 receiver
    ack_keeps false t e m = v
    ack_keeps true false e m = v
    ack_keeps true true e m =
        let d : ℕ = distance q (number_at sender.start) in
        let i : ℕ = sender.start + d in
        let all = both3 (ltb d c.window) (ltb i sender.next) (not (sender.acked i)) m in
        let at : i ≡ o = there (ltb-true d c.window all.0) in
        let w = v.window in
        let mk : ℕ → Bool = put sender.acked i true in
        let marks : (j : ℕ) → mk j ≡ true → Back j
        = λ j t. ⊎_elim
        (λ p. subst Back (sym (p.0 ∙ at)) real)
        (λ p. v.link.marks j (sym p.1 ∙ t))
        (put_cases sender.acked i true j)
        in
        let to : ℕ = advance c.window mk sender.start in
        let up : sender.start ≤ to = advance_up c.window mk sender.start in
        let hole : ℕ = v.gap.hole in
        let low : to ≤ hole
        = advance_stop c.window mk sender.start hole v.gap.low (not_true (mk hole) (λ t. v.gap.silent (marks hole t)))
        in
        let most : to ≤ sender.next
        = advance_stop
        c.window
        mk
        sender.start
        sender.next
        w.order
        (not_true (mk sender.next) (λ t. let z : sender.next < sender.next = v.link.acks sender.next (marks sender.next t) in omega arith))
        in
        let gone : List Segment = take (to - sender.start) (drop sender.start sender.line) in
        let sum : to ≡ sender.start + (to - sender.start) = omega arith in
        let part : take to sender.line ≡ take sender.start sender.line ++ gone
        = ap (λ (n : ℕ). take n sender.line) sum ∙ take-add sender.start (to - sender.start) sender.line
        in
        let lv : (back ≡ []) × (sender.oldest ≡ whole_to 0 0 (take sender.start sender.line)) = v.book.live (open_not_shut sender.phase e) in
        let len : 0 + length (take sender.start sender.line) ≡ sender.start
        = zero-add (length (take sender.start sender.line)) ∙ length-take-le sender.start sender.line (omega arith)
        in
        let b : whole_to sender.oldest sender.start gone ≡ whole_to 0 0 (take to sender.line)
        = ap (λ (n : ℕ). whole_to n sender.start gone) lv.1
        ∙ ap (λ (n : ℕ). whole_to (whole_to 0 0 (take sender.start sender.line)) n gone) (sym len)
        ∙ sym (whole_to_append 0 0 (take sender.start sender.line) gone)
        ∙ ap (whole_to 0 0) (sym part)
        in
        record {
          book =
              record {
                cut_all = v.book.cut_all;
                counted = ap (◌+ endings gone) v.book.counted ∙ sym (endings_append (take sender.start sender.line) gone) ∙ ap endings (sym part);
                live = λ _. (lv.0, b);
                given =
                    ap (◌++ units [] (drop (whole_to sender.oldest sender.start gone) sender.line)) lv.0
                    ∙ ap (λ (n : ℕ). units [] (drop n sender.line)) b;
              };
          window = record { order = most; within = omega arith; filled = w.filled };
          link = record { packets = v.link.packets; acks = v.link.acks; marks = marks };
          copy = v.copy;
          gap =
              record {
                hole = hole;
                low = low;
                high = v.gap.high;
                silent = v.gap.silent;
                got = v.gap.got;
                early = v.gap.early;
              };
          took = v.took;
        }

  pub reclaim_keeps : (p : Phase) (l : List DataUnit) → sender.phase ≡ p → Sending.held sender ≡ l
      → Inv c acc cnt (reclaimed_by SenderCall.reclaim (Sending.reclaiming p l sender).1 back) tak Out Back (Sending.reclaiming p l sender).0 receiver
  reclaim_keeps Ends.fresh l e q = v
  reclaim_keeps Ends.enabled l e q = v
  reclaim_keeps Ends.opened l e q = v
  reclaim_keeps Ends.closing l e q = v
  reclaim_keeps Ends.shut [] e q = v
  reclaim_keeps Ends.shut (u ∷ l) e q =
      let d = drop sender.oldest sender.line in
      let m = first_unit d in
      let one : units [] d ≡ u ∷ units [] (drop m d)
      = ap (units []) (sym (take-append-drop m d)) ∙ first_unit_whole [] d u l q (drop m d)
      in
      record {
        book =
            record {
              cut_all = v.book.cut_all;
              counted = v.book.counted;
              live = λ z. absurd (yes_no (ap is_shut e) z);
              given =
                  append_assoc back (u ∷ []) (units [] (drop (sender.oldest + m) sender.line))
                  ∙ ap (λ (x : List Segment). back ++ (u ∷ units [] x)) (sym (drop-drop m sender.oldest sender.line))
                  ∙ ap (back ++◌) (sym one)
                  ∙ v.book.given;
            };
        window = v.window;
        link = v.link;
        copy = v.copy;
        gap = v.gap;
        took = v.took;
      }
