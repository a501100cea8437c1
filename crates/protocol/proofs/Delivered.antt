-- Demand 3 at the layer of the protocol: the invariant holds at the beginning, each call keeps it, and it says what is claimed.
-- Assumes nothing.
use mathlib.Core.Path.{◌≡◌, refl, sym, ap, ◌∙◌}
use mathlib.Core.List.{List, [], ◌∷◌, ◌++◌, append_assoc}
use Prim.Native.Nat.{ℕ, ◌≤◌}
use native.Mathlib.Omega.{arith}
use lib.Dec.{ltb}
use lib.ListN.{length, take, drop, take-append-drop}
use lib.Seq.{take-length}
use Rattle.protocol.specs.Units.{DataUnit, Segment, cuts, units, endings, whole_to}
use Rattle.protocol.specs.Ends.{Limits, rank, is_open}
use Rattle.protocol.specs.Sending.{Sender, SenderCall, may_hand_out, held}
use Rattle.protocol.specs.Receiving.{Receiver, ReceiverCall, waiting}
use Rattle.protocol.specs.History.{Call, at_sender, at_receiver}
use Rattle.protocol.specs.Delivery.{Run, begin, step, run, Fair, AllFair, Delivered, Demand3}
use Rattle.protocol.specs.Windows.{WindowsNear}
use Rattle.protocol.proofs.Cutting.{units_cuts, length_units, units_take, endings_mono, split_units}
use Rattle.protocol.proofs.Small.{none_some, yes_no}
use Rattle.protocol.proofs.Invariant.{Inv, Holds}
use Rattle.protocol.proofs.SenderSteps as S
use Rattle.protocol.proofs.ReceiverSteps as R

module _ (c : Limits) where
  -- It holds at the beginning.
  pub starts : Holds c (begin)
  unfolding cuts
  starts =
      record {
        book = record { cut_all = refl; counted = refl; live = λ _. (refl, refl); given = refl };
        window = record { order = omega arith; within = omega arith; filled = omega arith };
        link = record { packets = λ i g x. absurd x; acks = λ i x. absurd x; marks = λ i x. absurd (yes_no x refl) };
        copy =
            record {
              prefix = refl;
              inside = omega arith;
              same = λ i g x. absurd (none_some refl x);
              near = λ i g x. absurd (none_some refl x);
            };
        gap =
            record {
              hole = 0;
              low = omega arith;
              high = omega arith;
              silent = λ x. x;
              got = λ i x. absurd x;
              early = λ _. refl;
            };
        took = record { upto = omega arith; whole = λ r. refl };
      }

  -- What it says of deliveries, over whatever readings it is said.
  pub record Accounts (acc : List DataUnit) (cnt : ℕ) (back tak wait hold : List DataUnit) : Type 0 where
    pub through : ℕ
    pub among : through ≤ length acc
    pub in_order : tak ++ wait ≡ take through acc
    pub confirmed_through : cnt ≤ through
    pub accounted : acc ≡ take cnt acc ++ back ++ hold

  pub told : 1 ≤ c.payload → (acc : List DataUnit) (cnt : ℕ) (back tak : List DataUnit) (O : ℕ → Segment → Type 0) (B : ℕ → Type 0) (x : Sender) (y : Receiver)
      → Inv c acc cnt back tak O B x y → Accounts acc cnt back tak (waiting y) (held x)
  told some acc cnt back tak O B x y v =
      let all : units [] x.line ≡ acc = ap (units []) v.book.cut_all ∙ units_cuts c.payload some acc in
      let n : ℕ = endings (take (length y.passed) x.line) in
      let whole : length acc ≡ endings x.line = ap length (sym all) ∙ length_units [] x.line in
      let most : n ≤ endings (take (length x.line) x.line)
      = endings_mono (length y.passed) (length x.line) x.line (omega (arith, v.copy.inside, v.window.filled))
      in
      let up : endings (take x.start x.line) ≤ n
      = endings_mono x.start (length y.passed) x.line (omega (arith, v.gap.low, v.gap.high))
      in
      record {
        through = n;
        among = omega (arith, ap endings (take-length x.line));
        in_order =
            sym (v.took.whole (drop y.oldest y.passed))
            ∙ ap (units []) (take-append-drop y.oldest y.passed ∙ v.copy.prefix)
            ∙ units_take [] (length y.passed) x.line
            ∙ ap (take n) all;
        confirmed_through = omega (arith, v.book.counted);
        accounted =
            sym all
            ∙ split_units x.start x.line
            ∙ ap (λ (l : List DataUnit). take (endings (take x.start x.line)) l ++ units [] (drop (whole_to 0 0 (take x.start x.line)) x.line)) all
            ∙ ap (λ (m : ℕ). take m acc ++ units [] (drop (whole_to 0 0 (take x.start x.line)) x.line)) (sym v.book.counted)
            ∙ ap (take cnt acc ++◌) (sym v.book.given)
            ∙ sym (append_assoc (take cnt acc) back (units [] (drop x.oldest x.line)));
      }

  pub says : 1 ≤ c.payload → (w : Run) → Holds c w → Delivered w
  says some w v =
      let t = told some _ _ _ _ _ _ w.sender w.receiver v in
      record {
        through = t.through;
        among = t.among;
        in_order = t.in_order;
        confirmed_through = t.confirmed_through;
        accounted = t.accounted;
      }

  module _ (small : c.window ≤ 128) where
    keeps_sender : (w : Run) (x : SenderCall) → Fair c w (at_sender x) → Holds c w → Holds c (step c w (at_sender x))
    keeps_sender w (SenderCall.control p) f v = S.control_keeps c _ _ _ _ _ _ _ _ v p (ltb (rank w.sender.phase) (rank p)) refl
    keeps_sender w (SenderCall.transfer u) f v =
        S.transfer_keeps c _ _ _ _ _ _ _ _ v u _ _ _ refl
    keeps_sender w (SenderCall.hand_out i) f v = S.next_keeps c _ _ _ _ _ _ _ _ v i (may_hand_out c w.sender i) refl
    keeps_sender w (SenderCall.ack i q) f v =
        S.ack_keeps c _ _ _ _ _ _ _ _ v small i q f.0 f.1 f.2 _ _ refl refl
    keeps_sender w SenderCall.reclaim f v = S.reclaim_keeps c _ _ _ _ _ _ _ _ v w.sender.phase (held w.sender) refl refl
    keeps_sender w SenderCall.noise f v = v

    keeps_receiver : (w : Run) (x : ReceiverCall) → Fair c w (at_receiver x) → Holds c w → Holds c (step c w (at_receiver x))
    keeps_receiver w (ReceiverCall.control p) f v = R.control_keeps c _ _ _ _ _ _ _ _ v p (ltb (rank w.receiver.phase) (rank p)) refl
    keeps_receiver w (ReceiverCall.arrival i q g) f v =
        R.arrival_keeps c _ _ _ _ _ _ _ _ v small i q g f.0 f.1 f.2 (is_open w.receiver.phase) refl
    keeps_receiver w ReceiverCall.take_unit f v = R.take_keeps c _ _ _ _ _ _ _ _ v (waiting w.receiver) refl
    keeps_receiver w ReceiverCall.noise f v = v

    pub keeps : (w : Run) (x : Call) → Fair c w x → Holds c w → Holds c (step c w x)
    keeps w (at_sender x) f v = keeps_sender w x f v
    keeps w (at_receiver x) f v = keeps_receiver w x f v

    -- so it holds after any calls
    pub holds_after : (w : Run) (l : List Call) → AllFair c w l → Holds c w → Holds c (run c w l)
    holds_after w [] f v = v
    holds_after w (x ∷ l) f v = holds_after (step c w x) l f.1 (keeps w x f.0 v)

-- Demand 3 of the protocol
pub demand_3 : Demand3
demand_3 c small some l f = says c some (run c begin l) (holds_after c small begin l f (starts c))

-- and how the two windows lie, at any moment: the receiver's start is never behind the sender's, and at most a window past it
pub windows_near : (c : Limits) → c.window ≤ 128 → (l : List Call) → AllFair c begin l → WindowsNear c (run c begin l)
windows_near c small l f =
    let v : Holds c (run c begin l) = holds_after c small begin l f (starts c) in
    let w = v.window in
    record { ahead = omega (arith, v.gap.low, v.gap.high); near = omega (arith, v.copy.inside, w.within) }
