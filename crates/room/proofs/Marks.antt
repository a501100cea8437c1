-- What a call of the protocol marks: a sender one segment more acknowledged, a receiver one more filed, each where a packet for it came; and how far
-- the sender's start may go.
-- Assumes nothing.
use mathlib.Core.Path.{◌≡◌, refl, sym, ap, ◌∙◌, subst}
use mathlib.Core.Bool.{Bool, true, false, not}
use mathlib.Core.List.{List, [], ◌∷◌}
use mathlib.Core.Logic.{◌⊎◌, inl, inr, ⊎_elim}
use mathlib.Core.Option.{Option, none, some}
use Prim.Native.Nat.{ℕ, ◌+◌, ◌-◌, ◌≤◌, ◌<◌}
use native.Mathlib.Omega.{arith}
use borrow.Author.Tests.{ltb-true}
use lib.Dec.{leb, ltb}
use lib.ListN.{length}
use Rattle.laws.proofs.Choice.{both}
use Rattle.protocol.specs.Numbers.{number_at, distance}
use Rattle.protocol.specs.Units.{DataUnit, Segment, cut}
use Rattle.protocol.specs.Ends.{Limits, Phase, fresh, enabled, opened, closing, shut, rank, is_open, put}
use Rattle.protocol.specs.Sending as sending
use Rattle.protocol.specs.Sending.{Sender, SenderCall, sender_step}
use Rattle.protocol.specs.Receiving as receiver
use Rattle.protocol.specs.Receiving.{Receiver, ReceiverCall, receiver_step, start_of, waiting, moved}
use Rattle.protocol.proofs.Small.{put_cases, advance_stop}

-- ---- a sender

-- the segment that an Ack marks lies in the window
abbrev pub MarksAt : Limits → Sender → SenderCall → ℕ → Type 0
MarksAt L x (SenderCall.control p) j = ⊥
MarksAt L x (SenderCall.transfer u) j = ⊥
MarksAt L x (SenderCall.hand_out i) j = ⊥
MarksAt L x (SenderCall.ack i q) j = (distance q (number_at x.start) < L.window) × (j ≡ x.start + distance q (number_at x.start))
MarksAt L x SenderCall.reclaim j = ⊥
MarksAt L x SenderCall.noise j = ⊥

module _ (L : Limits) (x : Sender) where
  -- what was acknowledged before stays; what is new is marked by the call; and the start stops at what is not acknowledged
  pub record Marked (call : SenderCall) (z : Sender) : Type 0 where
    pub new : (j : ℕ) → z.acked j ≡ true → (x.acked j ≡ true) ⊎ MarksAt L x call j
    pub stops : (j : ℕ) → x.start ≤ j → z.acked j ≡ false → z.start ≤ j

  same : (call : SenderCall) (z : Sender) → z.acked ≡ x.acked → z.start ≡ x.start → Marked call z
  same call z e f = record { new = λ j q. inl (sym (ap (λ (a : ℕ → Bool). a j) e) ∙ q); stops = λ j h q. omega (arith, h, f) }

  controls : (b : Bool) (p : Phase) → Marked (SenderCall.control p) (sending.controlled b x p).0
  controls false p = same _ _ refl refl
  controls true p = same _ _ refl refl

  transfers : (u : DataUnit) (a b d : Bool) (l : List Segment) → Marked (SenderCall.transfer u) (sending.transferred a b d x l).0
  transfers u false b d l = same _ _ refl refl
  transfers u true false d l = same _ _ refl refl
  transfers u true true false l = same _ _ refl refl
  transfers u true true true l = same _ _ refl refl

  hands : (i : ℕ) (b : Bool) → Marked (SenderCall.hand_out i) (sending.handed_out b x i).0
  hands i false = same _ _ refl refl
  hands i true = same _ _ refl refl

  reclaims : (p : Phase) (l : List DataUnit) → Marked SenderCall.reclaim (sending.reclaiming p l x).0
  reclaims fresh l = same _ _ refl refl
  reclaims enabled l = same _ _ refl refl
  reclaims opened l = same _ _ refl refl
  reclaims closing l = same _ _ refl refl
  reclaims shut [] = same _ _ refl refl
  reclaims shut (u ∷ l) = same _ _ refl refl

  module _ (i q : ℕ) where
    abbrev d : ℕ
    d = distance q (number_at x.start)

    acks : (a b : Bool) → sending.is_awaited L x d ≡ b → Marked (SenderCall.ack i q) (sending.acknowledged L a b x (x.start + d)).0
    acks false b e = same _ _ refl refl
    acks true false e = same _ _ refl refl
    acks true true e =
        let near = (both _ (ltb (x.start + d) x.next) (both _ (not (x.acked (x.start + d))) e).0).0 in
        record {
          new = λ j m. ⊎_elim (λ w. inr (ltb-true d L.window near, w.0)) (λ w. inl (sym w.1 ∙ m)) (put_cases x.acked (x.start + d) true j);
          stops = λ j h m. advance_stop L.window (put x.acked (x.start + d) true) x.start j h m;
        }

  marks : (call : SenderCall) → Marked call (sender_step L x call).0
  marks (SenderCall.control p) = controls (ltb (rank x.phase) (rank p)) p
  marks (SenderCall.transfer u) =
      let l = cut L.payload u in
      transfers u (is_open x.phase) (leb (length l) L.segments) (leb (length x.line - x.oldest + length l) L.slots) l
  marks (SenderCall.hand_out i) = hands i (sending.may_hand_out L x i)
  marks (SenderCall.ack i q) = acks i q (is_open x.phase) (sending.is_awaited L x (distance q (number_at x.start))) refl
  marks SenderCall.reclaim = reclaims x.phase (sending.held x)
  marks SenderCall.noise = same _ _ refl refl

  pub sender_marks : (z : Sender) (call : SenderCall) → z ≡ (sender_step L x call).0 → Marked call z
  sender_marks z call e = subst (Marked call) (sym e) (marks call)

-- ---- a receiver

-- the segment that Data files lies in the window
abbrev pub FilesAt : Limits → Receiver → ReceiverCall → ℕ → Type 0
FilesAt L y (ReceiverCall.control p) j = ⊥
FilesAt L y (ReceiverCall.arrival i q g) j = (distance q (number_at (start_of y)) < L.window) × (j ≡ start_of y + distance q (number_at (start_of y)))
FilesAt L y ReceiverCall.take_unit j = ⊥
FilesAt L y ReceiverCall.noise j = ⊥

abbrev pub Has : Receiver → ℕ → Type 0
Has y j = (g : Segment) × (y.filed j ≡ some g)

module _ (L : Limits) (y : Receiver) where
  pub record Filed (call : ReceiverCall) (z : Receiver) : Type 0 where
    pub new : (j : ℕ) → Has z j → Has y j ⊎ FilesAt L y call j
    pub later : rank y.phase ≤ rank z.phase

  stays : (call : ReceiverCall) (z : Receiver) → z.filed ≡ y.filed → rank y.phase ≤ rank z.phase → Filed call z
  stays call z e h = record { new = λ j w. inl (w.0, sym (ap (λ (f : ℕ → Option Segment). f j) e) ∙ w.1); later = h }

  shut_last : (p : Phase) → rank p ≤ 4
  shut_last fresh = omega arith
  shut_last enabled = omega arith
  shut_last opened = omega arith
  shut_last closing = omega arith
  shut_last shut = omega arith

  controlled : (b : Bool) (p : Phase) → ltb (rank y.phase) (rank p) ≡ b → Filed (ReceiverCall.control p) (receiver.controlled b y p).0
  controlled false p e = stays _ _ refl (omega arith)
  controlled true p e = stays _ _ refl (omega (arith, ltb-true (rank y.phase) (rank p) e))

  taking : (l : List DataUnit) → Filed ReceiverCall.take_unit (receiver.taking l y).0
  taking [] = stays _ _ refl (omega arith)
  taking (u ∷ l) = stays _ _ refl (omega arith)

  module _ (i q : ℕ) (g : Segment) where
    abbrev call : ReceiverCall
    call = ReceiverCall.arrival i q g

    abbrev away : ℕ
    away = distance q (number_at (start_of y))

    settled : away < L.window → (b : Bool) (l : List Segment) → Filed call (receiver.moved_answer b y (put y.filed (start_of y + away) (some g)) l).0
    settled near b l = go b
      where
        filed : (j : ℕ) → (k : Segment) × (put y.filed (start_of y + away) (some g) j ≡ some k) → Has y j ⊎ FilesAt L y call j
        filed j w =
            ⊎_elim (λ v. inr (near, v.0)) (λ v. inl (w.0, sym v.1 ∙ w.1)) (put_cases y.filed (start_of y + away) (some g) j)

        go : (b : Bool) → Filed call (receiver.moved_answer b y (put y.filed (start_of y + away) (some g)) l).0
        go true = record { new = filed; later = omega arith }
        go false = record { new = filed; later = shut_last y.phase }

    placed : away < L.window → (b : Bool) → Filed call (receiver.placed L b y (start_of y + away) g).0
    placed near false = stays _ _ refl (omega arith)
    placed near true =
        let m = moved L L.window (put y.filed (start_of y + away) (some g)) y.passed in
        settled near m.1 m.0

    in_window_lem : away < L.window → (o : Option Segment) → Filed call (receiver.in_window L o y (start_of y + away) g).0
    in_window_lem near (some x) = stays _ _ refl (omega arith)
    in_window_lem near none = placed near (ltb (start_of y + away) (y.oldest + L.slots))

    outside : (b : Bool) → Filed call (receiver.outside b y).0
    outside true = stays _ _ refl (omega arith)
    outside false = stays _ _ refl (shut_last y.phase)

    sorted : (b : Bool) → ltb away L.window ≡ b → Filed call (receiver.sorted L b y away g).0
    sorted true e = in_window_lem (ltb-true away L.window e) (y.filed (start_of y + away))
    sorted false e = outside (leb (256 - L.window) away)

    arrived : (b : Bool) → Filed call (receiver.arrived L b y away g).0
    arrived false = stays _ _ refl (omega arith)
    arrived true = sorted (ltb away L.window) refl

  files : (call : ReceiverCall) → Filed call (receiver_step L y call).0
  files (ReceiverCall.control p) = controlled (ltb (rank y.phase) (rank p)) p refl
  files (ReceiverCall.arrival i q g) = arrived i q g (is_open y.phase)
  files ReceiverCall.take_unit = taking (waiting y)
  files ReceiverCall.noise = stays _ _ refl (omega arith)

  pub receiver_files : (z : Receiver) (call : ReceiverCall) → z ≡ (receiver_step L y call).0 → Filed call z
  receiver_files z call e = subst (Filed call) (sym e) (files call)
