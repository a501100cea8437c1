-- Each call of the protocol keeps its invariant, whatever the readings are over which it is said.
-- Assumes nothing.
use mathlib.Core.Path.{◌≡◌, refl}
use mathlib.Core.List.{List}
use Prim.Native.Nat.{ℕ, ◌≤◌}
use lib.Dec.{ltb}
use Rattle.protocol.specs.Numbers.{number_at}
use Rattle.protocol.specs.Units.{DataUnit, Segment}
use Rattle.protocol.specs.Ends.{Limits, rank, is_open}
use Rattle.protocol.specs.Sending.{Sender, SenderCall, sender_step, may_hand_out, held}
use Rattle.protocol.specs.Receiving.{Receiver, ReceiverCall, receiver_step, start_of, waiting}
use Rattle.protocol.specs.History.{accepted_by, confirmed_by, reclaimed_by, taken_by, sent_by, acked_by}
use Rattle.protocol.specs.Delivery.{NotLate}
use Rattle.protocol.proofs.Invariant.{Inv}
use Rattle.protocol.proofs.SenderSteps as S
use Rattle.protocol.proofs.ReceiverSteps as R

module _ (c : Limits) (small : c.window ≤ 128) (acc : List DataUnit) (cnt : ℕ) (back tak : List DataUnit) (O : ℕ → Segment → Type 0) (B : ℕ → Type 0)
    (x : Sender) (y : Receiver) (v : Inv c acc cnt back tak O B x y) where
  -- what the link must have shown of an ack
  abbrev pub FairAck : SenderCall → Type 0
  FairAck (SenderCall.control p) = Unit {0}
  FairAck (SenderCall.transfer u) = Unit {0}
  FairAck (SenderCall.hand_out i) = Unit {0}
  FairAck (SenderCall.ack i q) = B i × (q ≡ number_at i) × NotLate c x.start i
  FairAck SenderCall.reclaim = Unit {0}
  FairAck SenderCall.noise = Unit {0}

  abbrev pub AfterSender : SenderCall → Type 0
  AfterSender k =
      let r = sender_step c x k in
      Inv c (accepted_by k r.1 acc) (confirmed_by k r.1 cnt) (reclaimed_by k r.1 back) tak (λ i g. sent_by k r.1 i g (O i g)) B r.0 y

  pub sender_keeps : (k : SenderCall) → FairAck k → AfterSender k
  sender_keeps (SenderCall.control p) f = S.control_keeps c acc cnt back tak O B x y v p (ltb (rank x.phase) (rank p)) refl
  sender_keeps (SenderCall.transfer u) f = S.transfer_keeps c acc cnt back tak O B x y v u _ _ _ refl
  sender_keeps (SenderCall.hand_out i) f = S.next_keeps c acc cnt back tak O B x y v i (may_hand_out c x i) refl
  sender_keeps (SenderCall.ack i q) f = S.ack_keeps c acc cnt back tak O B x y v small i q f.0 f.1 f.2 _ _ refl refl
  sender_keeps SenderCall.reclaim f = S.reclaim_keeps c acc cnt back tak O B x y v x.phase (held x) refl refl
  sender_keeps SenderCall.noise f = v

  -- and of Data
  abbrev pub FairData : ReceiverCall → Type 0
  FairData (ReceiverCall.control p) = Unit {0}
  FairData (ReceiverCall.arrival i q g) = O i g × (q ≡ number_at i) × NotLate c (start_of y) i
  FairData ReceiverCall.take_unit = Unit {0}
  FairData ReceiverCall.noise = Unit {0}

  abbrev pub AfterReceiver : ReceiverCall → Type 0
  AfterReceiver k =
      let r = receiver_step c y k in
      Inv c acc cnt back (taken_by k r.1 tak) O (λ i. acked_by k r.1 i (B i)) x r.0

  pub receiver_keeps : (k : ReceiverCall) → FairData k → AfterReceiver k
  receiver_keeps (ReceiverCall.control p) f = R.control_keeps c acc cnt back tak O B x y v p (ltb (rank y.phase) (rank p)) refl
  receiver_keeps (ReceiverCall.arrival i q g) f = R.arrival_keeps c acc cnt back tak O B x y v small i q g f.0 f.1 f.2 (is_open y.phase) refl
  receiver_keeps ReceiverCall.take_unit f = R.take_keeps c acc cnt back tak O B x y v (waiting y) refl
  receiver_keeps ReceiverCall.noise f = v
