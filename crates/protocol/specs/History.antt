-- A history, and what is read from it: from the calls and their answers alone, never from what an end remembers.
use Rattle.std.specs.Prelude.{ℕ, ◌+◌, ◌≡◌, ◌⊎◌, Bool, ◌||◌, List, [], ◌∷◌, ◌++◌, eqb, if◌then◌else◌, cond}
use Rattle.protocol.specs.Units.{DataUnit, Segment}
use Rattle.protocol.specs.Ends.{Answer}
use Rattle.protocol.specs.Sending.{SenderCall}
use Rattle.protocol.specs.Receiving.{ReceiverCall}

pub data Call : Type 0 where
  at_sender : SenderCall → Call
  at_receiver : ReceiverCall → Call

-- A call and the answer to it. A history is a list of these, the latest first.
pub record Event : Type 0 where
  pub call : Call
  pub answer : Answer

abbrev pub done : Answer → Bool
done a = eqb a.number 0

-- ---- the four accounts

-- The units that the sender accepted: transfers answered 0, in order.
abbrev pub accepted_by : SenderCall → Answer → List DataUnit → List DataUnit
accepted_by (SenderCall.control p) a l = l
accepted_by (SenderCall.transfer u) a l = if done a then l ++ (u ∷ []) else l
accepted_by (SenderCall.hand_out i) a l = l
accepted_by (SenderCall.ack i q) a l = l
accepted_by SenderCall.reclaim a l = l
accepted_by SenderCall.noise a l = l

abbrev pub accepted_at : Call → Answer → List DataUnit → List DataUnit
accepted_at (at_sender x) a l = accepted_by x a l
accepted_at (at_receiver x) a l = l

abbrev pub accepted : List Event → List DataUnit
accepted [] = []
accepted (e ∷ past) = accepted_at e.call e.answer (accepted past)

-- How many units the sender was told are confirmed: the counts that came with Data Acks answered 0.
abbrev pub confirmed_by : SenderCall → Answer → ℕ → ℕ
confirmed_by (SenderCall.control p) a n = n
confirmed_by (SenderCall.transfer u) a n = n
confirmed_by (SenderCall.hand_out i) a n = n
confirmed_by (SenderCall.ack i q) a n = if done a then n + a.count else n
confirmed_by SenderCall.reclaim a n = n
confirmed_by SenderCall.noise a n = n

abbrev pub confirmed_at : Call → Answer → ℕ → ℕ
confirmed_at (at_sender x) a n = confirmed_by x a n
confirmed_at (at_receiver x) a n = n

abbrev pub confirmed : List Event → ℕ
confirmed [] = 0
confirmed (e ∷ past) = confirmed_at e.call e.answer (confirmed past)

-- The units reclaimed: those given back by requests answered 0, in order.
abbrev pub reclaimed_by : SenderCall → Answer → List DataUnit → List DataUnit
reclaimed_by (SenderCall.control p) a l = l
reclaimed_by (SenderCall.transfer u) a l = l
reclaimed_by (SenderCall.hand_out i) a l = l
reclaimed_by (SenderCall.ack i q) a l = l
reclaimed_by SenderCall.reclaim a l = if done a then l ++ (a.unit ∷ []) else l
reclaimed_by SenderCall.noise a l = l

abbrev pub reclaimed_at : Call → Answer → List DataUnit → List DataUnit
reclaimed_at (at_sender x) a l = reclaimed_by x a l
reclaimed_at (at_receiver x) a l = l

abbrev pub reclaimed : List Event → List DataUnit
reclaimed [] = []
reclaimed (e ∷ past) = reclaimed_at e.call e.answer (reclaimed past)

-- The units taken at the receiver: those given by requests answered 0, in order.
abbrev pub taken_by : ReceiverCall → Answer → List DataUnit → List DataUnit
taken_by (ReceiverCall.control p) a l = l
taken_by (ReceiverCall.arrival i q g) a l = l
taken_by ReceiverCall.take_unit a l = if done a then l ++ (a.unit ∷ []) else l
taken_by ReceiverCall.noise a l = l

abbrev pub taken_at : Call → Answer → List DataUnit → List DataUnit
taken_at (at_sender x) a l = l
taken_at (at_receiver x) a l = taken_by x a l

abbrev pub taken : List Event → List DataUnit
taken [] = []
taken (e ∷ past) = taken_at e.call e.answer (taken past)

-- ---- the link

-- `Sent past i g`: a Data packet for the segment i was handed out, and g was in it.
abbrev pub sent_by : SenderCall → Answer → ℕ → Segment → Type 0 → Type 0
sent_by (SenderCall.control p) a i g P = P
sent_by (SenderCall.transfer u) a i g P = P
sent_by (SenderCall.hand_out j) a i g P = cond (done a) (((j ≡ i) × (a.segment ≡ g)) ⊎ P) P
sent_by (SenderCall.ack j q) a i g P = P
sent_by SenderCall.reclaim a i g P = P
sent_by SenderCall.noise a i g P = P

abbrev pub sent_at : Call → Answer → ℕ → Segment → Type 0 → Type 0
sent_at (at_sender x) a i g P = sent_by x a i g P
sent_at (at_receiver x) a i g P = P

abbrev pub Sent : List Event → ℕ → Segment → Type 0
Sent [] i g = ⊥
Sent (e ∷ past) i g = sent_at e.call e.answer i g (Sent past i g)

-- A Data Ack is written with 0 and with 15; '9 writes no reply', and a refusal none.
abbrev pub replied : Answer → Bool
replied a = eqb a.number 0 || eqb a.number 15

-- `Acked past i`: a Data Ack was written for an arrival that is a copy of the segment i.
abbrev pub acked_by : ReceiverCall → Answer → ℕ → Type 0 → Type 0
acked_by (ReceiverCall.control p) a i P = P
acked_by (ReceiverCall.arrival j q g) a i P = cond (replied a) ((j ≡ i) ⊎ P) P
acked_by ReceiverCall.take_unit a i P = P
acked_by ReceiverCall.noise a i P = P

abbrev pub acked_at : Call → Answer → ℕ → Type 0 → Type 0
acked_at (at_sender x) a i P = P
acked_at (at_receiver x) a i P = acked_by x a i P

abbrev pub Acked : List Event → ℕ → Type 0
Acked [] i = ⊥
Acked (e ∷ past) i = acked_at e.call e.answer i (Acked past i)
