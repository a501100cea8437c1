-- Demand 3 of one opening of a channel, stated. Whatever is called at the two ends, in any order, and whatever the link loses, repeats, delays,
-- reorders or damages: no unit comes through that was not accepted, none twice, none out of order; a unit confirmed has come through; and each unit
-- accepted is confirmed, reclaimed or held, one of the three.
-- It rests on two premises on the link, `Fair`: an arrival is a copy of a packet handed out before, and is not late.
use Rattle.std.specs.Prelude.{ℕ, ◌+◌, ◌-◌, ◌≤◌, ◌≡◌, List, [], ◌∷◌, ◌++◌, length, take}
use Rattle.protocol.specs.Numbers.{number_at}
use Rattle.protocol.specs.Ends.{Limits}
use Rattle.protocol.specs.Sending.{Sender, SenderCall, fresh_sender, sender_step, held}
use Rattle.protocol.specs.Receiving.{Receiver, ReceiverCall, fresh_receiver, receiver_step, start_of, waiting}
use Rattle.protocol.specs.History.{Call, at_sender, at_receiver, Event, accepted, confirmed, reclaimed, taken, Sent, Acked}

-- ---- a run

-- the history so far, and both ends
pub record Run : Type 0 where
  pub past : List Event
  pub sender : Sender
  pub receiver : Receiver

abbrev pub begin : Run
begin = record { past = []; sender = fresh_sender; receiver = fresh_receiver }

module _ (c : Limits) where
  abbrev pub step : Run → Call → Run
  step w (at_sender x) =
      let s = sender_step c w.sender x in
      record { past = record { call = at_sender x; answer = s.1 } ∷ w.past; sender = s.0; receiver = w.receiver }
  step w (at_receiver x) =
      let r = receiver_step c w.receiver x in
      record { past = record { call = at_receiver x; answer = r.1 } ∷ w.past; sender = w.sender; receiver = r.0 }

  abbrev pub run : Run → List Call → Run
  run w [] = w
  run w (x ∷ l) = run (step w x) l

  -- ---- the premises. A packet lost is no arrival; repeats, delays and another order are arrivals of any packet handed out, any number of
  -- times; a damaged packet is `noise`.

  -- the window start, where it arrives, is at most 256 - k past its segment
  abbrev pub NotLate : ℕ → ℕ → Type 0
  NotLate start i = (start + 1) ≤ (i + 1) + (256 - c.window)

  -- a Data Ack that arrives is a copy of one written, with the number of the Data that it answers
  abbrev pub FairAt : List Event → Sender → SenderCall → Type 0
  FairAt past s (SenderCall.control p) = Unit {0}
  FairAt past s (SenderCall.transfer u) = Unit {0}
  FairAt past s (SenderCall.hand_out i) = Unit {0}
  FairAt past s (SenderCall.ack i q) = Acked past i × (q ≡ number_at i) × NotLate s.start i
  FairAt past s SenderCall.reclaim = Unit {0}
  FairAt past s SenderCall.noise = Unit {0}

  -- a Data packet that arrives is a copy of one handed out
  abbrev pub FairTo : List Event → Receiver → ReceiverCall → Type 0
  FairTo past r (ReceiverCall.control p) = Unit {0}
  FairTo past r (ReceiverCall.arrival i q g) = Sent past i g × (q ≡ number_at i) × NotLate (start_of r) i
  FairTo past r ReceiverCall.take_unit = Unit {0}
  FairTo past r ReceiverCall.noise = Unit {0}

  abbrev pub Fair : Run → Call → Type 0
  Fair w (at_sender x) = FairAt w.past w.sender x
  Fair w (at_receiver x) = FairTo w.past w.receiver x

  abbrev pub AllFair : Run → List Call → Type 0
  AllFair w [] = Unit {0}
  AllFair w (x ∷ l) = Fair w x × AllFair (step w x) l

-- ---- what is claimed, at any moment of a run

pub record Delivered (w : Run) : Type 0 where
  -- how many units have come through
  pub through : ℕ
  pub among : through ≤ length (accepted w.past)
  -- what was taken, and then what waits, are the first units accepted: the same octets, in order, each once, none left out, none made up
  pub in_order : taken w.past ++ waiting w.receiver ≡ take through (accepted w.past)
  -- a unit confirmed has come through
  pub confirmed_through : confirmed w.past ≤ through
  -- the units accepted are those confirmed, then those reclaimed, then those held: none is lost, and none is in two accounts
  pub accounted : accepted w.past ≡ take (confirmed w.past) (accepted w.past) ++ reclaimed w.past ++ held w.sender

-- after any calls
abbrev pub Delivery : Limits → Type 0
Delivery c = (l : List Call) → AllFair c begin l → Delivered (run c begin l)

-- of every channel whose window does not pass 128 and whose segments may have an octet at least
abbrev pub Demand3 : Type 0
Demand3 = (c : Limits) → c.window ≤ 128 → 1 ≤ c.payload → Delivery c
