-- The statement is about something: a run that satisfies every premise, on a link that loses, repeats and reorders, with units taken, confirmed,
-- reclaimed and held, one of them taken and yet reclaimed because its Data Ack was lost.
-- Assumes nothing.
use mathlib.Core.Path.{◌≡◌, refl, sym, ap, ◌∙◌, subst}
use mathlib.Core.Logic.{inl, inr}
use mathlib.Core.List.{List, [], ◌∷◌, ◌++◌}
use mathlib.Core.Bool.{true, false}
use mathlib.Core.Option.{none, some}
use lib.Dec.{lit≤}
use Rattle.protocol.specs.Numbers.{number_at, distance}
use Rattle.protocol.specs.Units.{Segment, segments_from, cut}
use Rattle.protocol.specs.Ends.{Limits, opened, shut, say, give_unit, give_segment, put}
use Rattle.protocol.specs.Sending.{SenderCall, held}
use Rattle.protocol.specs.Receiving.{ReceiverCall}
use Rattle.protocol.specs.History.{Call, at_sender, at_receiver, accepted, taken, confirmed, reclaimed}
use Rattle.protocol.specs.Delivery.{Run, begin, step, run, AllFair, Delivered}
use Rattle.protocol.proofs.Delivered.{demand_3}

-- A run in two parts: each is computed from where the one before it came to.
module _ (c : Limits) where
  run_on : (w : Run) (a b : List Call) → run c w (a ++ b) ≡ run c (run c w a) b
  run_on w [] b = refl
  run_on w (x ∷ a) b = run_on (step c w x) a b

  fair_on : (w : Run) (a b : List Call) → AllFair c w a → AllFair c (run c w a) b → AllFair c w (a ++ b)
  fair_on w [] b p q = q
  fair_on w (x ∷ a) b p q = (p.0, fair_on (step c w x) a b p.1 q)

abbrev limits : Limits
limits = record { window = 4; slots = 8; payload = 2; segments = 4 }

-- the segments of the units 1 2 3, 4, and none
abbrev one : Segment
one = record { first = true; last = false; octets = 1 ∷ 2 ∷ [] }

abbrev two : Segment
two = record { first = false; last = true; octets = 3 ∷ [] }

abbrev three : Segment
three = record { first = true; last = true; octets = 4 ∷ [] }

abbrev four : Segment
four = record { first = true; last = true; octets = [] }

-- ---- three units are accepted

abbrev opening : List Call
opening =
    at_sender (SenderCall.control opened)
    ∷ at_receiver (ReceiverCall.control opened)
    ∷ at_sender (SenderCall.transfer (1 ∷ 2 ∷ 3 ∷ []))
    ∷ at_sender (SenderCall.transfer (4 ∷ []))
    ∷ at_sender (SenderCall.transfer [])
    ∷ []

abbrev opened_at : Run
opened_at =
    record {
      past =
          record { call = at_sender (SenderCall.transfer []); answer = say 0 }
          ∷ record { call = at_sender (SenderCall.transfer (4 ∷ [])); answer = say 0 }
          ∷ record { call = at_sender (SenderCall.transfer (1 ∷ 2 ∷ 3 ∷ [])); answer = say 0 }
          ∷ record { call = at_receiver (ReceiverCall.control opened); answer = say 0 }
          ∷ record { call = at_sender (SenderCall.control opened); answer = say 0 }
          ∷ [];
      sender = record { phase = opened; line = one ∷ two ∷ three ∷ four ∷ []; oldest = 0; start = 0; next = 0; acked = λ i. false };
      receiver = record { phase = opened; passed = []; oldest = 0; filed = λ i. none };
    }

opens : run limits begin opening ≡ opened_at
unfolding cut segments_from
opens = refl

-- ---- the first packet is lost, the third comes before the second, the first is sent again, a copy of the second comes late and is answered 15

abbrev sending : List Call
sending =
    at_sender (SenderCall.hand_out 0)
    ∷ at_sender (SenderCall.hand_out 1)
    ∷ at_sender (SenderCall.hand_out 2)
    ∷ at_receiver (ReceiverCall.arrival 2 3 three)
    ∷ at_receiver (ReceiverCall.arrival 1 2 two)
    ∷ at_sender (SenderCall.hand_out 0)
    ∷ at_receiver (ReceiverCall.arrival 0 1 one)
    ∷ at_receiver (ReceiverCall.arrival 1 2 two)
    ∷ at_receiver ReceiverCall.take_unit
    ∷ []

abbrev sent_at_lem : Run
sent_at_lem =
    record {
      past =
          record { call = at_receiver ReceiverCall.take_unit; answer = give_unit (1 ∷ 2 ∷ 3 ∷ []) }
          ∷ record { call = at_receiver (ReceiverCall.arrival 1 2 two); answer = say 15 }
          ∷ record { call = at_receiver (ReceiverCall.arrival 0 1 one); answer = say 0 }
          ∷ record { call = at_sender (SenderCall.hand_out 0); answer = give_segment one }
          ∷ record { call = at_receiver (ReceiverCall.arrival 1 2 two); answer = say 0 }
          ∷ record { call = at_receiver (ReceiverCall.arrival 2 3 three); answer = say 0 }
          ∷ record { call = at_sender (SenderCall.hand_out 2); answer = give_segment three }
          ∷ record { call = at_sender (SenderCall.hand_out 1); answer = give_segment two }
          ∷ record { call = at_sender (SenderCall.hand_out 0); answer = give_segment one }
          ∷ opened_at.past;
      sender = record { phase = opened; line = one ∷ two ∷ three ∷ four ∷ []; oldest = 0; start = 0; next = 3; acked = λ i. false };
      receiver =
          record {
            phase = opened;
            passed = one ∷ two ∷ three ∷ [];
            oldest = 2;
            filed = put (put (put (λ i. none) 2 (some three)) 1 (some two)) 0 (some one);
          };
    }

sends : run limits opened_at sending ≡ sent_at_lem
unfolding number_at distance
sends = refl

fair_sending : AllFair limits opened_at sending
unfolding number_at distance
fair_sending = (
  tt,
  (
    tt,
    (
      tt,
      (
        (inl (refl, refl), refl, lit≤ tt),
        (
          (inr (inl (refl, refl)), refl, lit≤ tt),
          (tt, ((inl (refl, refl), refl, lit≤ tt), ((inr (inr (inl (refl, refl))), refl, lit≤ tt), (tt, tt)))),
        ),
      ),
    ),
  ),
)

-- ---- the Data Ack beyond the gap confirms nothing, the one that closes it a unit, that of the third is lost; the sender closes

abbrev closing_down : List Call
closing_down =
    at_sender (SenderCall.ack 1 2)
    ∷ at_sender (SenderCall.ack 0 1)
    ∷ at_sender (SenderCall.control shut)
    ∷ at_receiver ReceiverCall.take_unit
    ∷ at_sender SenderCall.reclaim
    ∷ []

fair_closing : AllFair limits sent_at_lem closing_down
unfolding number_at distance
fair_closing = ((inl refl, refl, lit≤ tt), ((inr (inl refl), refl, lit≤ tt), (tt, (tt, (tt, tt)))))

-- ---- the whole

abbrev calls : List Call
calls = opening ++ (sending ++ closing_down)

pub sample_fair : AllFair limits begin calls
sample_fair =
    fair_on
    limits
    begin
    opening
    (sending ++ closing_down)
    (tt, (tt, (tt, (tt, (tt, tt)))))
    (subst
    (λ (w : Run). AllFair limits w (sending ++ closing_down))
    (sym opens)
    (fair_on
    limits
    opened_at
    sending
    closing_down
    fair_sending
    (subst (λ (w : Run). AllFair limits w closing_down) (sym sends) fair_closing)))

comes_to : run limits begin calls ≡ run limits sent_at_lem closing_down
comes_to =
    run_on limits begin opening (sending ++ closing_down)
    ∙ ap (λ (w : Run). run limits w (sending ++ closing_down)) opens
    ∙ run_on limits opened_at sending closing_down
    ∙ ap (λ (w : Run). run limits w closing_down) sends

pub sample_accepted : accepted (run limits begin calls).past ≡ (1 ∷ 2 ∷ 3 ∷ []) ∷ (4 ∷ []) ∷ [] ∷ []
unfolding number_at distance
sample_accepted = ap (λ (w : Run). accepted w.past) comes_to ∙ refl

pub sample_taken : taken (run limits begin calls).past ≡ (1 ∷ 2 ∷ 3 ∷ []) ∷ (4 ∷ []) ∷ []
unfolding number_at distance
sample_taken = ap (λ (w : Run). taken w.past) comes_to ∙ refl

pub sample_confirmed : confirmed (run limits begin calls).past ≡ 1
unfolding number_at distance
sample_confirmed = ap (λ (w : Run). confirmed w.past) comes_to ∙ refl

pub sample_reclaimed : reclaimed (run limits begin calls).past ≡ (4 ∷ []) ∷ []
unfolding number_at distance
sample_reclaimed = ap (λ (w : Run). reclaimed w.past) comes_to ∙ refl

pub sample_held : held (run limits begin calls).sender ≡ [] ∷ []
unfolding number_at distance
sample_held = ap (λ (w : Run). held w.sender) comes_to ∙ refl

-- what demand 3 says of it
pub sample_delivered : Delivered (run limits begin calls)
sample_delivered = demand_3 limits (lit≤ tt) (lit≤ tt) calls sample_fair
