-- Never-eight, stated of the real calls: where Flow Control is used at both ends and the link keeps order, no Data arrives for which there is no slot
-- (document 02, A5).
use Rattle.std.specs.Prelude.{◌≡◌, true, List, [], ◌∷◌}
use Rattle.channel.specs.Answers.{number_of}
use Rattle.channel.specs.Flow.{flows}
use Rattle.delivery.specs.Calls.{End, arrives, channel_of}
use Rattle.delivery.specs.History.{subscriber, Call, Event, is, names, IsData}
use Rattle.delivery.specs.Delivery.{Fresh, Alike, begin, run}
use Rattle.room.specs.Order.{empty, AllInOrder}

-- Data for the channel that was refused with 8
abbrev pub Eight : End → Event → Type 0
Eight s e =
    (is subscriber arrives e.call ≡ true)
    × (names s e.call.request.octets ≡ true)
    × IsData e.call.request.octets
    × (number_of e.answer ≡ 8)

abbrev pub NoEight : End → List Event → Type 0
NoEight s [] = Unit {0}
NoEight s (e ∷ past) = (Eight s e → ⊥) × NoEight s past

-- of every window and all slots that settings accept; the timers, retries and intervals of the two ends may differ
abbrev pub NeverEight : Type 0
NeverEight =
    (h s : End)
    → Fresh h
    → Fresh s
    → Alike h s
    → flows (channel_of h).limits ≡ true
    → flows (channel_of s).limits ≡ true
    → (l : List Call)
    → AllInOrder h s (begin h s) empty l
    → NoEight s (run (begin h s) l).past
