-- The receiver's end over one opening, with unbounded indices (document 01, Receiving).
use Rattle.std.specs.Prelude.{ℕ, zero, suc, ◌+◌, ◌-◌, Bool, true, false, List, [], ◌∷◌, ◌++◌, leb, ltb, length, drop, if◌then◌else◌}
use Rattle.std.proofs.Math.Option.{Option, none, some}
use Rattle.protocol.specs.Numbers.{number_at, distance}
use Rattle.protocol.specs.Units.{DataUnit, Segment, units, first_unit, on_way, fitting}
use Rattle.protocol.specs.Ends.{Limits, Phase, fresh, shut, rank, is_open, Answer, say, give_unit, put}

-- `passed`: the segments that the start has passed, in order; `oldest`: the first one not yet taken; `filed`: the segments accepted
pub record Receiver : Type 0 where
  pub phase : Phase
  pub passed : List Segment
  pub oldest : ℕ
  pub filed : ℕ → Option Segment

abbrev pub fresh_receiver : Receiver
fresh_receiver = record { phase = fresh; passed = []; oldest = 0; filed = λ i. none }

-- the window's start
abbrev pub start_of : Receiver → ℕ
start_of r = length r.passed

-- Calls at this end. `arrival i q g`: a Data packet arrives, numbered q, with the segment g. It is a copy of one handed out for the
-- segment i, of which the end sees nothing. `control` and `noise` as at the sender.
pub data ReceiverCall : Type 0 where
  control : Phase → ReceiverCall
  arrival : ℕ → ℕ → Segment → ReceiverCall
  take_unit : ReceiverCall
  noise : ReceiverCall

-- the units that wait to be taken: 'complete when the start has passed its last segment'. An unfinished one is never shown
abbrev pub waiting : Receiver → List DataUnit
waiting r = units [] (drop r.oldest r.passed)

-- 'The start moves past every leading number held', at most n of them, up to a break of the flags: what it has passed then, and whether
-- there was no break
abbrev pub moved_past : Limits → Option Segment → (Segment → List Segment × Bool) → List Segment → List Segment × Bool
moved_past c none go l = (l, true)
moved_past c (some g) go l = if fitting c.segments (on_way 0 l) g then go g else (l, false)

abbrev pub moved : Limits → ℕ → (ℕ → Option Segment) → List Segment → List Segment × Bool
moved c zero filed l = (l, true)
moved c (suc n) filed l = moved_past c (filed (length l)) (λ g. moved c n filed (l ++ (g ∷ []))) l

-- ---- the steps: each takes what its tests gave

abbrev pub controlled : Bool → Receiver → Phase → Receiver × Answer
controlled false r p = (r, say 5)
controlled true r p = (record { phase = p; passed = r.passed; oldest = r.oldest; filed = r.filed }, say 0)

-- 'At a break, the new segment being filed already, the channel is inactive and no ack is sent' (9)
abbrev pub moved_answer : Bool → Receiver → (ℕ → Option Segment) → List Segment → Receiver × Answer
moved_answer true r filed l = (record { phase = r.phase; passed = l; oldest = r.oldest; filed = filed }, say 0)
moved_answer false r filed l = (record { phase = shut; passed = l; oldest = r.oldest; filed = filed }, say 9)

-- new: 8 where there is no room
abbrev pub placed : Limits → Bool → Receiver → ℕ → Segment → Receiver × Answer
placed c false r i g = (r, say 8)
placed c true r i g =
    let filed = put r.filed i (some g) in
    let m = moved c c.window filed r.passed in
    moved_answer m.1 r filed m.0

-- 'd < k and already held: acknowledged (15), first copy stays'
abbrev pub in_window : Limits → Option Segment → Receiver → ℕ → Segment → Receiver × Answer
in_window c (some x) r i g = (r, say 15)
in_window c none r i g = placed c (ltb i (r.oldest + c.slots)) r i g

-- 'd at least 256 - k: acknowledged, not accepted (15). Any other d: inactive' (9)
abbrev pub outside : Bool → Receiver → Receiver × Answer
outside true r = (r, say 15)
outside false r = (record { phase = shut; passed = r.passed; oldest = r.oldest; filed = r.filed }, say 9)

abbrev pub sorted : Limits → Bool → Receiver → ℕ → Segment → Receiver × Answer
sorted c true r d g = in_window c (r.filed (start_of r + d)) r (start_of r + d) g
sorted c false r d g = outside (leb (256 - c.window) d) r

-- 5 not OPEN
abbrev pub arrived : Limits → Bool → Receiver → ℕ → Segment → Receiver × Answer
arrived c false r d g = (r, say 5)
arrived c true r d g = sorted c (ltb d c.window) r d g

-- the oldest unit that waits, in every phase: 'complete units stay to be taken after the channel closes'; 12 none waits
abbrev pub taking : List DataUnit → Receiver → Receiver × Answer
taking [] r = (r, say 12)
taking (u ∷ l) r = (
  record { phase = r.phase; passed = r.passed; oldest = r.oldest + first_unit (drop r.oldest r.passed); filed = r.filed },
  give_unit u,
)

-- ---- every call

abbrev pub receiver_step : Limits → Receiver → ReceiverCall → Receiver × Answer
receiver_step c r (control p) = controlled (ltb (rank r.phase) (rank p)) r p
receiver_step c r (arrival i q g) = arrived c (is_open r.phase) r (distance q (number_at (start_of r))) g
receiver_step c r take_unit = taking (waiting r) r
receiver_step c r noise = (r, say 1)
