-- What the two ends of a channel have in common over one opening.
use Rattle.std.specs.Prelude.{ℕ, Bool, [], eqb, if◌then◌else◌}
use Rattle.protocol.specs.Units.{DataUnit, Segment, blank}

-- window k, slots, most payload octets P, most segments in a unit M
pub record Limits : Type 0 where
  pub window : ℕ
  pub slots : ℕ
  pub payload : ℕ
  pub segments : ℕ

-- Over one opening an end's state only goes forward: `fresh` is CLOSED before the Open directive, `shut` is CLOSED after it, inactive or
-- not. Delivery asks no more of Open, Close, ticks, timers and retries: whatever they do is a move to a later phase.
pub data Phase : Type 0 where
  fresh enabled opened closing shut : Phase

abbrev pub rank : Phase → ℕ
rank fresh = 0
rank enabled = 1
rank opened = 2
rank closing = 3
rank shut = 4

abbrev pub is_open : Phase → Bool
is_open p = eqb (rank p) 2

abbrev pub is_shut : Phase → Bool
is_shut p = eqb (rank p) 4

-- An answer: its number in document 01 ('Answer numbers'), and what comes with it, as far as it concerns delivery: the unit written, how many
-- units are confirmed, the segment in the Data packet written.
pub record Answer : Type 0 where
  pub number : ℕ
  pub unit : DataUnit
  pub count : ℕ
  pub segment : Segment

-- a number alone
abbrev pub say : ℕ → Answer
say n = record { number = n; unit = []; count = 0; segment = blank }

-- 0, done, with a unit; with a count; with a segment
abbrev pub give_unit : DataUnit → Answer
give_unit u = record { number = 0; unit = u; count = 0; segment = blank }

abbrev pub give_count : ℕ → Answer
give_count n = record { number = 0; unit = []; count = n; segment = blank }

abbrev pub give_segment : Segment → Answer
give_segment g = record { number = 0; unit = []; count = 0; segment = g }

-- f with v at i
abbrev pub put : {A : Type 0} → (ℕ → A) → ℕ → A → ℕ → A
put f i v j = if eqb j i then v else f j
