-- The starred numbers of document 01, Numbers to check: one table, one proof, by computation.
-- Assumes nothing.
use Prim.Native.Nat.{ℕ}
use mathlib.Core.Bool.{Bool, true, ◌&&◌}
use mathlib.Core.List.{List, [], ◌∷◌}
use lib.Dec.{T, eqb}
use Rattle.slots.specs.Ring.{round_of}
use Rattle.slots.specs.Units.{segments_of}
use Rattle.channel.specs.declared.record.Channel.{Channel}
use Rattle.channel.specs.Answers.{number_of}
use Rattle.channel.specs.Prefixes.{no_prefix}
use Rattle.channel.specs.Record.{receives, opened, fresh_phase, no_lone, no_pulse, no_timers, no_marks}
use Rattle.receiver_data.specs.Sorting.{is_held, sort_at}
use Rattle.receiver_data.specs.Moving.{moved_by}
use Rattle.receiver_data.specs.Data.{accept_step, data_step}

-- an open channel with 128 slots, a window and its start, and nothing held
abbrev pub open_at : ℕ → ℕ → Channel
open_at start k =
    record {
      addresses = record { channel = 1; remote = 65; direction = receives; prefix = no_prefix; own = no_prefix };
      limits = record { window = k; slots = 128; payload = 16; segments = 4; timeout = 4; closing = 4; retries = 2; interval = 0; flow = 0; spare = 0; lead = 0 };
      phase = fresh_phase opened no_lone;
      pulse = no_pulse;
      window = record { start = start; place = 0; behind = 0; ahead = 0; flight = 0; way = 0 };
      timers = no_timers;
      marks = no_marks;
      acked = no_marks;
    }

-- the answer to Data with a number, a whole unit
abbrev pub answer_at : ℕ → ℕ → ℕ → ℕ
answer_at start k number = number_of (data_step (open_at start k) number 3).answer

-- what the definitions give, and what document 01 says
pub record Row : Type 0 where
  pub given : ℕ
  pub said : ℕ

abbrev pub is : ℕ → ℕ → Row
is given said = record { given = given; said = said }

-- accepted 0, inactive 9, acknowledged and not accepted 15; then the segments of a unit at P 16
abbrev pub rows : List Row
rows =
    is (answer_at 1 64 64) 0
    ∷ is (answer_at 1 64 65) 9
    ∷ is (answer_at 1 64 192) 9
    ∷ is (answer_at 1 64 193) 15
    ∷ is (answer_at 1 64 0) 15
    ∷ is (answer_at 250 16 9) 0
    ∷ is (answer_at 250 16 10) 9
    ∷ is (answer_at 250 16 234) 15
    ∷ is (answer_at 250 16 233) 9
    ∷ is (segments_of 16 0) 1
    ∷ is (segments_of 16 16) 1
    ∷ is (segments_of 16 17) 2
    ∷ is (segments_of 16 48) 3
    ∷ is (segments_of 16 49) 4
    ∷ []

abbrev pub all_right : List Row → Bool
all_right [] = true
all_right (r ∷ rs) = eqb r.given r.said && all_right rs

pub starred : T (all_right rows)
unfolding data_step sort_at is_held accept_step moved_by round_of
starred = tt
