-- What a receiving record with its octets and lengths means in the protocol: which receiver of an opening it stands for.
-- Assumes nothing.
use mathlib.Core.Path.{◌≡◌, refl}
use mathlib.Core.List.{List, []}
use mathlib.Core.Option.{Option, none, some}
use Prim.Native.Nat.{ℕ, ◌+◌, ◌≤◌, ◌<◌}
use native.Mathlib.Omega.{arith}
use lib.ListN.{length, get_or}
use Rattle.slots.specs.Ring.{round_of}
use Rattle.channel.specs.declared.record.Channel.{Channel}
use Rattle.channel.specs.Record as record_of
use Rattle.channel.specs.Record.{receives, held_in}
use Rattle.channel.specs.Standing.{oldest_of}
use Rattle.channel.specs.Asked.{Asked}
use Rattle.protocol.specs.Numbers.{number_at}
use Rattle.protocol.specs.Units.{Segment, blank, whole_to, on_way}
use Rattle.protocol.specs.Ends.{rank}
use Rattle.protocol.specs.Receiving.{Receiver, fresh_receiver, start_of}
use Rattle.means.specs.Meaning.{state_of, lying}

-- the segment j past the oldest one held
abbrev pub lying_at : Channel → List ℕ → List ℕ → ℕ → Option Segment
lying_at c mem lens j = lying c mem lens (round_of c.limits.slots (oldest_of c.limits.slots c.window + j))

-- Before the Open directive nothing is held, and nothing was received. What else the record has is of no account: the directive makes all afresh
pub record Before (c : Channel) (r : Receiver) : Type 0 where
  pub held : held_in c.window ≡ 0
  pub passed : r.passed ≡ []
  pub oldest : r.oldest ≡ 0
  pub filed : (i : ℕ) → r.filed i ≡ none

-- From the directive until OPEN is left: `l` are the segments that the start has passed, `base` is the first not yet taken, `f` are those accepted.
-- Places are counted from the oldest segment held. Two facts bound what is accepted: by the slots, and by the window. The record's move is
-- bounded by the first, the protocol's by the second.
pub record Within (c : Channel) (mem lens : List ℕ) (base : ℕ) (l : List Segment) (f : ℕ → Option Segment) : Type 0 where
  pub start : c.window.start ≡ number_at (length l)
  pub behind : c.window.behind + base ≡ length l
  pub way : c.window.way ≡ on_way 0 l
  pub view : (j : ℕ) → j < c.limits.slots → lying_at c mem lens j ≡ f (base + j)
  pub room : (i : ℕ) (g : Segment) → f i ≡ some g → i < base + c.limits.slots
  pub near : (i : ℕ) (g : Segment) → f i ≡ some g → i < length l + c.limits.window
  pub known : (i : ℕ) → i < length l → f i ≡ some (get_or l i blank)
  pub count : length c.marks ≡ 128

-- The complete units not yet taken: they lie there at any time. An unfinished one comes behind them until OPEN is left
pub record Whole (c : Channel) (mem lens : List ℕ) (base : ℕ) (l : List Segment) : Type 0 where
  pub complete : c.window.behind + base ≡ whole_to 0 0 l + c.window.way
  pub view : (j : ℕ) → j + c.window.way < c.window.behind → lying_at c mem lens j ≡ some (get_or l (base + j) blank)

-- After it the record has nothing else: unfinished units were dropped. In the protocol none is: it never shows one
pub record After (c : Channel) (mem lens : List ℕ) (base : ℕ) (l : List Segment) : Type 0 where
  pub whole : Whole c mem lens base l
  pub way : c.window.way ≡ 0

pub record Receives (c : Channel) (mem lens : List ℕ) (r : Receiver) : Type 0 where
  pub state : c.phase.state ≡ state_of r.phase
  pub before : rank r.phase ≡ 0 → Before c r
  pub within : 1 ≤ rank r.phase → rank r.phase ≤ 2 → Within c mem lens r.oldest r.passed r.filed
  pub after : 3 ≤ rank r.phase → After c mem lens r.oldest r.passed

-- a record in CLOSED with nothing held is one that was never opened
pub fresh_receives : (c : Channel) (mem lens : List ℕ) → c.phase.state ≡ record_of.closed → held_in c.window ≡ 0 → Receives c mem lens fresh_receiver
fresh_receives c mem lens s h =
    record {
      state = s;
      before = λ _. record { held = h; passed = refl; oldest = refl; filed = λ i. refl };
      within = λ p q. absurd (omega arith);
      after = λ p. absurd (omega arith);
    }

module _ (c : Channel) (mem lens : List ℕ) (r : Receiver) (asked : Asked c mem lens) (receiving : c.addresses.direction ≡ receives) (t : Receives c mem lens r) where
  pub receives_state : c.phase.state ≡ state_of r.phase
  receives_state = t.state

  pub receives_start : 1 ≤ rank r.phase → rank r.phase ≤ 2 → c.window.start ≡ number_at (start_of r)
  receives_start p q = (t.within p q).start
