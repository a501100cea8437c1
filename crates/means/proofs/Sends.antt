-- What a sending record with its octets and lengths means: the protocol's sender it stands for, and what that says at once. A segment is found
-- by how far it lies from the oldest one held, as the record counts.
-- Assumes nothing.
use mathlib.Core.Path.{◌≡◌, refl, ap}
use mathlib.Core.Bool.{Bool, true, false, not}
use mathlib.Core.List.{List, []}
use mathlib.Core.Option.{some}
use Prim.Native.Nat.{ℕ, suc, ◌+◌, ◌≤◌, ◌<◌}
use native.Mathlib.Omega.{arith}
use lib.Dec.{eqb}
use lib.ListN.{length, get_or}
use Rattle.slots.specs.Ring.{round_of}
use Rattle.channel.specs.declared.record.Channel.{Channel}
use Rattle.channel.specs.Record.{sends, held_in}
use Rattle.channel.specs.Record as record_of
use Rattle.channel.specs.Standing.{oldest_of}
use Rattle.channel.specs.Asked.{Asked}
use Rattle.protocol.specs.Numbers.{number_at}
use Rattle.protocol.specs.Units.{Segment, blank}
use Rattle.protocol.specs.Ends.{Phase, fresh, enabled, opened, closing, shut, rank, is_open}
use Rattle.protocol.specs.Sending.{Sender, fresh_sender}
use Rattle.protocol.proofs.Small.{yes_no}
use Rattle.means.specs.Meaning.{state_of, lying}
use Rattle.sender.specs.Directives.{place_at}

-- the place of the j-th segment held, from the oldest on
abbrev pub held_at : Channel → ℕ → ℕ
held_at c j = round_of c.limits.slots (oldest_of c.limits.slots c.window + j)

-- before the Open directive nothing is held and nothing was sent; what else the record has is of an opening before, and all of it goes then
pub record Before (c : Channel) (s : Sender) : Type 0 where
  pub empty : held_in c.window ≡ 0
  pub line : s.line ≡ []
  pub oldest : s.oldest ≡ 0
  pub start : s.start ≡ 0
  pub next : s.next ≡ 0
  pub acked : (i : ℕ) → s.acked i ≡ false

-- what is held: the line from its oldest segment held to its end, which is a unit's end
pub record Holds (c : Channel) (mem lens : List ℕ) (line : List Segment) (oldest : ℕ) : Type 0 where
  pub count : held_in c.window + oldest ≡ length line
  pub each : (j : ℕ) → j < held_in c.window → lying c mem lens (held_at c j) ≡ some (get_or line (oldest + j) blank)
  pub whole : (i : ℕ) → suc i ≡ length line → (get_or line i blank).last ≡ true
  pub marks : length c.marks ≡ 128
  pub acks : length c.acked ≡ 128

-- the window: its start by number and by count, what was handed out, and what is acknowledged, which was handed out
pub record Windowed (c : Channel) (oldest start next : ℕ) (acked : ℕ → Bool) : Type 0 where
  pub number : c.window.start ≡ number_at start
  pub behind : c.window.behind + oldest ≡ start
  pub flight : c.window.flight + start ≡ next
  pub noted : (j : ℕ) → j < c.window.ahead → eqb (get_or c.acked (place_at c j) 0) 0 ≡ not (acked (start + j))
  pub sent : (i : ℕ) → acked i ≡ true → i < next

-- the record means the sender. Out of OPEN the window is brought back to the oldest segment, and then it has no meaning
pub record Sends (c : Channel) (mem lens : List ℕ) (s : Sender) : Type 0 where
  pub state : c.phase.state ≡ state_of s.phase
  pub before : s.phase ≡ fresh → Before c s
  pub held : 1 ≤ rank s.phase → Holds c mem lens s.line s.oldest
  pub window : 1 ≤ rank s.phase → rank s.phase ≤ 2 → Windowed c s.oldest s.start s.next s.acked

-- ---- phases

pub not_fresh : (p : Phase) → 1 ≤ rank p → p ≡ fresh → ⊥
not_fresh p h e = let z : rank p ≡ 0 = ap rank e in omega arith

-- each state but CLOSED is one phase, and CLOSED is two
pub state_opened : (p : Phase) → state_of p ≡ record_of.opened → p ≡ opened
state_opened fresh e = absurd (omega arith)
state_opened enabled e = absurd (omega arith)
state_opened opened e = refl
state_opened closing e = absurd (omega arith)
state_opened shut e = absurd (omega arith)

pub open_state : (p : Phase) → is_open p ≡ true → state_of p ≡ record_of.opened
open_state fresh e = absurd (yes_no e refl)
open_state enabled e = absurd (yes_no e refl)
open_state opened e = refl
open_state closing e = absurd (yes_no e refl)
open_state shut e = absurd (yes_no e refl)

pub state_enabled : (p : Phase) → state_of p ≡ record_of.enabled → p ≡ enabled
state_enabled fresh e = absurd (omega arith)
state_enabled enabled e = refl
state_enabled opened e = absurd (omega arith)
state_enabled closing e = absurd (omega arith)
state_enabled shut e = absurd (omega arith)

pub state_closing : (p : Phase) → state_of p ≡ record_of.closing → p ≡ closing
state_closing fresh e = absurd (omega arith)
state_closing enabled e = absurd (omega arith)
state_closing opened e = absurd (omega arith)
state_closing closing e = refl
state_closing shut e = absurd (omega arith)

pub state_closed : (p : Phase) → state_of p ≡ record_of.closed → 1 ≤ rank p → p ≡ shut
state_closed fresh e h = absurd (omega arith)
state_closed enabled e h = absurd (omega arith)
state_closed opened e h = absurd (omega arith)
state_closed closing e h = absurd (omega arith)
state_closed shut e h = refl

-- ---- what it says at once

module _ (c : Channel) (mem lens : List ℕ) (s : Sender) (a : Asked c mem lens) (d : c.addresses.direction ≡ sends) (r : Sends c mem lens s) where
  pub sends_state : c.phase.state ≡ state_of s.phase
  sends_state = r.state

  pub sends_start : 1 ≤ rank s.phase → rank s.phase ≤ 2 → c.window.start ≡ number_at s.start
  sends_start h k = (r.window h k).number

-- a record in CLOSED that holds nothing means a sender before its Open directive
pub fresh_sends : (c : Channel) (mem lens : List ℕ) → c.phase.state ≡ record_of.closed → held_in c.window ≡ 0 → Sends c mem lens fresh_sender
fresh_sends c mem lens e n =
    record {
      state = e;
      before = λ p. record { empty = n; line = refl; oldest = refl; start = refl; next = refl; acked = λ i. refl };
      held = λ h. absurd (omega arith);
      window = λ h k. absurd (omega arith);
    }
