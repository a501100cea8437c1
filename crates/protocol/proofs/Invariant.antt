-- The invariant of a run, in six parts, each over the components that it speaks of, and all over readings of the history: what was accepted,
-- confirmed, reclaimed, taken, `Out` for the packets handed out, `Back` for the Data Acks written.
-- Assumes nothing.
use mathlib.Core.Path.{◌≡◌}
use mathlib.Core.Bool.{Bool, true, false}
use mathlib.Core.List.{List, [], ◌++◌}
use mathlib.Core.Option.{Option, none, some}
use Prim.Native.Nat.{ℕ, ◌+◌, ◌≤◌, ◌<◌}
use lib.ListN.{length, take, drop, get_or}
use Rattle.protocol.specs.Units.{DataUnit, Segment, blank, cuts, units, endings, whole_to}
use Rattle.protocol.specs.Ends.{Limits, Phase, rank, is_shut}
use Rattle.protocol.specs.Sending.{Sender}
use Rattle.protocol.specs.Receiving.{Receiver}
use Rattle.protocol.specs.History.{accepted, confirmed, reclaimed, taken, Sent, Acked}
use Rattle.protocol.specs.Delivery.{Run}

module _ (c : Limits) where
  -- The sender's book: what was accepted is what was cut; what was confirmed lies below the start; what was reclaimed comes next.
  pub record Book (acc : List DataUnit) (cnt : ℕ) (back : List DataUnit) (phase : Phase) (line : List Segment) (oldest start : ℕ) : Type 0 where
    pub cut_all : line ≡ cuts c.payload acc
    pub counted : cnt ≡ endings (take start line)
    pub live : is_shut phase ≡ false → (back ≡ []) × (oldest ≡ whole_to 0 0 (take start line))
    pub given : back ++ units [] (drop oldest line) ≡ units [] (drop (whole_to 0 0 (take start line)) line)

  -- The sender's window.
  pub record Window (line : List Segment) (start next : ℕ) : Type 0 where
    pub order : start ≤ next
    pub within : next ≤ start + c.window
    pub filled : next ≤ length line

  -- The link: Data on it is the sender's, Data Acks on it are for segments handed out, and what is marked acknowledged has one.
  pub record Link (Out : ℕ → Segment → Type 0) (Back : ℕ → Type 0) (line : List Segment) (next : ℕ) (acked : ℕ → Bool) : Type 0 where
    pub packets : (i : ℕ) (g : Segment) → Out i g → (i < next) × (get_or line i blank ≡ g)
    pub acks : (i : ℕ) → Back i → i < next
    pub marks : (i : ℕ) → acked i ≡ true → Back i

  -- What the receiver has is the sender's.
  pub record Copy (line : List Segment) (next : ℕ) (passed : List Segment) (filed : ℕ → Option Segment) : Type 0 where
    pub prefix : passed ≡ take (length passed) line
    pub inside : length passed ≤ next
    pub same : (i : ℕ) (g : Segment) → filed i ≡ some g → (i < next) × (get_or line i blank ≡ g)
    pub near : (i : ℕ) (g : Segment) → filed i ≡ some g → i < length passed + c.window

  -- A segment that no Data Ack answers keeps the sender's start at or behind the receiver's. It is some such segment, not always the one at the
  -- receiver's start: after a break of the flags that one may have been answered before.
  pub record Hole (Back : ℕ → Type 0) (start : ℕ) (phase : Phase) (passed : List Segment) (filed : ℕ → Option Segment) : Type 0 where
    pub hole : ℕ
    pub low : start ≤ hole
    pub high : hole ≤ length passed
    pub silent : Back hole → ⊥
    pub got : (i : ℕ) → Back i → filed i ≡ none → i < length passed
    pub early : rank phase ≤ 2 → filed (length passed) ≡ none

  -- What was taken is whole units from the front.
  pub record Took (tak : List DataUnit) (passed : List Segment) (oldest : ℕ) : Type 0 where
    pub upto : oldest ≤ length passed
    pub whole : (r : List Segment) → units [] (take oldest passed ++ r) ≡ tak ++ units [] r

  pub record Inv
      (acc : List DataUnit) (cnt : ℕ) (back tak : List DataUnit) (Out : ℕ → Segment → Type 0) (Back : ℕ → Type 0) (s : Sender) (r : Receiver)
      : Type 0 where
    pub book : Book acc cnt back s.phase s.line s.oldest s.start
    pub window : Window s.line s.start s.next
    pub link : Link Out Back s.line s.next s.acked
    pub copy : Copy s.line s.next r.passed r.filed
    pub gap : Hole Back s.start r.phase r.passed r.filed
    pub took : Took tak r.passed r.oldest

  abbrev pub Holds : Run → Type 0
  Holds w =
      Inv
      (accepted w.past)
      (confirmed w.past)
      (reclaimed w.past)
      (taken w.past)
      (Sent w.past)
      (Acked w.past)
      w.sender
      w.receiver
