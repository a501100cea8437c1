-- What the numbers of Flow Control are as places of segments, counted from 0 as the protocol does (document 02, A5): the number stated is the place up to which
-- a receiver accepts, and what lies before it has room; a number stated that lies within the window past what was sent is recorded, never misread; and a sender
-- that obeys hands out nothing at or past the place recorded.
-- Assumes nothing.
use mathlib.Core.Path.{◌≡◌, refl, sym, ap, ap₂, ◌∙◌}
use mathlib.Core.Bool.{Bool, true, false, ◌&&◌, ◌||◌}
use Prim.Native.Nat.{ℕ, ◌+◌, ◌-◌, ◌%◌, ◌≤◌, ◌<◌}
use native.Mathlib.Omega.{arith}
use borrow.Author.Tests.{le-leb, lt-leb, leb-true, ltb-true}
use lib.Dec.{ltb, leb}
use Rattle.laws.specs.Choice.{if◌then◌else◌}
use Rattle.laws.proofs.Choice.{both, chosen}
use Rattle.channel.specs.declared.record.Limits.{Limits}
use Rattle.channel.specs.declared.record.Window.{Window}
use Rattle.channel.specs.Flow.{flows, past, acceptable, stated, highest, recorded_by, may_follow}
use Rattle.receiver_data.specs.Sorting.{no_room}
use Rattle.protocol.specs.Numbers.{number_at}

-- ---- a receiver

-- the first place that it does not accept: past the window, or with no slot
abbrev pub bound_at : Limits → Window → ℕ → ℕ
bound_at l w start = start + acceptable l w

module _ (l : Limits) (w : Window) (start : ℕ) where
  -- the number stated is that place's
  pub stated_place : w.start ≡ number_at start → stated l w ≡ bound_at l w start % 256
  unfolding number_at
  stated_place e = ap (λ (n : ℕ). past ((n + acceptable l w) % 256) 1) e ∙ omega arith

  -- what lies before it has room
  pub bound_room : (d : ℕ) → start + d < bound_at l w start → no_room l w d ≡ false
  bound_room d h = lt-leb l.slots (w.behind + d) (go (leb l.window (l.slots - w.behind)) refl h)
    where
      go : (b : Bool) → leb l.window (l.slots - w.behind) ≡ b → start + d < start + (if b then l.window else l.slots - w.behind) → w.behind + d < l.slots
      go true e q = omega (arith, leb-true l.window (l.slots - w.behind) e)
      go false e q = omega arith

-- ---- a sender: next is the place of the segment that it sends next, recorded that of the number recorded

-- two places, not too far apart, are told apart by their numbers
pub place_past : (a b : ℕ) → b ≤ a → a < b + 256 → past (a % 256) (b % 256) ≡ a - b
place_past a b h k = omega arith

module _ (l : Limits) (w : Window) (next recorded : ℕ) (small : l.window ≤ 128) (sent : next ≤ recorded) where
  -- a number stated is taken for what it is
  pub recorded_place : (place : ℕ) → highest w ≡ next % 256 → recorded ≤ place → place ≤ next + l.window → recorded_by l w (recorded % 256) (place % 256) ≡ place % 256
  recorded_place place high grows near =
      let new : past (place % 256) (highest w) ≡ place - next = ap (past (place % 256)) high ∙ place_past place next (omega arith) (omega arith) in
      let old : past (recorded % 256) (highest w) ≡ recorded - next = ap (past (recorded % 256)) high ∙ place_past recorded next sent (omega arith) in
      chosen _ (place % 256) (recorded % 256)
      (ap₂ (λ (x y : ℕ). leb x l.window && (ltb l.window y || leb y x)) new old
      ∙ ap₂ (λ (x y : Bool). x && (ltb l.window (recorded - next) || y)) (le-leb (place - next) l.window (omega arith)) (le-leb (recorded - next) (place - next) (omega arith))
      ∙ or_true (ltb l.window (recorded - next)))
    where
      or_true : (b : Bool) → (true && (b || true)) ≡ true
      or_true true = refl
      or_true false = refl

  -- and no segment goes out at or past it
  pub follow_place : (start : ℕ) → w.start ≡ number_at start → next ≡ start + w.flight → w.flight ≤ l.window → recorded ≤ next + l.window → flows l ≡ true
      → may_follow l w (recorded % 256) ≡ true
      → next < recorded
  unfolding number_at
  follow_place start e at few near used may =
      let d = past (recorded % 256) w.start in
      let p = both (ltb d 128) (leb w.flight d) (sym (chosen (flows l) _ true used) ∙ may) in
      let is : d ≡ past (recorded % 256) ((start + 1) % 256) = ap (past (recorded % 256)) e in
      omega (arith, ltb-true d 128 p.0, leb-true w.flight d p.1, is)
