-- Laws of where a number lies: one for each case.
-- Assumes nothing.
use Rattle.std.proofs.Common.{◌≡◌, ℕ, ◌+◌, ◌-◌, ◌<◌, ◌≤◌, true, false, not, eqb, List, get_or, le-ltb, lt-ltb, le-leb}
use borrow.Author.Tests.{lt-leb}
use Rattle.channel.specs.declared.record.Limits.{Limits}
use Rattle.channel.specs.declared.record.Window.{Window}
use Rattle.receiver_data.specs.declared.sorting.Sort.TheVariants.{New, Held, Behind, Other}
use Rattle.receiver_data.specs.Sorting.{place_at, is_held, sort_at}

module _ (l : Limits) (w : Window) (marks : List ℕ) (d : ℕ) where
  pub held_no_room : l.slots ≤ w.behind + d → is_held l w marks d ≡ false
  unfolding is_held
  held_no_room h = simp (le-leb _ _ h)

  pub held_room : w.behind + d < l.slots → is_held l w marks d ≡ not (eqb (get_or marks (place_at l w d) 0) 0)
  unfolding is_held
  held_room h = simp (lt-leb _ _ h)

  pub sort_held : d < l.window → is_held l w marks d ≡ true → sort_at l w marks d ≡ Held
  unfolding sort_at
  sort_held a e = simp (lt-ltb _ _ a, e)

  pub sort_new : d < l.window → is_held l w marks d ≡ false → sort_at l w marks d ≡ New
  unfolding sort_at
  sort_new a e = simp (lt-ltb _ _ a, e)

  pub sort_behind : l.window ≤ d → 256 - l.window ≤ d → sort_at l w marks d ≡ Behind
  unfolding sort_at
  sort_behind a b = simp (le-ltb _ _ a, le-leb _ _ b)

  pub sort_other : l.window ≤ d → d < 256 - l.window → sort_at l w marks d ≡ Other
  unfolding sort_at
  sort_other a b = simp (le-ltb _ _ a, lt-leb _ _ b)
