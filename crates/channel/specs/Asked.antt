-- What the steps of both ends ask of their caller, who has tested it.
use Rattle.std.specs.Prelude.{ℕ, ◌<◌, ◌≤◌, List}
use Rattle.slots.specs.Slots.{Sized}
use Rattle.channel.specs.declared.record.Limits.{Limits}
use Rattle.channel.specs.declared.record.Window.{Window}
use Rattle.channel.specs.declared.record.Channel.{Channel}
use Rattle.channel.specs.Standing.{Standing}

-- the numbers of a window on its ring; a record that stands has them (`ringed` of proofs/StandingLaws.antt). A fact that functions ask, and no type that
-- holds it: it ties two parts of a lent record, which steps change apart, so such a value would be made anew, with its proof, at each call; and lent
-- records hold numbers alone
pub record Ringed (l : Limits) (w : Window) : Type 0 where
  pub window : l.window ≤ 128
  pub most : l.slots ≤ 128
  pub octet : 1 ≤ l.payload
  pub payload : l.payload ≤ 1024
  pub segments : l.segments ≤ l.slots
  pub place : w.place < l.slots
  pub behind : w.behind ≤ l.slots
  pub ahead : w.ahead ≤ l.slots
  pub flight : w.flight ≤ w.ahead
  pub way : w.way ≤ w.behind

-- the record stands with its lengths, and the memory has the settings' size
pub record Asked (c : Channel) (mem lens : List ℕ) : Type 0 where
  pub standing : Standing c lens
  pub sized : Sized c.limits.slots c.limits.payload mem lens
