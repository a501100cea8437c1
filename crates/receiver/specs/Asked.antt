-- What the steps of a receive end ask of their caller beside what those of both ends do (specs/Asked.antt of channel).
use Rattle.std.specs.Prelude.{ℕ, ◌≤◌, ◌<◌, List, length}
use Rattle.channel.specs.declared.record.Channel.{Channel}
use Rattle.channel.specs.Asked.{Asked}

-- for Data: its flags are two bits, and its payload p fits a slot
pub record DataAsked (c : Channel) (flags : ℕ) (p mem lens : List ℕ) : Type 0 where
  pub asked : Asked c mem lens
  pub few : flags < 4
  pub short : length p ≤ c.limits.payload
