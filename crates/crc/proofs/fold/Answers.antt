-- `crc::fold` meets its contract: the code is the definition.
use mathlib.Core.Path.{refl}
use Rattle.crc.specs.Words.{fall_once, fall_twice, fall_four, fall_eight, spread, folded}
use Rattle.crc.proofs.fold.Goals as goal

pub returns : goal.returns
unfolding folded fall_once fall_twice fall_four fall_eight spread
returns c = refl
