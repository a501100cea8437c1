-- `arrivals::finding::look_of` meets its contract: by the test for 11, and what the reader says.
use mathlib.Core.Path.{ap, ◌∙◌}
use borrow.Author.Tests.{lt-ltb, le-ltb}
use Rattle.std.specs.Prelude.{Result}
use Rattle.packet.specs.declared.reading.Found.{Found}
use Rattle.packet.specs.declared.reading.ReadError.{ReadError}
use Rattle.packet.specs.Layout.{least}
use Rattle.arrivals.specs.Finding.{look_of, look_by}
use Rattle.arrivals.proofs.finding.look_of.Goals as goal

pub returns-then-room-lt-LEAST : goal.returns-then-room-lt-LEAST
unfolding look_of
returns-then-room-lt-LEAST c = let a = c.args in simp (lt-ltb a.room least c.if-room-lt-LEAST.true) c.seek.ensures

pub returns : goal.returns
unfolding look_of
returns c =
    let a = c.args in
    c.look_by.ensures
    ∙ ap (λ (z : Result Found ReadError). look_by a.node a.packet.now z) c.read_packet.ensures
    ∙ simp (le-ltb a.room least c.if-room-lt-LEAST.false)
