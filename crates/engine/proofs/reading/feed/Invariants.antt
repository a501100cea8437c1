-- `engine::reading::feed` meets its contract. The loop's invariant: what was to be read is what is still to be read, behind the octets that are held.
use Rattle.engine.proofs.ReadingLaws.{Reads}
use Rattle.engine.proofs.reading.feed.Given as goal

abbrev pub invariant-loop-at : goal.invariant-loop-at
invariant-loop-at l = Reads l.initial.buffer l.held l.piece l.from l.buffer l.n l.at
