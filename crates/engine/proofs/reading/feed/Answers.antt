-- `engine::reading::feed` meets its contract. The loop's invariant: what was to be read is what is still to be read, behind the octets that are held.
use mathlib.Core.Path.{sym, ◌∙◌}
use native.Mathlib.Omega.{arith}
use Rattle.engine.proofs.ReadingLaws.{begins, goes_on, gives_record}
use Rattle.engine.proofs.reading.feed.Goals as goal

pub loop-at-init : goal.loop-at-init
loop-at-init c = begins _ _ _ _ _ c.still_held-n.ensures.0 c.still_held-n.ensures.1 (omega arith)

pub returns-then-ends_record-clause-feeds : goal.returns-then-ends_record-clause-feeds
returns-then-ends_record-clause-feeds c =
    let l = c.loop-at in
    λ h. gives_record _ _ _ _ l.buffer l.n l.at l.invariant (omega arith) c.little.result c.little.ensures (sym c.ends_record.ensures.0 ∙ c.if-ends_record.true)

pub loop-at-preserved : goal.loop-at-preserved
loop-at-preserved c =
    let l = c.loop-at in
    goes_on _ _ _ _ l.buffer l.n l.at l.invariant (omega arith) (sym c.ends_record.ensures.0 ∙ c.if-ends_record.false) c.ends_record.ensures.1
