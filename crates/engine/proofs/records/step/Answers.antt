-- `engine::records::step` meets its contract: a tick by its law.
use Rattle.engine.proofs.RecordLaws.{replays_tick}
use Rattle.engine.proofs.records.step.Goals as goal

pub returns-then-kind-eq-TICK : goal.returns-then-kind-eq-TICK
returns-then-kind-eq-TICK c =
    let a = c.args in
    replays_tick a.t a.mem.now a.lens.now a.lines.now a.node a.kind a.body.now a.out.now _ _ _ c.if-kind-eq-TICK.true c.tick_in.ensures
