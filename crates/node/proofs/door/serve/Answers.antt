-- `node::door::serve` meets its contract: the decision of the survey, and the step of the record that is served.
use mathlib.Core.Path.{refl}
use lib.ListN.{length}
use Rattle.table.specs.Serving.{blank}
use Rattle.node.specs.Calls.{look_in, step_for}
use Rattle.node.proofs.DoorLaws.{decided_is, step_asked, step_stored, none_served}
use Rattle.node.proofs.door.serve.Goals as goal

pub serve_step-s-requires : goal.serve_step-s-requires
serve_step-s-requires c =
    let a = c.args in
    let look = look_in a.n a.x.now (length a.out.now) in
    let e = decided_is look a.t.now a.mem.now a.lens.now a.lines.now _ _ _ c.decide-d.result refl c.serve_begin-a.ensures c.survey-v.ensures c.decide-d.ensures in
    step_asked look a.t.now a.mem.now a.lens.now a.lines.now _ c.decide-d.result e c.if-d-t.true

pub returns-then-d-t : goal.returns-then-d-t
returns-then-d-t c =
    let a = c.args in
    let look = look_in a.n a.x.now (length a.out.now) in
    let e = decided_is look a.t.now a.mem.now a.lens.now a.lines.now _ _ _ c.decide-d.result refl c.serve_begin-a.ensures c.survey-v.ensures c.decide-d.ensures in
    step_stored look a.t.now a.mem.now a.lens.now a.lines.now _ (step_for a.n a.x.now) a.out.now c.decide-d.result e c.if-d-t.true c.serve_step-s.result _ _ _ _ c.serve_step-s.ensures

pub returns-else-d-t : goal.returns-else-d-t
returns-else-d-t c =
    let a = c.args in
    let look = look_in a.n a.x.now (length a.out.now) in
    let e = decided_is look a.t.now a.mem.now a.lens.now a.lines.now _ _ _ c.decide-d.result refl c.serve_begin-a.ensures c.survey-v.ensures c.decide-d.ensures in
    none_served look a.t.now a.mem.now a.lens.now a.lines.now blank (step_for a.n a.x.now) a.out.now c.decide-d.result e c.if-d-t.false
