-- `node::door::serve_step` meets its contract: the step, with the index told, and the channel moved in the lines.
use Rattle.node.proofs.StepLaws.{placed_moved}
use Rattle.node.proofs.door.serve_step.Goals as goal

pub returns : goal.returns
returns c =
    let a = c.args in
    placed_moved a.d a.lines.now c.step_for-s.result _ _ _ _ _ _ _ c.move_lines.ensures c.rank_in.ensures c.waiting.ensures c.step_for-s.ensures
