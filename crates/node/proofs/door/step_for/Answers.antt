-- `node::door::step_for` meets its contract: the step of each request.
use mathlib.Core.Path.{◌∙◌}
use Rattle.channel.proofs.StandingLaws.{ringed}
use Rattle.requests.specs.Requests.{opened_by, closed_by, asked_by}
use Rattle.node.proofs.StepLaws.{likewise, by_value, with_buffer}
use Rattle.node.proofs.door.step_for.Goals as goal

pub open_step-requires : goal.open_step-requires
open_step-requires c = let a = c.args in ringed a.c _ c.requires.0.standing

pub close_step-requires : goal.close_step-requires
close_step-requires c = let a = c.args in ringed a.c _ c.requires.0.standing

pub ask_step-requires : goal.ask_step-requires
ask_step-requires c = let a = c.args in ringed a.c _ c.requires.0.standing

pub returns-in-Open : goal.returns-in-Open
returns-in-Open c =
    let a = c.args in
    by_value a.c a.d a.mem.now a.lens.now a.out.now opened_by _ c.open_step.ensures
    ∙ likewise a.c a.d a.mem.now a.lens.now a.out.now a.n _ a.x.now c.in-Open.is

pub returns-in-Close : goal.returns-in-Close
returns-in-Close c =
    let a = c.args in
    by_value a.c a.d a.mem.now a.lens.now a.out.now closed_by _ c.close_step.ensures
    ∙ likewise a.c a.d a.mem.now a.lens.now a.out.now a.n _ a.x.now c.in-Close.is

pub returns-in-Transfer : goal.returns-in-Transfer
returns-in-Transfer c =
    let a = c.args in
    with_buffer a.c a.d a.mem.now a.lens.now a.out.now _ _ _ _ c.transfer_step.ensures
    ∙ likewise a.c a.d a.mem.now a.lens.now a.out.now a.n _ a.x.now c.in-Transfer.is

pub returns-in-WouldTransfer : goal.returns-in-WouldTransfer
returns-in-WouldTransfer c =
    let a = c.args in
    by_value a.c a.d a.mem.now a.lens.now a.out.now (asked_by _) _ c.ask_step.ensures
    ∙ likewise a.c a.d a.mem.now a.lens.now a.out.now a.n _ a.x.now c.in-WouldTransfer.is
