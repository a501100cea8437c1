-- `requests::steps::transfer_step` meets its contract: the parts are cut out, stepped, and put back.
use mathlib.Core.Path.{ap, ◌∙◌}
use mathlib.Core.List.{[]}
use borrow.Author.Tests.{eq-eqb, ne_eqb}
use lib.Dec.{eqb}
use Rattle.laws.proofs.Choice.{chosen, passed_by}
use Rattle.walks.specs.Serving.{works}
use Rattle.channel.specs.declared.step.Stepped.{Stepped}
use Rattle.channel.specs.Record.{sends}
use Rattle.channel.specs.Pairs.{filed}
use Rattle.sender_units.specs.Transfer.{transfer_mem, transfer_lens}
use Rattle.ends.proofs.KeepsTransfer.{transfer_sized}
use Rattle.table.specs.Surveying.{mine, mine_lens}
use Rattle.table.proofs.Parts.{quiet, parts_filed}
use Rattle.requests.specs.Requests.{transfer_for}
use Rattle.requests.proofs.steps.transfer_step.Goals as goal

pub returns-then-c-ne-SENDS : goal.returns-then-c-ne-SENDS
unfolding transfer_for
returns-then-c-ne-SENDS c = let a = c.args in ap (λ (x : Stepped). works x a.mem.now a.lens.now []) c.refused.ensures ∙ quiet (transfer_for a.unit.now) a.c a.d a.mem.now a.lens.now [] _ _ (passed_by (eqb a.c.addresses.direction sends) _ _ (ne_eqb _ _ c.if-c-ne-SENDS.true))

pub returns : goal.returns
unfolding transfer_for
returns c = let a = c.args in let s = c.requires in let u = filed a.c.limits a.unit.now in parts_filed (transfer_for a.unit.now) a.c a.d a.mem.now a.lens.now [] _ _ _ _ c.octets.ensures c.slots.ensures (λ m. transfer_mem a.c u m) (λ l. transfer_lens a.c u l) _ _ _ _ [] c.transfer_step.ensures.0 c.transfer_step.ensures.1 c.transfer_step.ensures.2 (transfer_sized a.c u (mine a.c a.d a.mem.now) (mine_lens a.c a.d a.lens.now) s.standing s.sized) (chosen (eqb a.c.addresses.direction sends) _ _ (eq-eqb _ _ c.if-c-ne-SENDS.false))
