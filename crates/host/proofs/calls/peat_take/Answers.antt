-- `host::calls::peat_take` meets its contract: what the door leaves, told as C sees it; memory and lengths stay.
use Rattle.std.proofs.Common.{ap, ◌∙◌, []}
use Rattle.walks.specs.Serving.{Called}
use Rattle.channel.specs.declared.record.Channel.{Channel}
use Rattle.keeps.proofs.Staying.{take_stays}
use Rattle.host.specs.declared.answers.Said.{Said}
use Rattle.host.proofs.calls.peat_take.Goals as goal

pub returns : goal.returns
returns c =
    let a = c.args in
    let e = c.serve_said.ensures in
    let stays = take_stays a.t.now a.mem.now a.lens.now a.lines.now [] a.out.now a.index in (
      e,
      ap (λ (w : Called Said Channel). w.mem) e ∙ stays.0,
      ap (λ (w : Called Said Channel). w.lens) e ∙ stays.1,
    )
