-- `host::calls::peat_close` meets its contract: what the door leaves, told as C sees it; a directive leaves memory and lengths.
use Rattle.std.proofs.Common.{ap, ◌∙◌, []}
use Rattle.walks.specs.Serving.{Called, changes}
use Rattle.channel.specs.declared.record.Channel.{Channel}
use Rattle.keeps.proofs.Staying.{close_stays}
use Rattle.host.specs.declared.answers.Said.{Said}
use Rattle.host.proofs.calls.peat_close.Goals as goal

pub returns : goal.returns
returns c =
    let a = c.args in
    let e = c.serve_said.ensures in
    let stays = close_stays a.t.now a.mem.now a.lens.now a.lines.now [] [] a.index in (
      ap (λ (w : Called Said Channel). changes w.answer w.table w.lines) e,
      ap (λ (w : Called Said Channel). w.mem) e ∙ stays.0,
      ap (λ (w : Called Said Channel). w.lens) e ∙ stays.1,
    )
