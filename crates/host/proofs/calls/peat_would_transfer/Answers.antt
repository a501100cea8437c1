-- `host::calls::peat_would_transfer` meets its contract: what the door leaves, told as C sees it; a question changes nothing.
use Rattle.std.proofs.Common.{ap, ◌∙◌, []}
use Rattle.walks.specs.Serving.{Called, changes}
use Rattle.channel.specs.declared.record.Channel.{Channel}
use Rattle.keeps.proofs.Staying.{question_stays, question_changes_nothing, question_lines_stay}
use Rattle.host.specs.declared.answers.Said.{Said}
use Rattle.host.proofs.calls.peat_would_transfer.Goals as goal

pub returns : goal.returns
returns c =
    let a = c.args in
    let e = c.serve_said.ensures in
    let stays = question_stays a.t.now a.mem.now a.lens.now a.lines.now [] [] a.index a.count in
    let table = question_changes_nothing a.t.now a.mem.now a.lens.now a.lines.now [] [] a.index a.count in
    let lines = question_lines_stay a.t.now a.mem.now a.lens.now a.lines.now [] [] a.index a.count in (
      ap (λ (w : Called Said Channel). changes w.answer w.table w.lines) e,
      ap (λ (w : Called Said Channel). w.table) e ∙ table,
      ap (λ (w : Called Said Channel). w.mem) e ∙ stays.0,
      ap (λ (w : Called Said Channel). w.lens) e ∙ stays.1,
      ap (λ (w : Called Said Channel). w.lines) e ∙ lines,
    )
