-- `receiver_data::data::accept` meets its contract: a law of `accept_step` for each case.
use Rattle.std.proofs.Common.{sym, ◌∙◌}
use Rattle.receiver_data.proofs.DataLaws.{marked_ringed, accept_breaks, accept_done}
use Rattle.receiver_data.proofs.data.accept.Goals as goal

pub failed-requires : goal.failed-requires
failed-requires c = let a = c.args in marked_ringed a.c a.place a.flags _ _ c.mark-d.ensures c.move_start-moved.ensures c.requires.0

pub returns-then-moved : goal.returns-then-moved
returns-then-moved c = let a = c.args in c.failed.ensures ∙ sym (accept_breaks a.c a.place a.flags _ _ c.mark-d.ensures c.move_start-moved.ensures c.if-moved.true)

pub returns : goal.returns
returns c =
    let a = c.args in
    c.done.ensures
    ∙ sym (accept_done a.c a.place a.flags _ _ c.mark-d.ensures c.move_start-moved.ensures _ c.if-moved.false c.ack_length.ensures)
