-- `sender_acks::acks::data_ack_step` meets its contract: a law of `data_ack_step` for each case.
use Rattle.std.proofs.Common.{◌≡◌, ◌+◌, ◌≤◌, rules, false, sym, ap, ◌∙◌, arith}
use Rattle.slots.proofs.RingLaws.{round_lt}
use Rattle.sender_acks.specs.Acks.{away_of, is_awaited}
use Rattle.sender_acks.proofs.AckLaws.{data_ack_ignored, away_is, data_ack_is, awaited_sent}
use Rattle.sender_acks.proofs.acks.data_ack_step.Goals as goal

pub returns-then-not-is_awaited : goal.returns-then-not-is_awaited
returns-then-not-is_awaited c =
    let few : c.args.c.window.start ≤ 256 = search rules in
    let away = c.from-d.ensures ∙ away_is c.args.number c.args.c.window.start few in
    let no : is_awaited c.args.c (away_of c.args.c c.args.number) ≡ false =
    ap (is_awaited c.args.c) (sym away) ∙ sym c.is_awaited.ensures ∙ c.if-not-is_awaited.true in
    c.refused-then-not-is_awaited.ensures ∙ sym (data_ack_ignored c.args.c c.args.number c.if-c-ne-OPEN.false no)

pub note-noted-requires : goal.note-noted-requires
note-noted-requires c =
    let away = c.from-d.ensures in
    let yes' = sym c.is_awaited.ensures ∙ c.if-not-is_awaited.false in
    let sent = awaited_sent c.args.c _ yes' in
    let p = c.requires in
    let l = round_lt c.args.c.limits.slots (c.args.c.window.place + c.from-d.result) (omega (arith, p.place, p.flight, p.ahead)) in
    (c.round.ensures, omega (arith, c.round.ensures, p.most))

pub returns : goal.returns
returns c =
    let few : c.args.c.window.start ≤ 256 = search rules in
    let away = c.from-d.ensures ∙ away_is c.args.number c.args.c.window.start few in
    let yes' = sym c.is_awaited.ensures ∙ c.if-not-is_awaited.false in
    let sent = awaited_sent c.args.c _ yes' in
    data_ack_is c.args.c c.args.number c.from-d.result c.note-noted.result c.run-n.result c.ends_in-confirmed.result c.advance.result c.if-c-ne-OPEN.false yes'
    away
    c.note-noted.ensures
    c.run-n.ensures
    c.ends_in-confirmed.ensures
    c.advance.ensures
