-- `sender::ticking::data_tick` meets its contract: a pair that is spent settles it, and else each timer has fallen.
use Rattle.std.proofs.Common.{◌∙◌, ℕ, List, sym, ap, rules}
use Rattle.channel.specs.Record.{with_timers}
use Rattle.channel.specs.Pulse.{beaten}
use Rattle.sender.specs.Ticking.{beat_tick}
use Rattle.sender.proofs.StepLaws.{any_spent_paired, data_spent, data_falls}
use Rattle.sender.proofs.ticking.data_tick.Goals as goal

pub returns-then-any_spent : goal.returns-then-any_spent
returns-then-any_spent c =
    let t = c.args.c.timers in
    search (rules, data_spent c.args.c (any_spent_paired t.left t.tries ∙ sym c.any_spent.ensures ∙ c.if-any_spent.true))

pub returns : goal.returns
returns c =
    let k = c.args.c in
    let t = k.timers in
    c.beat_tick.ensures
    ∙ ap (λ (left : List ℕ). beat_tick (with_timers k (record { closing = t.closing; left = left; tries = t.tries })) (beaten k.limits k.pulse)) c.lower_all.ensures
    ∙ sym (data_falls k (any_spent_paired t.left t.tries ∙ sym c.any_spent.ensures ∙ c.if-any_spent.false))
