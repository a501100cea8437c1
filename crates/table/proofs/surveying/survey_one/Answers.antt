-- `table::surveying::survey_one` meets its contract: a record that stands has limits that are fit.
use Rattle.std.proofs.Common.{sym, ◌∙◌, arith}
use Rattle.channel.proofs.SettingsLaws.{fit_is}
use Rattle.channel.proofs.StandingLaws.{stands_is}
use Rattle.table.proofs.surveying.survey_one.Goals as goal

pub note-requires : goal.note-requires
note-requires c =
    let a = c.args in
    let f = fit_is a.c.limits (stands_is a.c _ (sym c.stands_at.ensures ∙ c.if-stands_at.true)).fit in
    (c.if-j-lt-MOST_RECORDS.true, f.most, f.payload, omega (arith, c.if-v-le-MOST_SLOTS.true), c.if-v-le-MOST_OCTETS.true)
