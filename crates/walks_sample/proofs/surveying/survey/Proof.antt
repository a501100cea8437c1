-- `survey` meets its contract: an instance of the walk of `Fold.antt`.
-- Assumes nothing.
use Rattle.walks.proofs.Walk.{tables, tables_of, triple_of, entered}
use mathlib.Core.Path.{ap}
use mathlib.Core.List.{List}
use native.Mathlib.Omega.{arith}
use denote.Builtin.{u16}
use denote.Plain.{uint_row_laws}
use mir.Syntax.{w16}
use Rattle.std.proofs.lemmas.List.{take_all}
use mathlib.Core.Path.{◌≡◌}
use Rattle.walks.specs.Fold.{fold_from}
use Rattle.walks_sweeping.proofs.Fold.{fold_meets}
use Rattle.walks_sample.specs.declared.plain.Channel.{Channel}
use Rattle.walks_sample.specs.Surveying.{blank, noted, surveyed}
use Rattle.walks_sample.proofs.Types.{channel, carried}
use Rattle.walks_sample.proofs.surveying.looked_at.Symbol as looked_at-def
use Rattle.walks_sample.proofs.surveying.looked_at.Met as looked_at-thm
use Rattle.walks_sample.proofs.surveying.survey_one.Symbol as survey_one-def
use Rattle.walks_sample.proofs.surveying.survey_one.Met as survey_one-thm
use Rattle.walks_sample.specs.contracts.surveying.survey.Key.{name as #survey}
use Rattle.walks_sample.specs.contracts.surveying.survey as this
use Rattle.walks_sample.proofs.surveying.survey.Statement as stated
use Rattle.walks_sample.proofs.surveying.survey.Code as code

pub survey_spec : {M : Type 1} → stated.statement M
unfolding tables_of
survey_spec 𝓤 𝓛 𝓜 𝓡 wired =
    entered 𝓤 𝓛.H (triple_of 𝓛 this.signature (this.spec 𝓛 𝓜.mem 𝓡.returns))
    (tables 𝓤 𝓛.H 𝓜 𝓡 𝓡.env).C (tables 𝓤 𝓛.H 𝓜 𝓡 𝓡.env).Λ #survey code.function (code.unfolded 𝓤 𝓛.H 𝓜 𝓡 wired)
    (fold_meets channel blank tt u16 (uint_row_laws w16) carried noted surveyed (λ n k. k ≡ n) (λ n k e. omega (arith, e))
    (λ ys es a k e. ap (λ (zs : List Channel). fold_from noted es 0 a zs) (take_all k ys (omega (arith, e))))
    looked_at-def.name survey_one-def.name 𝓛 (tables_of 𝓤 𝓛.H 𝓜 (tables 𝓤 𝓛.H 𝓜 𝓡 𝓡.env))
    (looked_at-thm.met 𝓤 𝓛 𝓜 𝓡 (code.calls-walks_sample::surveying::looked_at 𝓡.env wired))
    (survey_one-thm.met 𝓤 𝓛 𝓜 𝓡 (code.calls-walks_sample::surveying::survey_one 𝓡.env wired)))
