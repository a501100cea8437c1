-- `serve` meets its contract: an instance of the walk of `Call.antt`.
-- Assumes nothing.
use Rattle.walks.proofs.Walk.{tables, tables_of, triple_of, entered}
use mathlib.Core.Path.{refl}
use mathlib.Core.Bool.{true}
use Rattle.walks.proofs.Plain.{of}
use Rattle.walks.proofs.Call.{call_meets}
use Rattle.walks.proofs.Serving.{calling}
use Rattle.walks_sample.specs.Surveying.{is_low, surveyed}
use Rattle.walks_sample.specs.Serving.{begun, decided, stepped, served as does}
use Rattle.walks_sample.proofs.Low.{may_serve}
use Rattle.walks_sample.proofs.Types.{served, request, carried}
use Rattle.walks_sample.proofs.serving.serve_begin.Symbol as serve_begin-def
use Rattle.walks_sample.proofs.serving.serve_begin.Met as serve_begin-thm
use Rattle.walks_sample.proofs.surveying.survey.Symbol as survey-def
use Rattle.walks_sample.proofs.surveying.survey.Met as survey-thm
use Rattle.walks_sample.proofs.serving.decide.Symbol as decide-def
use Rattle.walks_sample.proofs.serving.decide.Met as decide-thm
use Rattle.walks_sample.proofs.serving.serve_step.Symbol as serve_step-def
use Rattle.walks_sample.proofs.serving.serve_step.Met as serve_step-thm
use Rattle.walks_sample.specs.contracts.serving.serve.Key.{name as #serve}
use Rattle.walks_sample.specs.contracts.serving.serve as this
use Rattle.walks_sample.proofs.serving.serve.Statement as stated
use Rattle.walks_sample.proofs.serving.serve.Code as code

pub serve_spec : {M : Type 1} → stated.statement M
unfolding tables_of
serve_spec 𝓤 𝓛 𝓜 𝓡 wired =
    entered 𝓤 𝓛.H (triple_of 𝓛 this.signature (this.spec 𝓛 𝓜.mem 𝓡.returns))
    (tables 𝓤 𝓛.H 𝓜 𝓡 𝓡.env).C (tables 𝓤 𝓛.H 𝓜 𝓡 𝓡.env).Λ #serve code.function (code.unfolded 𝓤 𝓛.H 𝓜 𝓡 wired)
    (call_meets served request carried
    (calling served (of request) (of carried) surveyed decided begun true (λ c d n m l li x o. is_low c) may_serve stepped does (λ ys m l li n x o. refl))
    serve_begin-def.name survey-def.name decide-def.name serve_step-def.name 𝓛 (tables_of 𝓤 𝓛.H 𝓜 (tables 𝓤 𝓛.H 𝓜 𝓡 𝓡.env))
    (serve_begin-thm.met 𝓤 𝓛 𝓜 𝓡 (code.calls-walks_sample::serving::serve_begin 𝓡.env wired))
    (survey-thm.met 𝓤 𝓛 𝓜 𝓡 (code.calls-walks_sample::surveying::survey 𝓡.env wired))
    (decide-thm.met 𝓤 𝓛 𝓜 𝓡 (code.calls-walks_sample::serving::decide 𝓡.env wired))
    (serve_step-thm.met 𝓤 𝓛 𝓜 𝓡 (code.calls-walks_sample::serving::serve_step 𝓡.env wired)))
