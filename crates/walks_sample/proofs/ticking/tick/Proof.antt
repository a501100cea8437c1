-- `tick` meets its contract: an instance of the walk of `Sweeping.antt`.
-- Assumes nothing.
use Rattle.walks.proofs.Walk.{tables, tables_of, triple_of, entered}
use mathlib.Core.Path.{refl}
use mathlib.Core.Bool.{true}
use Rattle.walks.proofs.Plain.{of}
use Rattle.walks_sweeping.proofs.Sweeping.{sweeping_meets}
use Rattle.walks_sweeping.proofs.Testing.{sweeping}
use Rattle.walks_sample.specs.Surveying.{blank, is_low, surveyed}
use Rattle.walks_sample.specs.Ticking.{turned, begun, judged, started, concluded, end_lines, ticked}
use Rattle.walks_sample.proofs.Low.{low}
use Rattle.walks_sample.proofs.Types.{tested, carried, round, swept, stepped, summed}
use Rattle.walks_sample.proofs.ticking.tick_begin.Symbol as tick_begin-def
use Rattle.walks_sample.proofs.ticking.tick_begin.Met as tick_begin-thm
use Rattle.walks_sample.proofs.surveying.survey.Symbol as survey-def
use Rattle.walks_sample.proofs.surveying.survey.Met as survey-thm
use Rattle.walks_sample.proofs.ticking.judge.Symbol as judge-def
use Rattle.walks_sample.proofs.ticking.judge.Met as judge-thm
use Rattle.walks_sample.proofs.ticking.tick_start.Symbol as tick_start-def
use Rattle.walks_sample.proofs.ticking.tick_start.Met as tick_start-thm
use Rattle.walks_sample.proofs.ticking.tick_all.Symbol as tick_all-def
use Rattle.walks_sample.proofs.ticking.tick_all.Met as tick_all-thm
use Rattle.walks_sample.proofs.ticking.tick_end.Symbol as tick_end-def
use Rattle.walks_sample.proofs.ticking.tick_end.Met as tick_end-thm
use Rattle.walks_sample.specs.contracts.ticking.tick.Key.{name as #tick}
use Rattle.walks_sample.specs.contracts.ticking.tick as this
use Rattle.walks_sample.proofs.ticking.tick.Statement as stated
use Rattle.walks_sample.proofs.ticking.tick.Code as code

pub tick_spec : {M : Type 1} → stated.statement M
unfolding tables_of
tick_spec 𝓤 𝓛 𝓜 𝓡 wired =
    entered 𝓤 𝓛.H (triple_of 𝓛 this.signature (this.spec 𝓛 𝓜.mem 𝓡.returns))
    (tables 𝓤 𝓛.H 𝓜 𝓡 𝓡.env).C (tables 𝓤 𝓛.H 𝓜 𝓡 𝓡.env).Λ #tick code.function (code.unfolded 𝓤 𝓛.H 𝓜 𝓡 wired)
    (sweeping_meets tested carried round
    (sweeping tested (of carried) round swept stepped summed blank begun surveyed judged started true is_low turned concluded end_lines ticked (λ ys m l li e. low l (begun li) ys e) (λ ys m l li. refl))
    tick_begin-def.name survey-def.name judge-def.name tick_start-def.name tick_all-def.name tick_end-def.name 𝓛 (tables_of 𝓤 𝓛.H 𝓜 (tables 𝓤 𝓛.H 𝓜 𝓡 𝓡.env))
    (tick_begin-thm.met 𝓤 𝓛 𝓜 𝓡 (code.calls-walks_sample::ticking::tick_begin 𝓡.env wired))
    (survey-thm.met 𝓤 𝓛 𝓜 𝓡 (code.calls-walks_sample::surveying::survey 𝓡.env wired))
    (judge-thm.met 𝓤 𝓛 𝓜 𝓡 (code.calls-walks_sample::ticking::judge 𝓡.env wired))
    (tick_start-thm.met 𝓤 𝓛 𝓜 𝓡 (code.calls-walks_sample::ticking::tick_start 𝓡.env wired))
    (tick_all-thm.met 𝓤 𝓛 𝓜 𝓡 (code.calls-walks_sample::ticking::tick_all 𝓡.env wired))
    (tick_end-thm.met 𝓤 𝓛 𝓜 𝓡 (code.calls-walks_sample::ticking::tick_end 𝓡.env wired)))
