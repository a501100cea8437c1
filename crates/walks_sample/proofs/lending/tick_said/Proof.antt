-- `tick_said` meets its contract: an instance of the walk of `LentSweeping.antt`.
-- Assumes nothing.
use Rattle.walks.proofs.Walk.{tables, tables_of, triple_of, entered}
use mathlib.Core.Path.{◌≡◌, ap}
use Rattle.walks.specs.Serving.{changes, telling}
use Rattle.walks_lending.proofs.LentSweeping.{lent_sweeping_meets}
use Rattle.walks_sample.specs.Ticking.{ticked}
use Rattle.walks_sample.specs.Saying.{said as turned}
use Rattle.walks_sample.proofs.Types.{channel, told, said}
use Rattle.walks_sample.proofs.ticking.tick.Symbol as tick-def
use Rattle.walks_sample.proofs.ticking.tick.Met as tick-thm
use Rattle.walks_sample.proofs.lending.said_of.Symbol as said_of-def
use Rattle.walks_sample.proofs.lending.said_of.Met as said_of-thm
use Rattle.walks_sample.specs.contracts.lending.tick_said.Key.{name as #tick_said}
use Rattle.walks_sample.specs.contracts.lending.tick_said as this
use Rattle.walks_sample.proofs.lending.tick_said.Statement as stated
use Rattle.walks_sample.proofs.lending.tick_said.Code as code

pub tick_said_spec : {M : Type 1} → stated.statement M
unfolding tables_of
tick_said_spec 𝓤 𝓛 𝓜 𝓡 wired =
    entered 𝓤 𝓛.H (triple_of 𝓛 this.signature (this.spec 𝓛 𝓜.mem 𝓡.returns))
    (tables 𝓤 𝓛.H 𝓜 𝓡 𝓡.env).C (tables 𝓤 𝓛.H 𝓜 𝓡 𝓡.env).Λ #tick_said code.function (code.unfolded 𝓤 𝓛.H 𝓜 𝓡 wired)
    (lent_sweeping_meets channel told said turned
    (λ ys m l li r zs li'. changes r zs li' ≡ ticked ys m l li)
    (λ ys m l li r zs li'. changes r zs li' ≡ telling turned (ticked ys m l li))
    (λ ys m l li a zs li' e. ap (telling turned) e)
    tick-def.name said_of-def.name 𝓛 (tables_of 𝓤 𝓛.H 𝓜 (tables 𝓤 𝓛.H 𝓜 𝓡 𝓡.env))
    (tick-thm.met 𝓤 𝓛 𝓜 𝓡 (code.calls-walks_sample::ticking::tick 𝓡.env wired))
    (said_of-thm.met 𝓤 𝓛 𝓜 𝓡 (code.calls-walks_sample::lending::said_of 𝓡.env wired)))
