-- `tick_in` meets its contract: an instance of the walk of `HeldSweeping.antt`.
-- Assumes nothing.
use Rattle.walks.proofs.Walk.{tables, tables_of, triple_of, entered}
use mathlib.Core.Path.{◌≡◌}
use Rattle.walks.specs.Serving.{changes}
use Rattle.walks_lending.proofs.HeldSweeping.{held_sweeping_meets}
use Rattle.walks_sample.specs.Ticking.{ticked}
use Rattle.walks_sample.proofs.Types.{held}
use Rattle.walks_sample.proofs.ticking.tick.Symbol as tick-def
use Rattle.walks_sample.proofs.ticking.tick.Met as tick-thm
use Rattle.walks_sample.specs.contracts.holding.tick_in.Key.{name as #tick_in}
use Rattle.walks_sample.specs.contracts.holding.tick_in as this
use Rattle.walks_sample.proofs.holding.tick_in.Statement as stated
use Rattle.walks_sample.proofs.holding.tick_in.Code as code

pub tick_in_spec : {M : Type 1} → stated.statement M
unfolding tables_of
tick_in_spec 𝓤 𝓛 𝓜 𝓡 wired =
    entered 𝓤 𝓛.H (triple_of 𝓛 this.signature (this.spec 𝓛 𝓜.mem 𝓡.returns))
    (tables 𝓤 𝓛.H 𝓜 𝓡 𝓡.env).C (tables 𝓤 𝓛.H 𝓜 𝓡 𝓡.env).Λ #tick_in code.function (code.unfolded 𝓤 𝓛.H 𝓜 𝓡 wired)
    (held_sweeping_meets held (λ ys m l li r zs li'. changes r zs li' ≡ ticked ys m l li)
    tick-def.name 𝓛 (tables_of 𝓤 𝓛.H 𝓜 (tables 𝓤 𝓛.H 𝓜 𝓡 𝓡.env))
    (tick-thm.met 𝓤 𝓛 𝓜 𝓡 (code.calls-walks_sample::ticking::tick 𝓡.env wired)))
