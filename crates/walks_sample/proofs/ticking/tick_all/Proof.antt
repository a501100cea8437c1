-- `tick_all` meets its contract: an instance of the walk of `Sweep.antt`.
-- Assumes nothing.
use Rattle.walks.proofs.Walk.{tables, tables_of, triple_of, entered}
use mathlib.Core.Bool.{true}
use Rattle.walks_sweeping.proofs.Sweep.{sweep_meets}
use Rattle.walks_sample.specs.Surveying.{blank, is_low}
use Rattle.walks_sample.specs.Ticking.{turned}
use Rattle.walks_sample.proofs.Types.{channel, round, swept, stepped, summed}
use Rattle.walks_sample.proofs.ticking.tick_next.Symbol as tick_next-def
use Rattle.walks_sample.proofs.ticking.tick_next.Met as tick_next-thm
use Rattle.walks_sample.specs.contracts.ticking.tick_all.Key.{name as #tick_all}
use Rattle.walks_sample.specs.contracts.ticking.tick_all as this
use Rattle.walks_sample.proofs.ticking.tick_all.Statement as stated
use Rattle.walks_sample.proofs.ticking.tick_all.Code as code

pub tick_all_spec : {M : Type 1} → stated.statement M
unfolding tables_of
tick_all_spec 𝓤 𝓛 𝓜 𝓡 wired =
    entered 𝓤 𝓛.H (triple_of 𝓛 this.signature (this.spec 𝓛 𝓜.mem 𝓡.returns))
    (tables 𝓤 𝓛.H 𝓜 𝓡 𝓡.env).C (tables 𝓤 𝓛.H 𝓜 𝓡 𝓡.env).Λ #tick_all code.function (code.unfolded 𝓤 𝓛.H 𝓜 𝓡 wired)
    (sweep_meets channel round swept stepped summed blank tt true is_low (λ z c. absurd z) turned
    tick_next-def.name 𝓛 (tables_of 𝓤 𝓛.H 𝓜 (tables 𝓤 𝓛.H 𝓜 𝓡 𝓡.env))
    (tick_next-thm.met 𝓤 𝓛 𝓜 𝓡 (code.calls-walks_sample::ticking::tick_next 𝓡.env wired)))
