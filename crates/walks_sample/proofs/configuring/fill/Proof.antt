-- `fill` meets its contract: an instance of the walk of `Afresh.antt`.
-- Assumes nothing.
use Rattle.walks.proofs.Walk.{tables, tables_of, triple_of, entered}
use Rattle.walks_sweeping.proofs.Afresh.{fill_meets}
use Rattle.walks_sample.specs.Surveying.{blank}
use Rattle.walks_sample.specs.Configuring.{made}
use Rattle.walks_sample.proofs.Types.{channel, settings}
use Rattle.walks_sample.proofs.configuring.make_one.Symbol as make_one-def
use Rattle.walks_sample.proofs.configuring.make_one.Met as make_one-thm
use Rattle.walks_sample.specs.contracts.configuring.fill.Key.{name as #fill}
use Rattle.walks_sample.specs.contracts.configuring.fill as this
use Rattle.walks_sample.proofs.configuring.fill.Statement as stated
use Rattle.walks_sample.proofs.configuring.fill.Code as code

pub fill_spec : {M : Type 1} → stated.statement M
unfolding tables_of
fill_spec 𝓤 𝓛 𝓜 𝓡 wired =
    entered 𝓤 𝓛.H (triple_of 𝓛 this.signature (this.spec 𝓛 𝓜.mem 𝓡.returns))
    (tables 𝓤 𝓛.H 𝓜 𝓡 𝓡.env).C (tables 𝓤 𝓛.H 𝓜 𝓡 𝓡.env).Λ #fill code.function (code.unfolded 𝓤 𝓛.H 𝓜 𝓡 wired)
    (fill_meets channel blank tt settings (record { peer = 0; kind = 0 }) tt made
    make_one-def.name 𝓛 (tables_of 𝓤 𝓛.H 𝓜 (tables 𝓤 𝓛.H 𝓜 𝓡 𝓡.env))
    (make_one-thm.met 𝓤 𝓛 𝓜 𝓡 (code.calls-walks_sample::configuring::make_one 𝓡.env wired)))
