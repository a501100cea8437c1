-- `configure_said` meets its contract: an instance of the walk of `LentMaking.antt`.
-- Assumes nothing.
use Rattle.walks.proofs.Walk.{tables, tables_of, triple_of, entered}
use mathlib.Core.Path.{◌≡◌, ap}
use Rattle.walks.specs.Serving.{changes, telling}
use Rattle.walks_lending.proofs.LentMaking.{lent_making_meets}
use Rattle.walks_sample.specs.Configuring.{configured}
use Rattle.walks_sample.specs.Saying.{said as turned}
use Rattle.walks_sample.proofs.Types.{channel, told, said, settings}
use Rattle.walks_sample.proofs.configuring.configure.Symbol as configure-def
use Rattle.walks_sample.proofs.configuring.configure.Met as configure-thm
use Rattle.walks_sample.proofs.lending.said_of.Symbol as said_of-def
use Rattle.walks_sample.proofs.lending.said_of.Met as said_of-thm
use Rattle.walks_sample.specs.contracts.lending.configure_said.Key.{name as #configure_said}
use Rattle.walks_sample.specs.contracts.lending.configure_said as this
use Rattle.walks_sample.proofs.lending.configure_said.Statement as stated
use Rattle.walks_sample.proofs.lending.configure_said.Code as code

pub configure_said_spec : {M : Type 1} → stated.statement M
unfolding tables_of
configure_said_spec 𝓤 𝓛 𝓜 𝓡 wired =
    entered 𝓤 𝓛.H (triple_of 𝓛 this.signature (this.spec 𝓛 𝓜.mem 𝓡.returns))
    (tables 𝓤 𝓛.H 𝓜 𝓡 𝓡.env).C (tables 𝓤 𝓛.H 𝓜 𝓡 𝓡.env).Λ #configure_said code.function (code.unfolded 𝓤 𝓛.H 𝓜 𝓡 wired)
    (lent_making_meets channel told said settings turned
    (λ ys m l li s r zs li'. changes r zs li' ≡ configured ys m l li s)
    (λ ys m l li s r zs li'. changes r zs li' ≡ telling turned (configured ys m l li s))
    (λ ys m l li s a zs li' e. ap (telling turned) e)
    configure-def.name said_of-def.name 𝓛 (tables_of 𝓤 𝓛.H 𝓜 (tables 𝓤 𝓛.H 𝓜 𝓡 𝓡.env))
    (configure-thm.met 𝓤 𝓛 𝓜 𝓡 (code.calls-walks_sample::configuring::configure 𝓡.env wired))
    (said_of-thm.met 𝓤 𝓛 𝓜 𝓡 (code.calls-walks_sample::lending::said_of 𝓡.env wired)))
