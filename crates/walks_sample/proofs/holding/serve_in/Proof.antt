-- `serve_in` meets its contract: an instance of the walk of `HeldCall.antt`.
-- Assumes nothing.
use Rattle.walks.proofs.Walk.{tables, tables_of, triple_of, entered}
use mathlib.Core.Path.{◌≡◌}
use Rattle.walks.specs.Serving.{leaves}
use Rattle.walks_lending.proofs.HeldCall.{held_call_meets}
use Rattle.walks_sample.specs.Serving.{served}
use Rattle.walks_sample.proofs.Types.{held, request}
use Rattle.walks_sample.proofs.serving.serve.Symbol as serve-def
use Rattle.walks_sample.proofs.serving.serve.Met as serve-thm
use Rattle.walks_sample.specs.contracts.holding.serve_in.Key.{name as #serve_in}
use Rattle.walks_sample.specs.contracts.holding.serve_in as this
use Rattle.walks_sample.proofs.holding.serve_in.Statement as stated
use Rattle.walks_sample.proofs.holding.serve_in.Code as code

pub serve_in_spec : {M : Type 1} → stated.statement M
unfolding tables_of
serve_in_spec 𝓤 𝓛 𝓜 𝓡 wired =
    entered 𝓤 𝓛.H (triple_of 𝓛 this.signature (this.spec 𝓛 𝓜.mem 𝓡.returns))
    (tables 𝓤 𝓛.H 𝓜 𝓡 𝓡.env).C (tables 𝓤 𝓛.H 𝓜 𝓡 𝓡.env).Λ #serve_in code.function (code.unfolded 𝓤 𝓛.H 𝓜 𝓡 wired)
    (held_call_meets held request (λ ys m l li n x o r zs m' l' li' o'. leaves r zs m' l' li' o' ≡ served ys m l li n x o)
    serve-def.name 𝓛 (tables_of 𝓤 𝓛.H 𝓜 (tables 𝓤 𝓛.H 𝓜 𝓡 𝓡.env))
    (serve-thm.met 𝓤 𝓛 𝓜 𝓡 (code.calls-walks_sample::serving::serve 𝓡.env wired)))
