-- `move_at` meets its contract: an instance of the walk of `DoorTwo.antt`.
-- Assumes nothing.
use Rattle.walks.proofs.Walk.{tables, tables_of, triple_of, entered}
use mathlib.Core.Path.{◌≡◌, ap}
use mathlib.Core.List.{[]}
use mir.Syntax.{w64}
use Rattle.walks.specs.Serving.{leaves, saying}
use Rattle.walks.proofs.Plain.{uint}
use Rattle.walks_lending.proofs.DoorTwo.{door_two_meets}
use Rattle.walks_sample.specs.declared.plain.Request.TheVariants.{Move}
use Rattle.walks_sample.specs.Serving.{served}
use Rattle.walks_sample.specs.Saying.{said}
use Rattle.walks_sample.proofs.Types.{door}
use Rattle.walks_sample.proofs.asking.move_asked.Symbol as move_asked-def
use Rattle.walks_sample.proofs.asking.move_asked.Met as move_asked-thm
use Rattle.walks_sample.proofs.serving.serve.Symbol as serve-def
use Rattle.walks_sample.proofs.serving.serve.Met as serve-thm
use Rattle.walks_sample.proofs.lending.said_of.Symbol as said_of-def
use Rattle.walks_sample.proofs.lending.said_of.Met as said_of-thm
use Rattle.walks_sample.specs.contracts.asking.move_at.Key.{name as #move_at}
use Rattle.walks_sample.specs.contracts.asking.move_at as this
use Rattle.walks_sample.proofs.asking.move_at.Statement as stated
use Rattle.walks_sample.proofs.asking.move_at.Code as code

pub move_at_spec : {M : Type 1} → stated.statement M
unfolding tables_of
move_at_spec 𝓤 𝓛 𝓜 𝓡 wired =
    entered 𝓤 𝓛.H (triple_of 𝓛 this.signature (this.spec 𝓛 𝓜.mem 𝓡.returns))
    (tables 𝓤 𝓛.H 𝓜 𝓡 𝓡.env).C (tables 𝓤 𝓛.H 𝓜 𝓡 𝓡.env).Λ #move_at code.function (code.unfolded 𝓤 𝓛.H 𝓜 𝓡 wired)
    (door_two_meets door (uint w64) (uint w64)
    (λ ys m l li i j r zs m' l' li'. leaves r zs m' l' li' [] ≡ saying said (served ys m l li (Move i j) [] []))
    Move (λ ys m l li i j r zs m' l' li' e. ap (saying said) e)
    move_asked-def.name serve-def.name said_of-def.name 𝓛 (tables_of 𝓤 𝓛.H 𝓜 (tables 𝓤 𝓛.H 𝓜 𝓡 𝓡.env))
    (move_asked-thm.met 𝓤 𝓛 𝓜 𝓡 (code.calls-walks_sample::asking::move_asked 𝓡.env wired))
    (serve-thm.met 𝓤 𝓛 𝓜 𝓡 (code.calls-walks_sample::serving::serve 𝓡.env wired))
    (said_of-thm.met 𝓤 𝓛 𝓜 𝓡 (code.calls-walks_sample::lending::said_of 𝓡.env wired)))
