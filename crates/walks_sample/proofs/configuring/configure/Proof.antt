-- `configure` meets its contract: an instance of the walk of `Making.antt`.
-- Assumes nothing.
use Rattle.walks.proofs.Walk.{tables, tables_of, triple_of, entered}
use mathlib.Core.Path.{refl}
use lib.ListN.{length}
use Rattle.std.proofs.lemmas.Bool.{eqb-true}
use Rattle.walks.proofs.Plain.{of}
use Rattle.walks_sweeping.proofs.Making.{making_meets}
use Rattle.walks_sweeping.proofs.Testing.{making}
use Rattle.walks_sample.specs.Ticking.{begun}
use Rattle.walks_sample.specs.Configuring.{made, seen, weighed, counted, filled_lines, configured}
use Rattle.walks_sample.proofs.Types.{tested, settings, carried}
use Rattle.walks_sample.proofs.ticking.tick_begin.Symbol as tick_begin-def
use Rattle.walks_sample.proofs.ticking.tick_begin.Met as tick_begin-thm
use Rattle.walks_sample.proofs.configuring.see.Symbol as see-def
use Rattle.walks_sample.proofs.configuring.see.Met as see-thm
use Rattle.walks_sample.proofs.configuring.weigh.Symbol as weigh-def
use Rattle.walks_sample.proofs.configuring.weigh.Met as weigh-thm
use Rattle.walks_sample.proofs.configuring.fill.Symbol as fill-def
use Rattle.walks_sample.proofs.configuring.fill.Met as fill-thm
use Rattle.walks_sample.proofs.configuring.fill_end.Symbol as fill_end-def
use Rattle.walks_sample.proofs.configuring.fill_end.Met as fill_end-thm
use Rattle.walks_sample.specs.contracts.configuring.configure.Key.{name as #configure}
use Rattle.walks_sample.specs.contracts.configuring.configure as this
use Rattle.walks_sample.proofs.configuring.configure.Statement as stated
use Rattle.walks_sample.proofs.configuring.configure.Code as code

pub configure_spec : {M : Type 1} → stated.statement M
unfolding tables_of
configure_spec 𝓤 𝓛 𝓜 𝓡 wired =
    entered 𝓤 𝓛.H (triple_of 𝓛 this.signature (this.spec 𝓛 𝓜.mem 𝓡.returns))
    (tables 𝓤 𝓛.H 𝓜 𝓡 𝓡.env).C (tables 𝓤 𝓛.H 𝓜 𝓡 𝓡.env).Λ #configure code.function (code.unfolded 𝓤 𝓛.H 𝓜 𝓡 wired)
    (making_meets tested settings carried
    (making tested (of settings) (of carried) begun seen weighed made counted filled_lines configured (λ ys m l li xs e. eqb-true (length ys) (length xs) e) (λ ys m l li xs. refl))
    tick_begin-def.name see-def.name weigh-def.name fill-def.name fill_end-def.name 𝓛 (tables_of 𝓤 𝓛.H 𝓜 (tables 𝓤 𝓛.H 𝓜 𝓡 𝓡.env))
    (tick_begin-thm.met 𝓤 𝓛 𝓜 𝓡 (code.calls-walks_sample::ticking::tick_begin 𝓡.env wired))
    (see-thm.met 𝓤 𝓛 𝓜 𝓡 (code.calls-walks_sample::configuring::see 𝓡.env wired))
    (weigh-thm.met 𝓤 𝓛 𝓜 𝓡 (code.calls-walks_sample::configuring::weigh 𝓡.env wired))
    (fill-thm.met 𝓤 𝓛 𝓜 𝓡 (code.calls-walks_sample::configuring::fill 𝓡.env wired))
    (fill_end-thm.met 𝓤 𝓛 𝓜 𝓡 (code.calls-walks_sample::configuring::fill_end 𝓡.env wired)))
