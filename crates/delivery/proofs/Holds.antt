-- A tick leaves the units that a sending record holds: be it one that ends with the channel inactive, for a Heartbeat that got no answer or for retries.
-- Assumes nothing.
use mathlib.Core.Path.{◌≡◌, refl, ap, ◌∙◌}
use mathlib.Core.List.{List}
use Prim.Native.Nat.{ℕ}
use Rattle.channel.specs.declared.record.Channel.{Channel}
use Rattle.channel.specs.declared.step.Ticked.{Ticked}
use Rattle.channel.specs.declared.answer.Answer.{Answer}
use Rattle.channel.specs.Standing.{Standing}
use Rattle.channel.proofs.StandingLaws.{stands_is}
use Rattle.table.specs.Serving.{record_at, own_mem, own_lens}
use Rattle.table.proofs.SurveyLaws.{each_stands_lem}
use Rattle.table.proofs.ServeLaws.{lawful_is}
use Rattle.ticks.proofs.TickLaws.{tick_sends}
use Rattle.means.specs.Held.{units_held}
use Rattle.means.proofs.UnitsStay.{tick_units}
use Rattle.delivery.specs.Calls.{units_of}
use Rattle.delivery.specs.Held.{HeldThroughTick}
use Rattle.delivery.proofs.Ticked.{tick_seen}

pub tick_holds : HeldThroughTick
tick_holds e lawful below dir r =
    tick_seen (λ (a : Answer) (o : List ℕ) (c : Channel) (m l : List ℕ). units_held c m l ≡ units_of e) e.table e.mem e.lens e.lines e.index below refl
    (ap (λ (x : Ticked). units_held x.channel mem lens) (tick_sends c dir) ∙ tick_units c mem lens stand)
  where
    c : Channel
    c = record_at e.table e.index

    mem : List ℕ
    mem = own_mem e.table e.index e.mem

    lens : List ℕ
    lens = own_lens e.table e.index e.lens

    stand : Standing c lens
    stand = stands_is c lens (each_stands_lem e.table e.lens (lawful_is e.table e.mem e.lens lawful).stand e.index below)
