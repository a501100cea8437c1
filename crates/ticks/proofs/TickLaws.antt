-- Laws of a tick of one channel, one for each end, and of a round.
-- Assumes nothing.
use mathlib.Core.Path.{◌≡◌}
use mathlib.Core.Bool.{true, false}
use Prim.Native.Nat.{◌+◌, ◌≤◌, ◌<◌}
use borrow.Author.Tests.{eq-eqb, ne_eqb, lt-ltb, le-ltb}
use lib.Dec.{eqb}
use Rattle.std.specs.Prelude.{Some, is_some}
use Rattle.laws.proofs.Choice.{chosen, passed_by}
use Rattle.channel.specs.declared.record.Channel.{Channel}
use Rattle.channel.specs.Record.{sends}
use Rattle.sender.specs.Ticking.{tick_step as senderTick}
use Rattle.receiver.specs.Receiving as receiver
use Rattle.channel.specs.declared.step.Ticked.{Ticked}
use Rattle.ticks.specs.declared.ticking.First.{First}
use Rattle.ticks.specs.Ticking.{ticked_by, quiet, first_by}

pub tick_sends : (c : Channel) → c.addresses.direction ≡ sends
    → ticked_by c ≡ senderTick c
unfolding ticked_by
tick_sends c e = chosen (eqb c.addresses.direction sends) _ _ (eq-eqb _ _ e)

pub tick_receives : (c : Channel) → (c.addresses.direction ≡ sends → ⊥)
    → ticked_by c ≡ receiver.tick_step c
unfolding ticked_by
tick_receives c e = passed_by (eqb c.addresses.direction sends) _ _ (ne_eqb _ _ e)

module _ (x : Ticked) (r : First) where
  pub round_told : is_some r.reason ≡ true → first_by x r ≡ r
  unfolding first_by
  round_told e = simp (e)

  module _ (none : is_some r.reason ≡ false) where
    pub round_first : x.inactive ≡ true → first_by x r ≡ record { index = r.index; reason = Some x.channel.phase.reason }
    unfolding first_by
    round_first e = simp (none, e)

    pub round_on : x.inactive ≡ false → r.index < 16 → first_by x r ≡ quiet (r.index + 1)
    unfolding first_by
    round_on e h = simp (none, e, lt-ltb r.index 16 h)

    pub round_full : x.inactive ≡ false → 16 ≤ r.index → first_by x r ≡ quiet r.index
    unfolding first_by
    round_full e h = simp (none, e, le-ltb r.index 16 h)
