-- The law of the reply: where none is written, the channel is as it was.
-- Assumes nothing.
use mathlib.Core.Path.{◌≡◌, ap}
use mathlib.Core.Bool.{Bool, false}
use Prim.Native.Nat.{ℕ}
use Rattle.std.specs.Prelude.{if◌then◌else◌}
use Rattle.channel.specs.declared.step.Stepped.{Stepped}
use Rattle.channel.specs.Record.{with_pulse}
use Rattle.channel.specs.Flow.{replied_in}
use Rattle.arrivals.specs.Replying.{replies, acknowledging}

module _ (number : ℕ) (s : Stepped) where
  abbrev chosen_by : Bool → Stepped
  chosen_by b = record { channel = with_pulse s.channel (if b then replied_in s.channel.phase.state s.channel.limits number s.channel.pulse else s.channel.pulse); answer = s.answer }

  pub acks_none : replies s.answer ≡ false → acknowledging number s ≡ s
  acks_none e = ap chosen_by e
