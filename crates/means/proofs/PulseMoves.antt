-- What moves the pulse of a receiver besides is the same move of the protocol: the reply to an arrival, and a Heartbeat that is handed out.
-- Assumes nothing.
use mathlib.Core.Path.{sym, subst}
use mathlib.Core.Bool.{Bool}
use mathlib.Core.List.{List}
use Prim.Native.Nat.{ℕ}
use native.Mathlib.Nat.{le_refl}
use borrow.Author.Tests.{le-ltb}
use Rattle.channel.specs.declared.record.Pulse.{Pulse}
use Rattle.channel.specs.declared.record.Channel.{Channel}
use Rattle.channel.specs.Record.{with_pulse}
use Rattle.protocol.specs.Ends.{rank}
use Rattle.protocol.specs.Receiving.{Receiver, controlled}
use Rattle.means.proofs.Receives.{Receives}
use Rattle.means.proofs.Pulses.{pulse_receives}
use Rattle.means.proofs.ReceiverControl.{Moves}

pub pulse_moves : (c k : Channel) (mem lens : List ℕ) (r : Receiver) (p : Pulse) → Moves c k mem lens r → Moves c (with_pulse k p) mem lens r
pulse_moves c k mem lens r p m = record { phase = m.phase; related = pulse_receives k mem lens _ p m.related; waits = m.waits }

-- a record that means the same receiver makes no move
pub still_moves : (c k : Channel) (mem lens : List ℕ) (r : Receiver) → Receives k mem lens r → Moves c k mem lens r
still_moves c k mem lens r t =
    record {
      phase = r.phase;
      related = subst (λ (b : Bool). Receives k mem lens (controlled b r r.phase).0) (sym (le-ltb (rank r.phase) (rank r.phase) (le_refl (rank r.phase)))) t;
      waits = λ e. e;
    }
