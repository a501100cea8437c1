-- What holds of each answer to a Heartbeat, and to the Ack of one, holds of the step: both steps are the same at either end. So with Flow Control, which
-- comes to a sender, and its Ack, which comes to a receiver.
-- Assumes nothing.
use mathlib.Core.Path.{◌≡◌, refl}
use mathlib.Core.Bool.{not}
use Prim.Native.Nat.{ℕ}
use borrow.Author.Tests.{eqb-true, not-false}
use lib.Dec.{eqb}
use Rattle.laws.proofs.Choice.{either, by_test}
use Rattle.channel.specs.declared.record.Channel.{Channel}
use Rattle.channel.specs.declared.step.Stepped.{Stepped}
use Rattle.channel.specs.declared.answer.Refusal.TheVariants as refusal
use Rattle.channel.specs.Record.{opened, no_lone, with_pulse}
use Rattle.channel.specs.Lone.{is_out}
use Rattle.channel.specs.Steps.{refusing, doing, outgoing_length}
use Rattle.channel.specs.Pulse.{with_beat, heartbeat_step, heartbeat_ack_step}
use Rattle.channel.specs.Flow.{stated, with_flow, answered_by, flow_ack_step, recording, flow_step}

module _ (c : Channel) (P : Stepped → Type 0) (state : P (refusing c refusal.State)) where
  pub heartbeat_cases : (c.phase.state ≡ opened → P (doing c (outgoing_length c.addresses 0))) → P (heartbeat_step c)
  unfolding heartbeat_step
  heartbeat_cases done = by_test P (eqb c.phase.state opened) _ _ (λ e. done (eqb-true _ _ e)) (λ e. state)

  pub heartbeat_ack_cases : (number : ℕ)
      → P (refusing c refusal.Ignored)
      → (c.phase.state ≡ opened → P (doing (with_pulse c (with_beat c.pulse no_lone)) 0))
      → P (heartbeat_ack_step c number)
  unfolding heartbeat_ack_step
  heartbeat_ack_cases number ignored done =
      by_test P (not (eqb c.phase.state opened)) _ _ (λ e. state)
      (λ e.
      either P (not (eqb number 0)) _ _ ignored (either P (not (is_out c.pulse.beat)) _ _ ignored (done (eqb-true _ _ (not-false _ e)))))

  pub flow_cases : (number : ℕ)
      → (c.phase.state ≡ opened → P (doing (with_pulse c (recording c.limits c.window number c.pulse)) (outgoing_length c.addresses 0)))
      → P (flow_step c number)
  unfolding flow_step
  flow_cases number done = by_test P (eqb c.phase.state opened) _ _ (λ e. done (eqb-true _ _ e)) (λ e. state)

  pub flow_ack_cases : (number : ℕ)
      → P (refusing c refusal.Ignored)
      → (c.phase.state ≡ opened → P (doing (with_pulse c (with_flow c.pulse (answered_by (stated c.limits c.window) c.pulse.flow))) 0))
      → P (flow_ack_step c number)
  unfolding flow_ack_step
  flow_ack_cases number ignored done =
      by_test P (not (eqb c.phase.state opened)) _ _ (λ e. state)
      (λ e.
      either P (not (eqb number c.pulse.flow.number)) _ _ ignored
      (either P (not (is_out c.pulse.flow.packet)) _ _ ignored (done (eqb-true _ _ (not-false _ e)))))

-- a Heartbeat is answered or refused, and its channel is the same
pub heartbeat_same : (c : Channel) → (heartbeat_step c).channel ≡ c
heartbeat_same c = heartbeat_cases c (λ (s : Stepped). s.channel ≡ c) refl (λ e. refl)
