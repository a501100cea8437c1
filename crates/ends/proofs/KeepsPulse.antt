-- The pulse and the standing condition, at either end: the condition looks at the states of its packets alone, so a pulse in which those have a meaning keeps
-- it. So do the interval's new start, a tick of the pulse, a Heartbeat that arrives and the Ack of one, Flow Control and the Ack of that.
-- Assumes nothing.
use mathlib.Core.List.{List}
use Prim.Native.Nat.{ℕ}
use native.Mathlib.Omega.{arith}
use Rattle.channel.specs.declared.record.Limits.{Limits}
use Rattle.channel.specs.declared.record.Pulse.{Pulse}
use Rattle.channel.specs.declared.record.Channel.{Channel}
use Rattle.channel.specs.declared.step.Stepped.{Stepped}
use Rattle.channel.specs.Record.{no_lone, with_pulse}
use Rattle.channel.specs.Pulse.{after_sending, with_beat, beaten, heartbeat_step, heartbeat_ack_step}
use Rattle.channel.specs.Flow.{stated, flow_step, flow_ack_step}
use Rattle.channel.specs.Standing.{Standing}
use Rattle.channel.proofs.StandingLaws.{Sane, named_is, is_named_lem}
use Rattle.channel.proofs.PulseLaws.{beaten_sane, sending_sane}
use Rattle.channel.proofs.FlowLaws.{recording_sane, answered_sane}
use Rattle.ends.proofs.PulseCases.{heartbeat_cases, heartbeat_ack_cases, flow_cases, flow_ack_cases}

pub pulse_keeps : (c : Channel) (lens : List ℕ) (p : Pulse) → Sane p → Standing c lens → Standing (with_pulse c p) lens
pulse_keeps c lens p small h =
    let n = named_is c h.named in
    record {
      fit = h.fit;
      count = h.count;
      named = is_named_lem (with_pulse c p)
          (record { addresses = n.addresses; state = n.state; reason = n.reason; kept = n.kept; accepted = n.accepted; control = n.control; pulse = small });
      ring = h.ring;
      flight = h.flight;
      sided = h.sided;
      rested = h.rested;
      held = h.held;
      slots = h.slots;
    }

module _ (c : Channel) (lens : List ℕ) (h : Standing c lens) where
  -- Data or an Ack is sent
  pub sending_keeps : Standing (after_sending c) lens
  sending_keeps = pulse_keeps c lens (after_sending c).pulse (sending_sane c (named_is c h.named).pulse) h

  -- a tick of the pulse
  pub beaten_keeps : (l : Limits) → Standing (with_pulse c (beaten l c.pulse).pulse) lens
  beaten_keeps l = pulse_keeps c lens (beaten l c.pulse).pulse (beaten_sane l c.pulse (named_is c h.named).pulse) h

  pub heartbeat_keeps : Standing (heartbeat_step c).channel lens
  heartbeat_keeps = heartbeat_cases c (λ (s : Stepped). Standing s.channel lens) h (λ e. h)

  pub heartbeat_ack_keeps : (number : ℕ) → Standing (heartbeat_ack_step c number).channel lens
  heartbeat_ack_keeps number =
      heartbeat_ack_cases c (λ (s : Stepped). Standing s.channel lens) h number h
      (λ e. pulse_keeps c lens (with_beat c.pulse no_lone) (record { beat = omega arith; flow = (named_is c h.named).pulse.flow }) h)

  pub flow_keeps : (number : ℕ) → Standing (flow_step c number).channel lens
  flow_keeps number =
      flow_cases c (λ (s : Stepped). Standing s.channel lens) h number
      (λ e. pulse_keeps c lens _ (recording_sane c.limits c.window number c.pulse (named_is c h.named).pulse) h)

  pub flow_ack_keeps : (number : ℕ) → Standing (flow_ack_step c number).channel lens
  flow_ack_keeps number =
      flow_ack_cases c (λ (s : Stepped). Standing s.channel lens) h number h
      (λ e. pulse_keeps c lens _ (answered_sane (stated c.limits c.window) c.pulse (named_is c h.named).pulse) h)
