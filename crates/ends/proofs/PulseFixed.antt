-- The interval's new start, a Heartbeat that arrives and the Ack of one, Flow Control and the Ack of that change nothing that the settings fixed; so what the
-- steps ask holds again after each.
-- Assumes nothing.
use mathlib.Core.Path.{refl}
use mathlib.Core.List.{List}
use Prim.Native.Nat.{ℕ}
use Rattle.channel.specs.declared.record.Channel.{Channel}
use Rattle.channel.specs.declared.step.Stepped.{Stepped}
use Rattle.channel.specs.Pulse.{after_sending, heartbeat_step, heartbeat_ack_step}
use Rattle.channel.specs.Flow.{flow_step, flow_ack_step}
use Rattle.channel.specs.Asked.{Asked}
use Rattle.channel.proofs.FixedLaws.{SameSettings, asked_again}
use Rattle.ends.proofs.PulseCases.{heartbeat_cases, heartbeat_ack_cases, flow_cases, flow_ack_cases}
use Rattle.ends.proofs.KeepsPulse.{sending_keeps, heartbeat_keeps, heartbeat_ack_keeps, flow_keeps, flow_ack_keeps}

module _ (c : Channel) where
  pub sending_fixed : SameSettings c (after_sending c)
  sending_fixed = (refl, refl)

  pub heartbeat_fixed : SameSettings c (heartbeat_step c).channel
  heartbeat_fixed = heartbeat_cases c (λ (s : Stepped). SameSettings c s.channel) (refl, refl) (λ e. (refl, refl))

  pub heartbeat_ack_fixed : (number : ℕ) → SameSettings c (heartbeat_ack_step c number).channel
  heartbeat_ack_fixed number = heartbeat_ack_cases c (λ (s : Stepped). SameSettings c s.channel) (refl, refl) number (refl, refl) (λ e. (refl, refl))

  pub flow_fixed : (number : ℕ) → SameSettings c (flow_step c number).channel
  flow_fixed number = flow_cases c (λ (s : Stepped). SameSettings c s.channel) (refl, refl) number (λ e. (refl, refl))

  pub flow_ack_fixed : (number : ℕ) → SameSettings c (flow_ack_step c number).channel
  flow_ack_fixed number = flow_ack_cases c (λ (s : Stepped). SameSettings c s.channel) (refl, refl) number (refl, refl) (λ e. (refl, refl))

-- ---- what the steps ask

module _ (c : Channel) (mem lens : List ℕ) (a : Asked c mem lens) where
  pub sending_asked : Asked (after_sending c) mem lens
  sending_asked = asked_again c (after_sending c) mem lens (sending_fixed c) (sending_keeps c lens a.standing) a.sized

  pub heartbeat_asked : Asked (heartbeat_step c).channel mem lens
  heartbeat_asked = asked_again c (heartbeat_step c).channel mem lens (heartbeat_fixed c) (heartbeat_keeps c lens a.standing) a.sized

  pub heartbeat_ack_asked : (number : ℕ) → Asked (heartbeat_ack_step c number).channel mem lens
  heartbeat_ack_asked number =
      asked_again c (heartbeat_ack_step c number).channel mem lens (heartbeat_ack_fixed c number) (heartbeat_ack_keeps c lens a.standing number) a.sized

  pub flow_asked : (number : ℕ) → Asked (flow_step c number).channel mem lens
  flow_asked number = asked_again c (flow_step c number).channel mem lens (flow_fixed c number) (flow_keeps c lens a.standing number) a.sized

  pub flow_ack_asked : (number : ℕ) → Asked (flow_ack_step c number).channel mem lens
  flow_ack_asked number =
      asked_again c (flow_ack_step c number).channel mem lens (flow_ack_fixed c number) (flow_ack_keeps c lens a.standing number) a.sized
