-- What an Ack states moves the pulse of a sender alone: so what its step keeps is kept, what the settings fixed stays, and where it is not taken nothing changes.
-- Assumes nothing.
use mathlib.Core.Path.{◌≡◌, refl, ap, ◌∙◌}
use mathlib.Core.Bool.{Bool, true, false, ◌&&◌}
use mathlib.Core.List.{List}
use Prim.Native.Nat.{ℕ}
use lib.Dec.{eqb}
use Rattle.std.specs.Prelude.{if◌then◌else◌}
use Rattle.laws.proofs.Choice.{either}
use Rattle.channel.specs.declared.record.Pulse.{Pulse}
use Rattle.channel.specs.declared.record.Channel.{Channel}
use Rattle.channel.specs.declared.answer.Answer.{Answer}
use Rattle.channel.specs.declared.answer.Answer.TheVariants.{Done, Repeated, Inactive, Refused}
use Rattle.channel.specs.declared.step.Stepped.{Stepped}
use Rattle.channel.specs.Record.{opened}
use Rattle.channel.specs.Answers.{number_of}
use Rattle.channel.specs.Flow.{recording, recorded_first}
use Rattle.channel.specs.Standing.{Standing}
use Rattle.channel.proofs.FixedLaws.{SameSettings}
use Rattle.channel.proofs.StandingLaws.{Sane, named_is}
use Rattle.channel.proofs.FlowLaws.{recording_sane, first_sane}
use Rattle.sender_acks.specs.Acks.{control_ack_step, data_ack_step}
use Rattle.sender_acks.specs.Stated.{is_taken, with_stated, heeding, heeding_first, data_ack_stated, control_ack_stated}
use Rattle.ends.proofs.KeepsPulse.{pulse_keeps}

-- an answer other than 0 is no Ack taken
pub not_taken : (a : Answer) → (number_of a ≡ 0 → ⊥) → is_taken a ≡ false
not_taken (Done n u) e = absurd (e refl)
not_taken (Repeated n) e = refl
not_taken (Inactive why) e = refl
not_taken (Refused why) e = refl

module _ (c : Channel) (number stated : ℕ) where
  -- the pulse that is left
  pub data_pulse : Pulse
  data_pulse = (data_ack_stated c number stated).channel.pulse

  pub control_pulse : Pulse
  control_pulse = (control_ack_stated c number stated).channel.pulse

  pub data_stated : data_ack_stated c number stated ≡ with_stated (data_ack_step c number) data_pulse
  unfolding data_pulse data_ack_stated
  data_stated = refl

  pub control_stated : control_ack_stated c number stated ≡ with_stated (control_ack_step c number) control_pulse
  unfolding control_pulse control_ack_stated
  control_stated = refl

  pub data_sane : Sane (data_ack_step c number).channel.pulse → Sane data_pulse
  unfolding data_pulse data_ack_stated
  data_sane h =
      let s = data_ack_step c number in
      either Sane (is_taken s.answer) (recording c.limits c.window stated s.channel.pulse) s.channel.pulse (recording_sane c.limits c.window stated s.channel.pulse h) h

  pub control_sane : Sane (control_ack_step c number).channel.pulse → Sane control_pulse
  unfolding control_pulse control_ack_stated
  control_sane h =
      let s = control_ack_step c number in
      either Sane (is_taken s.answer && eqb s.channel.phase.state opened) (recorded_first stated s.channel.pulse) s.channel.pulse (first_sane stated s.channel.pulse h) h

  pub data_stated_stands : (lens : List ℕ) → Standing (data_ack_step c number).channel lens → Standing (data_ack_stated c number stated).channel lens
  unfolding data_pulse data_ack_stated
  data_stated_stands lens h = pulse_keeps (data_ack_step c number).channel lens data_pulse (data_sane (named_is (data_ack_step c number).channel h.named).pulse) h

  pub control_stated_stands : (lens : List ℕ) → Standing (control_ack_step c number).channel lens → Standing (control_ack_stated c number stated).channel lens
  unfolding control_pulse control_ack_stated
  control_stated_stands lens h = pulse_keeps (control_ack_step c number).channel lens control_pulse (control_sane (named_is (control_ack_step c number).channel h.named).pulse) h

  pub data_stated_fixed : SameSettings c (data_ack_step c number).channel → SameSettings c (data_ack_stated c number stated).channel
  unfolding data_ack_stated
  data_stated_fixed f = f

  pub control_stated_fixed : SameSettings c (control_ack_step c number).channel → SameSettings c (control_ack_stated c number stated).channel
  unfolding control_ack_stated
  control_stated_fixed f = f

  -- where the Ack is not taken, nothing is recorded
  pub data_unstated : (number_of (data_ack_step c number).answer ≡ 0 → ⊥) → data_ack_stated c number stated ≡ data_ack_step c number
  unfolding data_ack_stated
  data_unstated e =
      let s = data_ack_step c number in
      ap (λ (b : Bool). with_stated s (if b then recording c.limits c.window stated s.channel.pulse else s.channel.pulse)) (not_taken s.answer e)

  pub control_unstated : (number_of (control_ack_step c number).answer ≡ 0 → ⊥) → control_ack_stated c number stated ≡ control_ack_step c number
  unfolding control_ack_stated
  control_unstated e =
      let s = control_ack_step c number in
      ap (λ (b : Bool). with_stated s (if b && eqb s.channel.phase.state opened then recorded_first stated s.channel.pulse else s.channel.pulse)) (not_taken s.answer e)

  pub data_stated_answer : (data_ack_stated c number stated).answer ≡ (data_ack_step c number).answer
  unfolding data_ack_stated
  data_stated_answer = refl

  pub control_stated_answer : (control_ack_stated c number stated).answer ≡ (control_ack_step c number).answer
  unfolding control_ack_stated
  control_stated_answer = refl
