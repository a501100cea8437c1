-- Laws of an end's Heartbeat: what each of its steps gives, case by case, and that the state of its packet keeps a meaning.
-- Assumes nothing.
use Rattle.std.proofs.Common.{◌≡◌, ℕ, ◌≤◌, true, false, not, eqb, leb, arith, eq-eqb, ne_eqb}
use Rattle.laws.proofs.Choice.{either}
use Rattle.channel.specs.declared.record.Limits.{Limits}
use Rattle.channel.specs.declared.record.Lone.{Lone}
use Rattle.channel.specs.declared.record.Pulse.{Pulse}
use Rattle.channel.specs.declared.record.Channel.{Channel}
use Rattle.channel.specs.declared.lone.Fallen.{Fallen}
use Rattle.channel.specs.declared.answer.Refusal.TheVariants as refusal
use Rattle.channel.specs.Record.{opened, lone_none, no_lone, with_pulse}
use Rattle.channel.specs.Lone.{ready_lone, is_out, fallen}
use Rattle.channel.specs.Steps.{refusing, doing, outgoing_length}
use Rattle.channel.proofs.StandingLaws.{Sane}
use Rattle.channel.specs.Pulse.{restarted, after_sending, with_beat, paced, beaten, heartbeat_step, heartbeat_ack_step}

-- ---- case by case

module _ (c : Channel) where
  pub heartbeat_open : c.phase.state ≡ opened → heartbeat_step c ≡ doing c (outgoing_length c.addresses 0)
  unfolding heartbeat_step
  heartbeat_open e = simp (eq-eqb c.phase.state opened e)

  pub heartbeat_shut : (c.phase.state ≡ opened → ⊥) → heartbeat_step c ≡ refusing c refusal.State
  unfolding heartbeat_step
  heartbeat_shut n = simp (ne_eqb c.phase.state opened n)

module _ (c : Channel) (number : ℕ) where
  pub beat_ack_shut : (c.phase.state ≡ opened → ⊥) → heartbeat_ack_step c number ≡ refusing c refusal.State
  unfolding heartbeat_ack_step
  beat_ack_shut n = simp (ne_eqb c.phase.state opened n)

  pub beat_ack_number : c.phase.state ≡ opened → (number ≡ 0 → ⊥) → heartbeat_ack_step c number ≡ refusing c refusal.Ignored
  unfolding heartbeat_ack_step
  beat_ack_number e n = simp (eq-eqb c.phase.state opened e, ne_eqb number 0 n)

  pub beat_ack_early : c.phase.state ≡ opened → number ≡ 0 → is_out c.pulse.beat ≡ false → heartbeat_ack_step c number ≡ refusing c refusal.Ignored
  unfolding heartbeat_ack_step
  beat_ack_early e z o = simp (eq-eqb c.phase.state opened e, eq-eqb number 0 z, o)

  pub beat_ack_done : c.phase.state ≡ opened → number ≡ 0 → is_out c.pulse.beat ≡ true
      → heartbeat_ack_step c number ≡ doing (with_pulse c (with_beat c.pulse no_lone)) 0
  unfolding heartbeat_ack_step
  beat_ack_done e z o = simp (eq-eqb c.phase.state opened e, eq-eqb number 0 z, o)

-- ---- the state of its packet

-- a tick leaves a packet in one of the four states
pub fallen_small : (l : Lone) → l.state ≤ 3 → (fallen l).lone.state ≤ 3
unfolding fallen
fallen_small l h =
    either Small (not (eqb l.state 2)) _ _ h
    (either Small (leb 2 l.timer) _ _ (omega arith) (either Small (eqb l.tries 0) _ _ (omega arith) (omega arith)))
  where
    Small : Fallen → Type 0
    Small f = f.lone.state ≤ 3

pub paced_sane : (l : Limits) (p : Pulse) → Sane p → Sane (paced l p)
unfolding paced
paced_sane l p h =
    either Sane (leb 2 p.left) _ _ (record { beat = h.beat; flow = h.flow })
    (either Sane (eqb p.left 0) _ _ h
    (record { beat = either (λ (b : Lone). b.state ≤ 3) (eqb p.beat.state lone_none) ready_lone p.beat (omega arith) h.beat; flow = h.flow }))

pub beaten_sane : (l : Limits) (p : Pulse) → Sane p → Sane (beaten l p).pulse
beaten_sane l p h = paced_sane l (with_beat p (fallen p.beat).lone) (record { beat = fallen_small p.beat h.beat; flow = h.flow })

pub sending_sane : (c : Channel) → Sane c.pulse → Sane (after_sending c).pulse
sending_sane c h = either Sane (eqb c.phase.state opened) (restarted c.limits c.pulse) c.pulse (record { beat = h.beat; flow = h.flow }) h
