-- Laws of Flow Control: what each of its steps gives, case by case, and that the state of its packet keeps a meaning.
-- Assumes nothing.
use Rattle.std.proofs.Common.{◌≡◌, ℕ, ◌-◌, ◌≤◌, Bool, true, false, not, ◌&&◌, eqb, leb, refl, arith, eq-eqb, ne_eqb, leb-false}
use Rattle.std.specs.Prelude.{if◌then◌else◌}
use Rattle.laws.proofs.Choice.{either}
use Rattle.channel.specs.declared.record.Limits.{Limits}
use Rattle.channel.specs.declared.record.Lone.{Lone}
use Rattle.channel.specs.declared.record.Flow.{Flow}
use Rattle.channel.specs.declared.record.Pulse.{Pulse}
use Rattle.channel.specs.declared.record.Window.{Window}
use Rattle.channel.specs.declared.record.Channel.{Channel}
use Rattle.channel.specs.declared.answer.Refusal.TheVariants as refusal
use Rattle.channel.specs.Record.{opened, lone_none, no_lone, with_pulse}
use Rattle.channel.specs.Lone.{ready_lone, is_out}
use Rattle.channel.specs.Steps.{refusing, doing}
use Rattle.channel.specs.Flow.{flows, acceptable, stated, with_flow, telling_in, replied_in, answered_by, flow_ack_step, recording, recorded_first}
use Rattle.channel.proofs.StandingLaws.{Sane}

-- ---- case by case

module _ (c : Channel) (number : ℕ) where
  pub flow_ack_shut : (c.phase.state ≡ opened → ⊥) → flow_ack_step c number ≡ refusing c refusal.State
  unfolding flow_ack_step
  flow_ack_shut n = simp (ne_eqb c.phase.state opened n)

  pub flow_ack_number : c.phase.state ≡ opened → (number ≡ c.pulse.flow.number → ⊥) → flow_ack_step c number ≡ refusing c refusal.Ignored
  unfolding flow_ack_step
  flow_ack_number e n = simp (eq-eqb c.phase.state opened e, ne_eqb number c.pulse.flow.number n)

  pub flow_ack_early : c.phase.state ≡ opened → number ≡ c.pulse.flow.number → is_out c.pulse.flow.packet ≡ false
      → flow_ack_step c number ≡ refusing c refusal.Ignored
  unfolding flow_ack_step
  flow_ack_early e z o = simp (eq-eqb c.phase.state opened e, eq-eqb number c.pulse.flow.number z, o)

  pub flow_ack_done : c.phase.state ≡ opened → number ≡ c.pulse.flow.number → is_out c.pulse.flow.packet ≡ true
      → flow_ack_step c number ≡ doing (with_pulse c (with_flow c.pulse (answered_by (stated c.limits c.window) c.pulse.flow))) 0
  unfolding flow_ack_step
  flow_ack_done e z o = simp (eq-eqb c.phase.state opened e, eq-eqb number c.pulse.flow.number z, o)

-- ---- the number stated

-- no more numbers than the window has
pub acceptable_few : (l : Limits) (w : Window) → acceptable l w ≤ l.window
acceptable_few l w = go (leb l.window (l.slots - w.behind)) refl
  where
    go : (b : Bool) → leb l.window (l.slots - w.behind) ≡ b → (if b then l.window else l.slots - w.behind) ≤ l.window
    go true e = omega arith
    go false e = omega (arith, leb-false l.window (l.slots - w.behind) e)

-- ---- the state of its packet

pub withdrawn_sane : (p : Pulse) (f : Flow) → f.packet.state ≤ 3 → Sane p → Sane (with_flow p f)
withdrawn_sane p f h s = record { beat = s.beat; flow = h }

pub telling_sane : (state : ℕ) (l : Limits) (before after : Window) (p : Pulse) → Sane p → Sane (telling_in state l before after p)
telling_sane state l before after p h =
    either Sane (eqb state opened && flows l) _ _
    (record {
      beat = h.beat;
      flow = either (λ (f : Flow). f.packet.state ≤ 3) (eqb p.flow.packet.state lone_none && not (eqb (stated l before) (stated l after))) _ _ (omega arith) h.flow;
    })
    h

pub replied_sane : (state : ℕ) (l : Limits) (number : ℕ) (p : Pulse) → Sane p → Sane (replied_in state l number p)
replied_sane state l number p h = either Sane (eqb state opened) _ _ (record { beat = h.beat; flow = h.flow }) h

pub answered_sane : (now : ℕ) (p : Pulse) → Sane p → Sane (with_flow p (answered_by now p.flow))
answered_sane now p h =
    record { beat = h.beat; flow = either (λ (l : Lone). l.state ≤ 3) (eqb now p.flow.stated) no_lone ready_lone (omega arith) (omega arith) }

pub recording_sane : (l : Limits) (w : Window) (number : ℕ) (p : Pulse) → Sane p → Sane (recording l w number p)
recording_sane l w number p h = either Sane (flows l) _ _ (record { beat = h.beat; flow = h.flow }) h

pub first_sane : (number : ℕ) (p : Pulse) → Sane p → Sane (recorded_first number p)
first_sane number p h = record { beat = h.beat; flow = h.flow }
