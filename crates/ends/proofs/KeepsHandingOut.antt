-- A hand-out keeps the standing condition: of a Control packet, a Heartbeat or Flow Control, at either end, and of Data, which a sender alone has.
-- Assumes nothing.
use mathlib.Core.Path.{◌≡◌, refl, sym, ◌∙◌}
use mathlib.Core.Bool.{Bool, true, false}
use mathlib.Core.List.{List}
use Prim.Native.Nat.{ℕ, ◌≤◌, ◌<◌}
use native.Mathlib.Omega.{arith}
use borrow.Author.Tests.{eqb-false}
use lib.Dec.{ltb, eqb}
use Rattle.std.specs.Prelude.{if◌then◌else◌}
use Rattle.laws.proofs.Choice.{either}
use Rattle.channel.specs.declared.record.Lone.{Lone}
use Rattle.channel.specs.declared.record.Channel.{Channel}
use Rattle.channel.specs.declared.answer.Refusal.TheVariants as refusal
use Rattle.channel.specs.Record.{opened, lone_none, with_control, with_timers}
use Rattle.channel.specs.Lone.{is_ready}
use Rattle.channel.specs.Standing.{Standing}
use Rattle.channel.specs.Steps.{refusing, doing}
use Rattle.channel.proofs.StandingLaws.{Sane, counted_is, named_is, open_rests}
use Rattle.channel.proofs.PulseLaws.{sending_sane}
use Rattle.sender.proofs.AskedLaws.{ahead_sends}
use Rattle.sender_packets.specs.Asked.{Ready}
use Rattle.sender_packets.specs.HandingOut.{ready, one_more, single_out, again_out, new_out, next_out, next_length, hand_step}
use Rattle.sender_packets.proofs.HandLaws.{ready_as, ready_open_lem, ready_2_is}
use Rattle.ends.proofs.KeepsPulse.{pulse_keeps, sending_keeps}
use Rattle.ends.proofs.SenderKeeps.{sided_way, open_sided, stand}
use Rattle.ends.proofs.KeepsDirectives.{timers_stand, control_stands}

module _ (c : Channel) (lens : List ℕ) (h : Standing c lens) where
  -- the packet that is sent alone, whichever it is, is out and its timer runs
  pub single_stands : Standing (single_out c) lens
  single_stands =
      let n = named_is c h.named in
      let in_open = eqb c.phase.state opened in
      let control = (single_out c).phase.control in
      let sane = n.pulse in
      pulse_keeps (with_control c control) lens (single_out c).pulse
      (either Sane in_open _ c.pulse
      (either Sane (is_ready c.pulse.beat) _ _ (record { beat = omega arith; flow = sane.flow }) (record { beat = sane.beat; flow = omega arith })) sane)
      (control_stands c lens h control (either (λ (l : Lone). l.state ≤ 3) in_open c.phase.control _ n.control (omega arith))
      (either (λ (l : Lone). (c.phase.control.state ≡ lone_none → ⊥) → l.state ≡ lone_none → ⊥) in_open c.phase.control _ (λ q. q) (λ q z. omega arith)))

  -- one more in flight
  new_stands : c.phase.state ≡ opened → c.window.flight < c.window.ahead → c.window.flight < c.limits.window → Standing (new_out c) lens
  new_stands o a b =
      let s = ahead_sends c lens h c.window.flight a in
      let n = named_is c h.named in
      let k = counted_is c.limits c.window h.ring h.flight in
      stand (new_out c) lens h.fit h.count
      (record { addresses = n.addresses; state = n.state; reason = n.reason; kept = n.kept; accepted = n.accepted; control = n.control; pulse = sending_sane c n.pulse })
      (record { place = k.place; held = k.held; flight = omega arith; window = omega arith; way = k.way; unit = k.unit })
      (open_sided c.addresses.direction c.phase.state (one_more c.window) s (sided_way c.addresses.direction c.phase.state c.window s h.sided) o)
      (open_rests c.addresses.direction c.phase (one_more c.window) o)
      h.held
      h.slots

  next_stands : (rank : ℕ) → Ready c rank → Standing (next_out c rank) lens
  unfolding next_out
  next_stands rank r = go (eqb rank 0) refl (eqb rank 1) refl
    where
      go : (a : Bool) → eqb rank 0 ≡ a → (b : Bool) → eqb rank 1 ≡ b
          → Standing (if a then single_out c else if b then again_out c else new_out c) lens
      go true p b q = single_stands
      go false p true q = sending_keeps (with_timers c (again_out c).timers) lens (timers_stand c lens h (again_out c).timers)
      go false p false q =
          let x = eqb-false rank 0 p in
          let y = eqb-false rank 1 q in
          let two : rank ≡ 2 = omega (arith, r.some) in
          let e : ready 2 c ≡ true = ready_as c two r.is in
          let w = ready_2_is c e in
          new_stands (ready_open_lem c 2 e (λ z. omega arith)) w.0 w.1

pub hand_stands : (c : Channel) (lens : List ℕ) (rank n : ℕ) → Standing c lens → Ready c rank → Standing (hand_step c lens rank n).channel lens
unfolding hand_step
hand_stands c lens rank n h r = go (ltb n (next_length c lens rank))
  where
    go : (t : Bool) → Standing (if t then refusing c (refusal.Small (next_length c lens rank)) else doing (next_out c rank) (next_length c lens rank)).channel lens
    go true = h
    go false = next_stands c lens h rank r
