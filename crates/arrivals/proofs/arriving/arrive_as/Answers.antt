-- `arrivals::arriving::arrive_as` meets its contract: by the packet's kind.
use mathlib.Core.Path.{refl, sym, ap, ◌∙◌, subst}
use mathlib.Core.List.{[]}
use Prim.Native.Nat.{ℕ, ◌≤◌}
use borrow.Author.Tests.{eqb-true, ne_eqb}
use lib.Dec.{eqb}
use lib.ListN.{length}
use Rattle.laws.proofs.Choice.{passed_by}
use Rattle.packet.specs.declared.kinds.Kind.{Kind}
use Rattle.packet.specs.declared.kinds.Kind.TheVariants.{Data, DataAck, Open, Close, Heartbeat, HeartbeatAck, FlowControl, ControlAck, Lacking}
use Rattle.packet.specs.Layout.{least}
use Rattle.walks.specs.Serving.{works}
use Rattle.channel.specs.declared.step.Stepped.{Stepped}
use Rattle.channel.specs.Steps.{outgoing_length}
use Rattle.channel.proofs.StandingLaws.{ringed, own_fits}
use Rattle.sender_acks.specs.Stated.{data_ack_stated, control_ack_stated}
use Rattle.channel.specs.Record.{receives}
use Rattle.table.specs.Surveying.{stepping}
use Rattle.table.proofs.OneLaws.{kind_finds}
use Rattle.arrivals.specs.Finding.{prefix_read}
use Rattle.arrivals.specs.Arriving.{Replies, six_for, arrive_as}
use Rattle.arrivals.proofs.DataLaws.{fit_payload}
use Rattle.arrivals.proofs.StatedLaws.{six_carries, six_quiet}
use Rattle.arrivals.proofs.ArriveLaws.{quiet_kind}
use Rattle.arrivals.proofs.arriving.arrive_as.Goals as goal

pub arrive_data-requires : goal.arrive_data-requires
arrive_data-requires c =
    let a = c.args in
    let p = c.requires in
    let g = p.1.framed in
    let x = length a.payload.now in
    let kind = c.in-Data.is in
    let is = p.2 ∙ kind in (
      p.0,
      eqb-true a.c.addresses.direction receives (kind_finds a.c.addresses a.f x (prefix_read p.1.packet) Data g.ours is),
      g.flags,
      fit_payload a.c a.f x p.4 is,
      subst (λ (z : Kind). Replies a.c z x a.out.now) kind p.3,
    )

pub data_ack_stated-requires : goal.data_ack_stated-requires
data_ack_stated-requires c = let a = c.args in ringed a.c _ c.requires.0.standing

pub arrive_control-requires : goal.arrive_control-requires
arrive_control-requires c =
    let a = c.args in
    let p = c.requires in
    (ringed a.c _ p.0.standing, own_fits a.c _ p.0.standing, subst (λ (z : Kind). Replies a.c z (length a.payload.now) a.out.now) c.in-Open.is p.3)

pub arrive_control-requires-in-Close : goal.arrive_control-requires-in-Close
arrive_control-requires-in-Close c =
    let a = c.args in
    let p = c.requires in
    (ringed a.c _ p.0.standing, own_fits a.c _ p.0.standing, subst (λ (z : Kind). Replies a.c z (length a.payload.now) a.out.now) c.in-Close.is p.3)

pub arrive_heartbeat-requires : goal.arrive_heartbeat-requires
arrive_heartbeat-requires c =
    let a = c.args in
    let p = c.requires in
    ((ringed a.c _ p.0.standing).window, own_fits a.c _ p.0.standing, subst (λ (z : Kind). Replies a.c z (length a.payload.now) a.out.now) c.in-Heartbeat.is p.3)

pub arrive_six-requires : goal.arrive_six-requires
arrive_six-requires c =
    let a = c.args in
    let p = c.requires in
    let x = length a.payload.now in
    let kind = c.in-FlowControl.is in (
      ringed a.c _ p.0.standing,
      own_fits a.c _ p.0.standing,
      λ sender.
          subst (λ (n : ℕ). n ≤ length a.out.now)
          (passed_by (eqb x 0) least (outgoing_length a.c.addresses 0) (ne_eqb x 0 (six_carries a.c.addresses a.f x (prefix_read p.1.packet) p.1.framed.ours (p.2 ∙ kind) sender)))
          (subst (λ (z : Kind). Replies a.c z x a.out.now) kind p.3),
    )

pub control_ack_stated-requires : goal.control_ack_stated-requires
control_ack_stated-requires c = let a = c.args in ringed a.c _ c.requires.0.standing

pub returns-in-Data : goal.returns-in-Data
returns-in-Data c =
    let a = c.args in
    c.arrive_data.ensures ∙ sym (ap (λ (z : Kind). stepping (arrive_as z a.node a.f a.payload.now) a.c a.d a.mem.now a.lens.now a.out.now) c.in-Data.is)

pub returns-in-DataAck : goal.returns-in-DataAck
returns-in-DataAck c =
    let a = c.args in
    quiet_kind a.node a.f a.payload.now a.c a.d a.mem.now a.lens.now a.out.now a.kind DataAck c.in-DataAck.is _ _ (λ m l. refl)
    (ap (λ (x : Stepped). works x [] [] a.out.now) (c.data_ack_stated.ensures ∙ ap (data_ack_stated a.c a.f.number) c.stated_in.ensures))

pub returns-in-Open : goal.returns-in-Open
returns-in-Open c =
    let a = c.args in
    quiet_kind a.node a.f a.payload.now a.c a.d a.mem.now a.lens.now a.out.now a.kind Open c.in-Open.is _ _ (λ m l. refl) c.arrive_control.ensures

pub returns-in-Close : goal.returns-in-Close
returns-in-Close c =
    let a = c.args in
    quiet_kind a.node a.f a.payload.now a.c a.d a.mem.now a.lens.now a.out.now a.kind Close c.in-Close.is _ _ (λ m l. refl) c.arrive_control-in-Close.ensures

pub returns-in-Heartbeat : goal.returns-in-Heartbeat
returns-in-Heartbeat c =
    let a = c.args in
    quiet_kind a.node a.f a.payload.now a.c a.d a.mem.now a.lens.now a.out.now a.kind Heartbeat c.in-Heartbeat.is _ _ (λ m l. refl) c.arrive_heartbeat.ensures

pub returns-in-HeartbeatAck : goal.returns-in-HeartbeatAck
returns-in-HeartbeatAck c =
    let a = c.args in
    quiet_kind a.node a.f a.payload.now a.c a.d a.mem.now a.lens.now a.out.now a.kind HeartbeatAck c.in-HeartbeatAck.is _ _ (λ m l. refl)
    (ap (λ (x : Stepped). works x [] [] a.out.now) c.heartbeat_ack_step.ensures)

pub returns-in-FlowControl : goal.returns-in-FlowControl
returns-in-FlowControl c =
    let a = c.args in
    quiet_kind a.node a.f a.payload.now a.c a.d a.mem.now a.lens.now a.out.now a.kind FlowControl c.in-FlowControl.is _ _
    (λ m l. six_quiet a.node a.f.number _ a.c m l a.out.now)
    (c.arrive_six.ensures ∙ ap (λ (n : ℕ). six_for a.node a.f.number n a.c [] [] a.out.now) c.stated_in-in-FlowControl.ensures)

pub returns-in-ControlAck : goal.returns-in-ControlAck
returns-in-ControlAck c =
    let a = c.args in
    quiet_kind a.node a.f a.payload.now a.c a.d a.mem.now a.lens.now a.out.now a.kind ControlAck c.in-ControlAck.is _ _ (λ m l. refl)
    (ap (λ (x : Stepped). works x [] [] a.out.now) (c.control_ack_stated.ensures ∙ ap (control_ack_stated a.c a.f.number) c.stated_in-in-ControlAck.ensures))

pub returns-in-Lacking : goal.returns-in-Lacking
returns-in-Lacking c =
    let a = c.args in
    quiet_kind a.node a.f a.payload.now a.c a.d a.mem.now a.lens.now a.out.now a.kind (Lacking _) c.in-Lacking.is _ _ (λ m l. refl)
    (ap (λ (x : Stepped). works x [] [] a.out.now) c.refused.ensures)
