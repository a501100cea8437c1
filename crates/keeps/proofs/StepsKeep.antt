-- Every step of a channel keeps what the test for 13 asks: the record stands with the lengths left, and nothing that the settings fixed has changed.
-- Assumes nothing.
use mathlib.Core.Path.{◌≡◌, refl, sym, ap, ◌∙◌, subst}
use mathlib.Core.Bool.{Bool, true, false}
use mathlib.Core.List.{List}
use Prim.Native.Nat.{ℕ, ◌≤◌, ◌<◌}
use native.Mathlib.Omega.{arith}
use borrow.Author.Tests.{ltb-true, ltb-false, eqb-true, eqb-false, eq-eqb, ne_eqb}
use lib.Dec.{ltb, eqb}
use lib.ListN.{length, drop, length-take}
use Rattle.channel.proofs.SettingsLaws.{directed}
use Rattle.laws.proofs.Choice.{either, either_way, chosen, passed_by}
use Rattle.slots.specs.Slots.{Sized}
use Rattle.packet.specs.declared.fields.Fields.{Fields}
use Rattle.packet.specs.Layout.{fields_at, prefix_at, length_at, payload_at, payload_in}
use Rattle.walks.specs.Serving.{works}
use Rattle.packet.specs.declared.kinds.Kind.{Kind}
use Rattle.packet.specs.declared.kinds.Kind.TheVariants.{Data, DataAck, Open, Close, Heartbeat, HeartbeatAck, FlowControl, ControlAck, Lacking}
use Rattle.packet.specs.Kinds.{kind_of}
use Rattle.channel.specs.declared.record.Node.{Node}
use Rattle.channel.specs.declared.record.Channel.{Channel}
use Rattle.channel.specs.declared.answer.Refusal.{Refusal}
use Rattle.channel.specs.declared.answer.Refusal.TheVariants as refusal
use Rattle.channel.specs.declared.step.Stepped.{Stepped}
use Rattle.channel.specs.Record.{sends, receives}
use Rattle.channel.specs.Standing.{Standing}
use Rattle.channel.specs.Steps.{refusing}
use Rattle.channel.proofs.FixedLaws.{SameSettings}
use Rattle.channel.proofs.StandingLaws.{Sane, named_is}
use Rattle.sender.specs.Directives as sender
use Rattle.sender_units.specs.Reclaiming.{reclaim_step, reclaim_out}
use Rattle.sender_packets.specs.HandingOut.{hand_step, hand_out}
use Rattle.sender_acks.specs.Stated.{control_ack_stated, data_ack_stated}
use Rattle.ends.proofs.KeepsDirectives.{open_stands, close_stands, control_ack_stands, tick_stands}
use Rattle.ends.proofs.KeepsHandingOut.{hand_stands}
use Rattle.ends.proofs.KeepsReclaiming.{reclaim_stands}
use Rattle.ends.proofs.KeepsAcks.{data_ack_stands}
use Rattle.ends.proofs.KeepsTransfer.{transfer_stands, transfer_sized}
use Rattle.ends.proofs.SenderFixed as sent
use Rattle.receiver.specs.Receiving as receiver
use Rattle.receiver.specs.Receiving.{carrying}
use Rattle.receiver_data.specs.Data.{data_step}
use Rattle.receiver_data.specs.Taking.{take_step, take_out}
use Rattle.ends.proofs.ReceiverKeeps as received
use Rattle.ends.proofs.ReceiverFixed as fixed
use Rattle.table.specs.declared.looking.Look.{Look}
use Rattle.sender_packets.specs.Asked.{Ready as IsReady}
use Rattle.table.specs.declared.looking.Sought.TheVariants.{Ready}
use Rattle.table.specs.Looking.{seeking}
use Rattle.table.specs.Looking.{looks_for, graded}
use Rattle.table.specs.Waiting.{waits}
use Rattle.table.specs.Serving.{alone}
use Rattle.channel.specs.declared.step.Ticked.{Ticked}
use Rattle.channel.specs.Pulse.{heartbeat_step, heartbeat_ack_step}
use Rattle.channel.specs.Flow.{flow_step, flow_ack_step}
use Rattle.channel.specs.Pairs.{filed}
use Rattle.channel.proofs.FlowLaws.{replied_sane}
use Rattle.ends.proofs.KeepsPulse.{pulse_keeps, heartbeat_keeps, heartbeat_ack_keeps, flow_keeps, flow_ack_keeps}
use Rattle.ends.proofs.PulseFixed.{heartbeat_fixed, heartbeat_ack_fixed, flow_fixed, flow_ack_fixed}
use Rattle.ends.proofs.Stated.{data_stated_fixed, control_stated_fixed, data_stated_stands, control_stated_stands}
use Rattle.receiver.specs.declared.acks.Acked.{Acked}
use Rattle.receiver.specs.declared.acks.Acked.TheVariants as acked
use Rattle.requests.specs.Requests.{opened_by, closed_by, transfer_for, take_for, reclaim_for}
use Rattle.requests.specs.Handing.{next_for}
use Rattle.arrivals.specs.Finding.{look_of, prefix_read}
use Rattle.arrivals.specs.Data.{reply_length, unfit}
use Rattle.arrivals.specs.Replying.{replied_by, replies, acknowledging, replying}
use Rattle.arrivals.specs.Arriving.{stated_in, arrive_as, arrive_by, arrival_for, Framed}
use Rattle.table.proofs.OneLaws.{kind_finds}
use Rattle.requests.proofs.HandLaws.{turn_waits, ready_is}
use Rattle.ticks.proofs.TickLaws.{tick_sends, tick_receives}
use Rattle.requests.proofs.RequestLaws.{opened_sends, opened_receives, closed_sends, closed_receives}
use Rattle.arrivals.proofs.FindLaws.{found_packet}
use Rattle.arrivals.proofs.DataLaws.{fit_payload}
use Rattle.arrivals.proofs.ArriveLaws.{framed, by_small, by_unfit, by_kind}
use Rattle.ticks.specs.Ticks.{tick_of}
use Rattle.keeps.specs.Keeping.{Given, Kept, Keeps}

-- ---- a record sends or receives

not_sends : (a : ℕ) → a ≡ receives → a ≡ sends → ⊥
not_sends a e e2 = omega (arith, e, e2)

pub by_direction : {P : Type 0} (c : Channel) (lens : List ℕ) → Standing c lens
    → (c.addresses.direction ≡ sends → P) → (c.addresses.direction ≡ receives → P) → P
by_direction c lens h s r =
    either_way (eqb c.addresses.direction sends)
    (λ e. s (eqb-true c.addresses.direction sends e))
    (λ e. r (omega (arith, eqb-false c.addresses.direction sends e, directed c.addresses (named_is c h.named).addresses)))

-- ---- a step that leaves memory and lengths, and one that writes them

module _ (c : Channel) (mem lens out : List ℕ) (sized : Sized c.limits.slots c.limits.payload mem lens) where
  quiet_kept : (s : Stepped) → SameSettings c s.channel → Standing s.channel lens → Kept c (works s mem lens out)
  quiet_kept s f h = record { addresses = f.0; limits = f.1; standing = h; sized = sized }

  refused_kept : (why : Refusal) → Standing c lens → Kept c (works (refusing c why) mem lens out)
  refused_kept why h = quiet_kept (refusing c why) (refl, refl) h

-- a step and the reply to it, at either end
pub acks_stand : (number : ℕ) (s : Stepped) (lens : List ℕ) → Standing s.channel lens → Standing (acknowledging number s).channel lens
acks_stand number s lens h =
    let c = s.channel in
    let sane = (named_is c h.named).pulse in
    pulse_keeps c lens _ (either Sane (replies s.answer) _ c.pulse (replied_sane c.phase.state c.limits number c.pulse sane) sane) h

-- ---- directives

pub open_keeps : (look : Look) (out : List ℕ) → Keeps look (alone opened_by) out
open_keeps look out at rank c mem lens g =
    by_direction c lens g.standing
    (λ d.
    subst (λ (s : Stepped). Kept c (works s mem lens out)) (sym (opened_sends c d))
    (quiet_kept c mem lens out g.sized (sender.open_step c) (sent.open_fixed c) (open_stands c lens g.standing)))
    (λ d.
    subst (λ (s : Stepped). Kept c (works s mem lens out)) (sym (opened_receives c (not_sends c.addresses.direction d)))
    (quiet_kept c mem lens out g.sized (receiver.open_step c) (fixed.opening_fixed c) (received.opening_stands c lens d g.standing)))

pub close_keeps : (look : Look) (out : List ℕ) → Keeps look (alone closed_by) out
close_keeps look out at rank c mem lens g =
    by_direction c lens g.standing
    (λ d.
    subst (λ (s : Stepped). Kept c (works s mem lens out)) (sym (closed_sends c d))
    (quiet_kept c mem lens out g.sized (sender.close_step c) (sent.close_fixed c) (close_stands c lens g.standing d)))
    (λ d.
    subst (λ (s : Stepped). Kept c (works s mem lens out)) (sym (closed_receives c (not_sends c.addresses.direction d)))
    (refused_kept c mem lens out g.sized refusal.State g.standing))

-- ---- units

-- the array of marks has a place for each slot
pub transfer_keeps : (look : Look) (unit out : List ℕ) (at rank : ℕ) (c : Channel) (mem lens : List ℕ) → length c.marks ≡ 128
    → Given look at rank c mem lens → Kept c (transfer_for unit c rank mem lens out)
unfolding transfer_for
transfer_keeps look unit out at rank c mem lens wide g =
    by_direction c lens g.standing
    (λ d.
    subst (Kept c) (sym (chosen (eqb c.addresses.direction sends) _ _ (eq-eqb c.addresses.direction sends d)))
    (record {
      addresses = (sent.transfer_fixed c (filed c.limits unit)).0;
      limits = (sent.transfer_fixed c (filed c.limits unit)).1;
      standing = transfer_stands c (filed c.limits unit) lens wide g.standing d;
      sized = transfer_sized c (filed c.limits unit) mem lens g.standing g.sized;
    }))
    (λ d.
    subst (Kept c) (sym (passed_by (eqb c.addresses.direction sends) _ _ (ne_eqb c.addresses.direction sends (not_sends c.addresses.direction d))))
    (refused_kept c mem lens out g.sized refusal.State g.standing))

pub take_keeps : (look : Look) (out : List ℕ) → Keeps look take_for out
unfolding take_for
take_keeps look out at rank c mem lens g =
    by_direction c lens g.standing
    (λ d.
    subst (Kept c) (sym (passed_by (eqb c.addresses.direction receives) _ _ (ne_eqb c.addresses.direction receives (λ e. not_sends c.addresses.direction e d))))
    (refused_kept c mem lens out g.sized refusal.State g.standing))
    (λ d.
    subst (Kept c) (sym (chosen (eqb c.addresses.direction receives) _ _ (eq-eqb c.addresses.direction receives d)))
    (quiet_kept c mem lens (take_out c lens mem out) g.sized (take_step c lens (length out)) (fixed.take_fixed c lens (length out)) (received.take_stands c lens d g.standing (length out))))

pub reclaim_keeps : (look : Look) (out : List ℕ) → Keeps look reclaim_for out
unfolding reclaim_for
reclaim_keeps look out at rank c mem lens g =
    by_direction c lens g.standing
    (λ d.
    subst (Kept c) (sym (chosen (eqb c.addresses.direction sends) _ _ (eq-eqb c.addresses.direction sends d)))
    (quiet_kept c mem lens (reclaim_out c lens mem out) g.sized (reclaim_step c lens (length out)) (sent.reclaim_fixed c lens (length out)) (reclaim_stands c lens (length out) g.standing d)))
    (λ d.
    subst (Kept c) (sym (passed_by (eqb c.addresses.direction sends) _ _ (ne_eqb c.addresses.direction sends (not_sends c.addresses.direction d))))
    (refused_kept c mem lens out g.sized refusal.State g.standing))

-- ---- the next packet

-- whose turn it is, waits, and a packet of the rank is ready
module _ (at rank : ℕ) (c : Channel) (mem lens : List ℕ) (g : Given (seeking Ready) at rank c mem lens) where
  pub given_waits : waits rank c ≡ true
  given_waits = ap (λ (r : ℕ). waits r c) g.ranked ∙ turn_waits at c g.lines g.grade g.suits g.found

  pub given_ready : IsReady c rank
  given_ready = subst (λ (k : ℕ). IsReady c k) (sym g.ranked) (ready_is at c g.lines g.grade g.suits g.found)

pub next_keeps : (node : Node) (out : List ℕ) → Keeps (seeking Ready) (next_for node) out
unfolding next_for
next_keeps node out at rank c mem lens g =
    quiet_kept c mem lens (hand_out node c lens mem rank out) g.sized (hand_step c lens rank (length out)) (sent.hand_fixed c lens rank (length out))
    (hand_stands c lens rank (length out) g.standing (given_ready at rank c mem lens g))

-- ---- an arrival

-- the payload of Data that is fit has at most P octets
payload_short : (c : Channel) (s : List ℕ) → unfit c (fields_at s) (length_at s) ≡ false → kind_of (fields_at s).kind ≡ Data → length (payload_in s) ≤ c.limits.payload
payload_short c s fit k =
    omega (arith, fit_payload c (fields_at s) (length_at s) fit k, length-take (length_at s) (drop (payload_at (prefix_at s)) s))

pub arrival_keeps : (node : Node) (packet out : List ℕ) → Keeps (look_of node packet (length out)) (arrival_for node packet) out
unfolding arrival_for
arrival_keeps node packet out at rank c mem lens g = either_way (ltb (length out) (reply_length c (kind_of f.kind) x)) small (λ e. by_fit (ltb-false _ _ e) (unfit c f x) refl)
  where
    f : Fields
    f = fields_at packet

    x : ℕ
    x = length_at packet

    p : List ℕ
    p = payload_in packet

    suits : graded (look_of node packet (length out)) g.lines at c < 48
    suits = subst (λ (k : ℕ). k < 48) g.suits g.found

    told : Framed c f (payload_at (prefix_at packet)) x packet out
    told =
        framed node packet out g.lines at c (look_of node packet (length out)) f (payload_at (prefix_at packet)) x refl suits
        (ap (λ (l : Look). l.sought) (found_packet node packet (length out) g.lines at c suits).3)

    n : ℕ
    n = f.number

    m : ℕ
    m = stated_in p

    Wanted : Type 0
    Wanted = Kept c (arrive_by node f x p c rank mem lens out)

    replied : (of : Acked) (s : Stepped) → SameSettings c s.channel → Standing s.channel lens → Kept c (replying node c of n s mem lens out)
    replied of s same h =
        quiet_kept c mem lens (replied_by s.answer node c.addresses of n (carrying of c.limits s.channel.window) out) g.sized (acknowledging n s) same (acks_stand n s lens h)

    receiving : eqb c.addresses.direction receives ≡ true → c.addresses.direction ≡ receives
    receiving e = eqb-true _ _ e

    sending : eqb c.addresses.direction sends ≡ true → c.addresses.direction ≡ sends
    sending e = eqb-true _ _ e

    control : c.addresses.direction ≡ receives → (of : Acked) (opens : Bool)
        → Kept c (replying node c of n (receiver.control_step c opens n) mem lens out)
    control dir of opens =
        replied of (receiver.control_step c opens n) (fixed.control_fixed c opens n) (received.control_stands c lens dir g.standing opens n)

    as_kind : unfit c f x ≡ false → (k : Kind) → kind_of f.kind ≡ k → looks_for k x c.addresses.direction ≡ true → Kept c (arrive_as k node f p c rank mem lens out)
    as_kind fit Data is dir =
        let short = payload_short c packet fit is in
        record {
          addresses = (fixed.data_fixed c n f.flags).0;
          limits = (fixed.data_fixed c n f.flags).1;
          standing = acks_stand n (data_step c n f.flags) _ (received.data_stands c lens (receiving dir) g.standing n p mem short f.flags told.flags);
          sized = received.data_sized c lens (receiving dir) g.standing n p mem short g.sized;
        }
    as_kind fit DataAck is dir =
        quiet_kept c mem lens out g.sized (data_ack_stated c n m) (data_stated_fixed c n m (sent.data_ack_fixed c n)) (data_stated_stands c n m lens (data_ack_stands c lens n g.standing (sending dir)))
    as_kind fit Open is dir = control (receiving dir) acked.Open true
    as_kind fit Close is dir = control (receiving dir) acked.Close false
    as_kind fit Heartbeat is dir = replied acked.Heartbeat (heartbeat_step c) (heartbeat_fixed c) (heartbeat_keeps c lens g.standing)
    as_kind fit HeartbeatAck is dir =
        quiet_kept c mem lens out g.sized (heartbeat_ack_step c n) (heartbeat_ack_fixed c n) (heartbeat_ack_keeps c lens g.standing n)
    as_kind fit FlowControl is dir =
        either (Kept c) (eqb c.addresses.direction receives) _ _
        (quiet_kept c mem lens out g.sized (flow_ack_step c n) (flow_ack_fixed c n) (flow_ack_keeps c lens g.standing n))
        (replied acked.Flow (flow_step c m) (flow_fixed c m) (flow_keeps c lens g.standing m))
    as_kind fit ControlAck is dir =
        quiet_kept c mem lens out g.sized (control_ack_stated c n m) (control_stated_fixed c n m (sent.control_ack_fixed c n)) (control_stated_stands c n m lens (control_ack_stands c lens n g.standing (sending dir)))
    as_kind fit (Lacking code) is dir = refused_kept c mem lens out g.sized refusal.Lacking g.standing

    small : ltb (length out) (reply_length c (kind_of f.kind) x) ≡ true → Wanted
    small e =
        subst (Kept c) (sym (by_small node f x p c rank mem lens out (kind_of f.kind) refl (ltb-true _ _ e)))
        (refused_kept c mem lens out g.sized (refusal.Small (reply_length c (kind_of f.kind) x)) g.standing)

    by_fit : reply_length c (kind_of f.kind) x ≤ length out → (b : Bool) → unfit c f x ≡ b → Wanted
    by_fit room true e =
        subst (Kept c) (sym (by_unfit node f x p c rank mem lens out room e)) (refused_kept c mem lens out g.sized refusal.Strange g.standing)
    by_fit room false e =
        let k = kind_of f.kind in
        subst (Kept c) (sym (by_kind node f x p c rank mem lens out room e k refl)) (as_kind e k refl (kind_finds c.addresses f x (prefix_read packet) k told.ours refl))

-- ---- a tick of one channel

pub tick_keeps : (c : Channel) (lens : List ℕ) → Standing c lens → SameSettings c (tick_of c) × Standing (tick_of c) lens
tick_keeps c lens h =
    by_direction c lens h
    (λ d.
    let e = ap (λ (x : Ticked). x.channel) (tick_sends c d) in
    subst (λ (k : Channel). SameSettings c k × Standing k lens) (sym e) (sent.tick_fixed c, tick_stands c lens h d))
    (λ d.
    let e = ap (λ (x : Ticked). x.channel) (tick_receives c (not_sends c.addresses.direction d)) in
    subst (λ (k : Channel). SameSettings c k × Standing k lens) (sym e) (fixed.tick_fixed c, received.tick_stands c lens d h))
