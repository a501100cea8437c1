-- What an arrival writes: nothing, or one Ack of the channel that it served, which is read back as it was written.
-- Assumes nothing.
use mathlib.Core.Path.{◌≡◌, refl, sym, ap, ap₂, ◌∙◌, subst}
use mathlib.Core.Bool.{Bool, true, false, not, ◌&&◌, ◌||◌}
use mathlib.Core.List.{List, []}
use mathlib.Core.Logic.{◌⊎◌, inl, inr, ⊎_elim}
use Prim.Native.Nat.{ℕ, ◌≤◌, ◌<◌}
use native.Mathlib.Omega.{arith}
use borrow.Author.Tests.{ltb-true, ltb-false, eqb-true, eqb-false, eq-eqb, ne_eqb}
use lib.Dec.{ltb, eqb}
use lib.ListN.{length, take, drop}
use Rattle.std.specs.Prelude.{if◌then◌else◌}
use Rattle.laws.proofs.Choice.{both, either_way, by_test, passed_by}
use Rattle.packet.specs.declared.kinds.Kind.{Kind}
use Rattle.packet.specs.declared.kinds.Kind.TheVariants.{Data, DataAck, Open, Close, Heartbeat, HeartbeatAck, FlowControl, ControlAck, Lacking}
use Rattle.packet.specs.Kinds.{kind_of, code_of, carried, most_carried}
use Rattle.packet.specs.declared.fields.Fields.{Fields}
use Rattle.packet.specs.Layout.{least, prefix_from, payload_at, fields_at, prefix_at, length_at, payload_in}
use Rattle.packet.specs.Tests.{flags_whole}
use Rattle.packet.specs.Writing.{written_of, after_write}
use Rattle.packet.proofs.WriteLaws.{write_done}
use Rattle.packet.specs.Reading.{finds, read_of}
use Rattle.packet.proofs.ReadLaws.{accepted}
use Rattle.packet.proofs.RoundTrip.{written_then_read}
use Rattle.walks.specs.Serving.{Worked, works}
use Rattle.channel.specs.declared.record.Node.{Node}
use Rattle.channel.specs.declared.record.Addresses.{Addresses}
use Rattle.channel.specs.declared.record.Limits.{Limits}
use Rattle.channel.specs.declared.record.Window.{Window}
use Rattle.channel.specs.declared.record.Channel.{Channel}
use Rattle.channel.specs.declared.answer.Answer.{Answer}
use Rattle.channel.specs.declared.answer.Answer.TheVariants.{Done, Repeated, Inactive, Refused}
use Rattle.channel.specs.declared.answer.Refusal.TheVariants as refusal
use Rattle.channel.specs.declared.step.Stepped.{Stepped}
use Rattle.channel.specs.Record.{sends, receives, enabled, opened, closing}
use Rattle.channel.specs.Answers.{length_of}
use Rattle.channel.specs.Steps.{refusing, doing, outgoing_of, outgoing_length}
use Rattle.channel.specs.declared.record.Prefix.{Prefix}
use Rattle.channel.specs.Prefixes.{prefix_of, fit_prefix, same_prefix, prefix_with}
use Rattle.channel.proofs.PrefixLaws.{prefix_length}
use Rattle.channel.proofs.StandingLaws.{own_fits}
use Rattle.channel.specs.Lone.{is_out}
use Rattle.sender_acks.specs.Acks.{control_acked, control_ack_step, away_of, is_awaited, recorded, confirmed_at, advanced, data_ack_step}
use Rattle.sender_acks.specs.Stated.{data_ack_stated, control_ack_stated}
use Rattle.channel.specs.Pulse.{heartbeat_step, heartbeat_ack_step}
use Rattle.channel.specs.Flow.{flow_step, flow_ack_step}
use Rattle.receiver.specs.declared.acks.Acked.{Acked}
use Rattle.receiver.specs.declared.acks.Acked.TheVariants as acked
use Rattle.receiver.specs.Receiving.{ack_length, ack_kind, stated_count, carries, carrying, control_step}
use Rattle.receiver.proofs.StepLaws.{ack_base, ack_plain, carries_few, carrying_length}
use Rattle.receiver_data.specs.Data.{data_step}
use Rattle.ends.proofs.PulseCases.{heartbeat_cases, heartbeat_ack_cases, flow_cases, flow_ack_cases}
use Rattle.ends.proofs.Stated.{data_stated_answer, control_stated_answer}
use Rattle.ends.proofs.ReceiverCases.{control_cases, data_cases, accept_cases}
use Rattle.table.specs.declared.looking.Look.{Look}
use Rattle.table.specs.Looking.{same, graded}
use Rattle.arrivals.specs.Arriving.{stated_in, arrive_as, arrive_by, arrival_for, Framed}
use Rattle.arrivals.specs.Finding.{is_ours, look_of, prefix_read}
use Rattle.arrivals.specs.Data.{reply_length, unfit}
use Rattle.arrivals.specs.Replying.{ack_out, replied_by, replying}
use Rattle.arrivals.proofs.StatedLaws.{six_carries}
use Rattle.arrivals.proofs.ArriveLaws.{framed, by_small, by_unfit, by_kind}
use Rattle.table.proofs.OneLaws.{kind_finds}
use Rattle.arrivals.proofs.FindLaws.{found_packet}
use Rattle.keeps.specs.Keeping.{Given}

-- ---- the steps that reply: with 0 and 15 they have an Ack's octets written

abbrev pub AsLong : ℕ → Answer → Type 0
AsLong k (Done n u) = n ≡ k
AsLong k (Repeated n) = n ≡ k
AsLong k (Inactive why) = Unit {0}
AsLong k (Refused why) = Unit {0}

pub data_long : (c : Channel) (number flags : ℕ) → AsLong (ack_length c) (data_step c number flags).answer
data_long c number flags =
    data_cases c number flags [] [] [] (λ (s : Stepped) (m l : List ℕ). AsLong (ack_length c) s.answer) tt tt refl tt
    (λ o room. accept_cases c _ flags (λ (s : Stepped). AsLong (ack_length c) s.answer) tt refl)

pub control_long : (c : Channel) (opens : Bool) (number : ℕ) → AsLong (ack_length c) (control_step c opens number).answer
control_long c opens number = control_cases c (λ (s : Stepped). AsLong (ack_length c) s.answer) tt refl opens number refl refl tt tt

pub heartbeat_long : (c : Channel) → AsLong (outgoing_length c.addresses 0) (heartbeat_step c).answer
heartbeat_long c = heartbeat_cases c (λ (s : Stepped). AsLong (outgoing_length c.addresses 0) s.answer) tt (λ e. refl)

pub flow_long : (c : Channel) (number : ℕ) → AsLong (outgoing_length c.addresses 0) (flow_step c number).answer
flow_long c number = flow_cases c (λ (s : Stepped). AsLong (outgoing_length c.addresses 0) s.answer) tt number (λ e. refl)

-- where an Ack arrives they have none
pub heartbeat_ack_silent : (c : Channel) (number : ℕ) → length_of (heartbeat_ack_step c number).answer ≡ 0
heartbeat_ack_silent c number = heartbeat_ack_cases c (λ (s : Stepped). length_of s.answer ≡ 0) refl number refl (λ e. refl)

pub flow_ack_silent : (c : Channel) (number : ℕ) → length_of (flow_ack_step c number).answer ≡ 0
flow_ack_silent c number = flow_ack_cases c (λ (s : Stepped). length_of s.answer ≡ 0) refl number refl (λ e. refl)

data_ack_silent : (c : Channel) (number : ℕ) → length_of (data_ack_step c number).answer ≡ 0
unfolding data_ack_step
data_ack_silent c number = go (not (eqb c.phase.state opened)) (not (is_awaited c (away_of c number)))
  where
    go : (a b : Bool)
        → length_of
        (if a then refusing c refusal.State else if b then refusing c refusal.Ignored
        else record { channel = advanced (recorded c (away_of c number)); answer = Done 0 (confirmed_at (recorded c (away_of c number))) }).answer ≡ 0
    go true b = refl
    go false true = refl
    go false false = refl

control_ack_silent : (c : Channel) (number : ℕ) → length_of (control_ack_step c number).answer ≡ 0
unfolding control_ack_step
control_ack_silent c number = go (not (eqb c.phase.state enabled || eqb c.phase.state closing)) (not (eqb number 0)) (not (is_out c.phase.control))
  where
    go : (a b d : Bool)
        → length_of
        (if a then refusing c refusal.State else if b then refusing c refusal.Ignored else if d then refusing c refusal.Ignored
        else doing (control_acked c) 0).answer ≡ 0
    go true b d = refl
    go false true d = refl
    go false false true = refl
    go false false false = refl

-- ---- an Ack, read back

-- with so many octets
pub record Acks (node : Node) (a : Addresses) (kind : Kind) (number : ℕ) (packet : List ℕ) : Type 0 where
  pub count : ℕ
  pub read : read_of packet ≡ finds (outgoing_of node a kind flags_whole number) (length (prefix_of a.own)) (payload_at (length (prefix_of a.own))) count
  pub fields : fields_at packet ≡ outgoing_of node a kind flags_whole number
  pub prefix : prefix_read packet ≡ prefix_with a.own.length (prefix_of a.own)

-- one that is no Data Ack; that of Control is a receiver's
pub record OtherAck (node : Node) (a : Addresses) (number : ℕ) (packet : List ℕ) : Type 0 where
  pub kind : Kind
  pub known : carried kind ≡ true
  pub other : code_of kind ≡ code_of DataAck → ⊥
  pub receiving : code_of kind ≡ code_of ControlAck → a.direction ≡ receives
  pub acks : Acks node a kind number packet

module _ (node : Node) (a : Addresses) (number : ℕ) (fits : fit_prefix a.own ≡ true) (of : Acked) (l : Limits) (w : Window) (out : List ℕ)
    (room : outgoing_length a (carries of l) ≤ length out) where
  abbrev f : Fields
  f = outgoing_of node a (ack_kind of) flags_whole number

  abbrev q : List ℕ
  q = prefix_of a.own

  abbrev p : List ℕ
  p = carrying of l w

  long : length p ≡ carries of l
  long = carrying_length of l w

  abbrev Whole : ℕ → Type 0
  Whole n =
      let packet = take (outgoing_length a n) (ack_out node a of number p out) in
      Acks node a (ack_kind of) number packet × (payload_in packet ≡ p)

  whole : Whole (carries of l)
  unfolding after_write
  whole =
      let own = prefix_length a.own in
      let few : length p ≤ most_carried (ack_kind of) = subst (λ (n : ℕ). n ≤ most_carried (ack_kind of)) (sym long) (carries_few of l) in
      let enough : outgoing_length a (length p) ≤ length out = subst (λ (n : ℕ). outgoing_length a n ≤ length out) (sym long) room in
      let done = ap (λ (n : ℕ). written_of f n (length p) (length out)) own
      ∙ write_done f a.own.length (length p) (length out) (ack_base node a number fits of) (ack_plain node a number fits of (length p) few) enough in
      let r = written_then_read f q p out (outgoing_length a (length p)) done in
      let packet = take (outgoing_length a (length p)) (ack_out node a of number p out) in
      let got = accepted packet f (length q) (payload_at (length q)) (length p) r.answer in
      subst Whole long (
        record {
          count = length p;
          read = r.answer;
          fields = got.fields;
          prefix =
              ap (λ (n : ℕ). prefix_with n (take n (drop prefix_from packet))) got.prefix
              ∙ ap (prefix_with (length q)) r.prefix
              ∙ ap (λ (n : ℕ). prefix_with n q) own;
        },
        ap₂ (λ (n k : ℕ). take n (drop (payload_at k) packet)) got.payload got.prefix ∙ r.payload,
      )

  pub ack_written : Acks node a (ack_kind of) number (take (outgoing_length a (carries of l)) (ack_out node a of number p out))
  ack_written = whole.0

  -- with the octets that it carries
  pub ack_carries : payload_in (take (outgoing_length a (carries of l)) (ack_out node a of number p out)) ≡ p
  ack_carries = whole.1

  -- what is written by an answer: nothing, or the Ack
  pub reply_written : (r : Answer) → AsLong (outgoing_length a (carries of l)) r
      → (take (length_of r) (replied_by r node a of number p out) ≡ []) ⊎ Acks node a (ack_kind of) number (take (length_of r) (replied_by r node a of number p out))
  reply_written (Done n u) e = inr (subst (λ (k : ℕ). Acks node a (ack_kind of) number (take k (ack_out node a of number p out))) (sym e) ack_written)
  reply_written (Repeated n) e = inr (subst (λ (k : ℕ). Acks node a (ack_kind of) number (take k (ack_out node a of number p out))) (sym e) ack_written)
  reply_written (Inactive why) e = inl refl
  reply_written (Refused why) e = inl refl

-- ---- whom a Data Ack names

module _ (node other : Node) (a b : Addresses) (number x : ℕ) (q : Prefix) where
  abbrev g : Fields
  g = outgoing_of node a DataAck flags_whole number

  pub ack_named : is_ours other g ≡ true → same b g x q ≡ true → (a.remote ≡ other.address) × (b.channel ≡ a.channel)
  unfolding is_ours same kind_of
  ack_named ours is =
      let p = both (eqb g.destination other.address) (eqb g.protocol other.protocol) ours in
      let r = both (eqb b.channel g.channel && eqb b.remote g.source && same_prefix b.prefix q) (eqb b.direction sends) is in
      let r2 = both (eqb b.channel g.channel && eqb b.remote g.source) (same_prefix b.prefix q) r.0 in
      let r3 = both (eqb b.channel g.channel) (eqb b.remote g.source) r2.0 in
      (eqb-true a.remote other.address p.0, eqb-true b.channel a.channel r3.0)

  pub ack_names : a.remote ≡ other.address → node.protocol ≡ other.protocol → b.channel ≡ a.channel → b.remote ≡ node.address → b.direction ≡ sends
      → same_prefix b.prefix q ≡ true
      → (is_ours other g && same b g x q) ≡ true
  unfolding is_ours same kind_of
  ack_names e1 e2 e3 e4 e5 e6 =
      simp (eq-eqb a.remote other.address e1, eq-eqb node.protocol other.protocol e2, eq-eqb b.channel a.channel e3, eq-eqb b.remote node.address e4, eq-eqb b.direction sends e5, e6)

-- ---- what an arrival writes at the channel that it is for

module _ (node : Node) (packet out : List ℕ) (at rank : ℕ) (c : Channel) (mem lens : List ℕ) (given : Given (look_of node packet (length out)) at rank c mem lens) where
  suits : graded (look_of node packet (length out)) given.lines at c < 48
  suits = subst (λ (k : ℕ). k < 48) given.suits given.found

  pub arrival_framed : Framed c (fields_at packet) (payload_at (prefix_at packet)) (length_at packet) packet out
  arrival_framed =
      framed node packet out given.lines at c (look_of node packet (length out)) (fields_at packet) (payload_at (prefix_at packet)) (length_at packet) refl suits
      (ap (λ (l : Look). l.sought) (found_packet node packet (length out) given.lines at c suits).3)

  abbrev n : ℕ
  n = (fields_at packet).number

  abbrev Wrote : Worked Stepped → Type 0
  Wrote v =
      (take (length_of v.made.answer) v.out ≡ [])
      ⊎ (OtherAck node c.addresses n (take (length_of v.made.answer) v.out))
      ⊎ ((c.addresses.direction ≡ receives) × Acks node c.addresses DataAck n (take (length_of v.made.answer) v.out))

  pub arrival_wrote : Wrote (arrival_for node packet c rank mem lens out)
  unfolding arrival_for
  arrival_wrote = either_way (ltb (length out) (reply_length c (kind_of f.kind) x)) small (λ e. by_fit (ltb-false _ _ e) (unfit c f x) refl)
    where
      f : Fields
      f = fields_at packet

      x : ℕ
      x = length_at packet

      p : List ℕ
      p = payload_in packet

      told : Framed c f (payload_at (prefix_at packet)) x packet out
      told = arrival_framed

      silent : (s : Stepped) → length_of s.answer ≡ 0 → Wrote (works s mem lens out)
      silent s e = inl (ap (λ (k : ℕ). take k out) e)

      fits : fit_prefix c.addresses.own ≡ true
      fits = own_fits c lens given.standing

      other : (kind : Kind) (o : List ℕ) → carried kind ≡ true → (code_of kind ≡ code_of DataAck → ⊥) → (code_of kind ≡ code_of ControlAck → c.addresses.direction ≡ receives)
          → Acks node c.addresses kind n o
          → OtherAck node c.addresses n o
      other kind o known not way k = record { kind = kind; known = known; other = not; receiving = way; acks = k }

      control : ack_length c ≤ length out → (of : Acked) → ack_kind of ≡ ControlAck → carries of c.limits ≡ stated_count c.limits → c.addresses.direction ≡ receives → (opens : Bool)
          → Wrote (replying node c of n (control_step c opens n) mem lens out)
      control room of is_control count way opens =
          let step = control_step c opens n in
          ⊎_elim (λ e. inl e)
          (λ e. inr (inl (other (ack_kind of) _ (ap carried is_control) (λ z. omega (arith, sym (ap code_of is_control) ∙ z)) (λ z. way) e)))
          (reply_written node c.addresses n fits of c.limits step.channel.window out (subst (λ (k : ℕ). outgoing_length c.addresses k ≤ length out) (sym count) room) step.answer
          (subst (λ (k : ℕ). AsLong (outgoing_length c.addresses k) step.answer) (sym count) (control_long c opens n)))

      m : ℕ
      m = stated_in p

      as_kind : (k : Kind) → kind_of f.kind ≡ k → reply_length c k x ≤ length out → Wrote (arrive_as k node f p c rank mem lens out)
      as_kind Data is room =
          ⊎_elim (λ e. inl e) (λ e. inr (inr (eqb-true _ _ (kind_finds c.addresses f x (prefix_read packet) Data told.ours is), e)))
          (reply_written node c.addresses n fits acked.Data c.limits (data_step c n f.flags).channel.window out room (data_step c n f.flags).answer (data_long c n f.flags))
      as_kind DataAck is room = silent (data_ack_stated c n m) (ap length_of (data_stated_answer c n m) ∙ data_ack_silent c n)
      as_kind Open is room = control room acked.Open refl refl (eqb-true _ _ (kind_finds c.addresses f x (prefix_read packet) Open told.ours is)) true
      as_kind Close is room = control room acked.Close refl refl (eqb-true _ _ (kind_finds c.addresses f x (prefix_read packet) Close told.ours is)) false
      as_kind Heartbeat is room =
          ⊎_elim (λ e. inl e) (λ e. inr (inl (other HeartbeatAck _ refl (λ z. omega (arith, z)) (λ z. absurd (omega (arith, z))) e)))
          (reply_written node c.addresses n fits acked.Heartbeat c.limits (heartbeat_step c).channel.window out room (heartbeat_step c).answer (heartbeat_long c))
      as_kind HeartbeatAck is room = silent (heartbeat_ack_step c n) (heartbeat_ack_silent c n)
      as_kind FlowControl is room =
          by_test Wrote (eqb c.addresses.direction receives) _ _
          (λ e. silent (flow_ack_step c n) (flow_ack_silent c n))
          (λ e.
          let some = six_carries c.addresses f x (prefix_read packet) told.ours is (eqb-false _ _ e) in
          let enough = subst (λ (k : ℕ). k ≤ length out) (passed_by (eqb x 0) least (outgoing_length c.addresses 0) (ne_eqb x 0 some)) room in
          ⊎_elim (λ z. inl z) (λ z. inr (inl (other FlowControl _ refl (λ y. omega (arith, y)) (λ y. absurd (omega (arith, y))) z)))
          (reply_written node c.addresses n fits acked.Flow c.limits (flow_step c m).channel.window out enough (flow_step c m).answer (flow_long c m)))
      as_kind ControlAck is room = silent (control_ack_stated c n m) (ap length_of (control_stated_answer c n m) ∙ control_ack_silent c n)
      as_kind (Lacking code) is room = inl refl

      small : ltb (length out) (reply_length c (kind_of f.kind) x) ≡ true → Wrote (arrive_by node f x p c rank mem lens out)
      small e = subst Wrote (sym (by_small node f x p c rank mem lens out (kind_of f.kind) refl (ltb-true _ _ e))) (inl refl)

      by_fit : reply_length c (kind_of f.kind) x ≤ length out → (b : Bool) → unfit c f x ≡ b → Wrote (arrive_by node f x p c rank mem lens out)
      by_fit room true e = subst Wrote (sym (by_unfit node f x p c rank mem lens out room e)) (inl refl)
      by_fit room false e = subst Wrote (sym (by_kind node f x p c rank mem lens out room e (kind_of f.kind) refl)) (as_kind (kind_of f.kind) refl room)
