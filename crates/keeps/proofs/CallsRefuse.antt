-- All answers but 0, 9 and 15 change no record and no octet, and 9 writes no reply (document 01, Answer numbers): of each public call.
-- Assumes nothing.
use mathlib.Core.Path.{◌≡◌, refl, sym, ap, ◌∙◌}
use mathlib.Core.Logic.{inl, inr}
use mathlib.Core.Bool.{Bool, true, false, not}
use mathlib.Core.List.{List, [], map}
use Prim.Native.Nat.{ℕ}
use native.Mathlib.Omega.{arith}
use lib.Dec.{eqb, ltb}
use lib.ListN.{length, set}
use lib.Seq.{set-get_or}
use Rattle.std.specs.Prelude.{if◌then◌else◌}
use Rattle.laws.proofs.Choice.{either}
use Rattle.slots.specs.Slots.{laid}
use Rattle.packet.specs.declared.fields.Fields.{Fields}
use Rattle.packet.specs.Layout.{fields_at, length_at}
use Rattle.walks.specs.Serving.{Worked, works, changes}
use Rattle.packet.specs.declared.kinds.Kind.{Kind}
use Rattle.packet.specs.declared.kinds.Kind.TheVariants.{Data, DataAck, Open, Close, Heartbeat, HeartbeatAck, FlowControl, ControlAck, Lacking}
use Rattle.packet.specs.Kinds.{kind_of}
use Rattle.channel.specs.declared.record.Node.{Node}
use Rattle.channel.specs.declared.record.Addresses.{Addresses}
use Rattle.channel.specs.declared.record.Channel.{Channel}
use Rattle.channel.specs.declared.answer.Answer.{Answer}
use Rattle.channel.specs.declared.answer.Answer.TheVariants.{Done, Repeated, Inactive, Refused}
use Rattle.channel.specs.declared.answer.Refusal.{Refusal}
use Rattle.channel.specs.declared.answer.Refusal.TheVariants as refusal
use Rattle.channel.specs.declared.step.Stepped.{Stepped}
use Rattle.channel.specs.Answers.{number_of}
use Rattle.channel.specs.Record.{sends, receives, closed as closedState}
use Rattle.channel.specs.Steps.{refusing, doing}
use Rattle.channel.specs.Pairs.{filed}
use Rattle.sender.specs.Directives as sender
use Rattle.sender_units.specs.Reclaiming.{unit_at, size_at, dropped, reclaim_step}
use Rattle.sender_packets.specs.HandingOut.{next_out, next_length, hand_step}
use Rattle.sender_acks.specs.Acks.{control_ack_step, data_ack_step}
use Rattle.ends.proofs.SenderRefusals as sent
use Rattle.channel.specs.Pulse.{heartbeat_step, heartbeat_ack_step}
use Rattle.channel.specs.Flow.{flow_step, flow_ack_step}
use Rattle.sender_acks.specs.Stated.{data_ack_stated, control_ack_stated}
use Rattle.ends.proofs.Stated.{data_unstated, control_unstated, data_stated_answer, control_stated_answer}
use Rattle.receiver.specs.declared.acks.Acked.{Acked}
use Rattle.receiver.specs.declared.acks.Acked.TheVariants as acked
use Rattle.receiver.specs.Receiving as receiver
use Rattle.receiver_data.specs.Data.{data_step}
use Rattle.ends.proofs.ReceiverCases.{take_cases}
use Rattle.ends.proofs.ReceiverRefusals as received
use Rattle.table.specs.declared.looking.Look.{Look}
use Rattle.table.specs.declared.looking.Sought.TheVariants.{Index, Question, Ready, Nobody}
use Rattle.table.specs.Looking.{seeking}
use Rattle.table.specs.Looking.{chosen as choice}
use Rattle.table.specs.declared.looking.Sought.{Sought}
use Rattle.table.specs.Waiting.{rank_in, may_move, moved}
use Rattle.table.proofs.WaitingLaws.{moves_not}
use Rattle.table.specs.Lent.{area_of, slot_at, octet_at, passes}
use Rattle.table.specs.Serving.{blank, record_at, own_mem, own_lens, Step, alone, stored, serve_one}
use Rattle.requests.specs.Requests.{opened_by, closed_by, transfer_for, asked_by, take_for, reclaim_for}
use Rattle.requests.specs.Handing.{next_for}
use Rattle.arrivals.specs.Finding.{look_of}
use Rattle.arrivals.specs.Data.{reply_length, unfit, data_for}
use Rattle.arrivals.specs.Replying.{replied_by, replies, acknowledging, replying}
use Rattle.arrivals.proofs.ReplyLaws.{acks_none}
use Rattle.arrivals.specs.Arriving.{stated_in, arrive_as, arrive_by, arrival_for}
use Rattle.packet.specs.Layout.{payload_in}
use Rattle.table.proofs.Parts.{laid_own}
use Rattle.ticks.specs.Ticks.{tick_of, any_inactive, first_inactive, ticked, relisted_from}
use Rattle.node.specs.declared.request.Request.{Request}
use Rattle.node.specs.declared.request.Request.TheVariants.{Open, Close, Transfer, WouldTransfer, Take, Reclaim, Arrival, NextPacket, Unknown}
use Rattle.node.specs.Calls.{served, open_call, close_call, transfer_call, take_call, reclaim_call, next_packet_call, arrival_call}
use Rattle.keeps.specs.Keeping.{MayChange, RefusalsChangeNothing, RefusalsChangeNoRecord, NineWritesNothing}
use Rattle.keeps.proofs.Serving.{served_at, worked, serve_cases}

-- ---- of a step, and of a call that makes it

-- with another answer all is as it was
abbrev Still : Channel → List ℕ → List ℕ → List ℕ → Worked Stepped → Type 0
Still c mem lens out w =
    (MayChange w.made.answer → ⊥) → (w.made.channel ≡ c) × (w.mem ≡ mem) × (w.lens ≡ lens) × (w.out ≡ out)

-- with 9 the buffer is
abbrev Silent : List ℕ → Worked Stepped → Type 0
Silent out w = number_of w.made.answer ≡ 9 → w.out ≡ out

-- nobody moves in the lines then
moves_nobody : (sought : Sought) (rank i : ℕ) (s : Stepped) (lines : List ℕ) → (MayChange s.answer → ⊥) → moved sought rank i s lines ≡ lines
moves_nobody sought rank i s lines n = sym (moves_not sought rank i s lines (go s.answer n))
  where
    go : (a : Answer) → (MayChange a → ⊥) → may_move a ≡ false
    go (Done length confirmed) n = absurd (n (inl refl))
    go (Repeated length) n = absurd (n (inr (inr refl)))
    go (Inactive reason) n = absurd (n (inr (inl refl)))
    go (Refused why) n = refl

module _ (look : Look) (step : Step) (t : List Channel) (mem lens lines out : List ℕ) where
  serve_still : ((c : Channel) (rank : ℕ) (m l : List ℕ) → Still c m l out (step c rank m l out))
      → RefusalsChangeNothing t mem lens lines out (serve_one look step t mem lens lines out)
  unfolding stored
  serve_still still =
      serve_cases look step t mem lens lines out (RefusalsChangeNothing t mem lens lines out) (λ n. (refl, refl, refl, refl, refl)) (λ n. (refl, refl, refl, refl, refl))
      (λ h below g n.
      let i = served_at look step t mem lens lines out in
      let s = still (record_at t i) (rank_in (choice look lines t).grade) (own_mem t i mem) (own_lens t i lens) n in (
        ap (set t i) s.0 ∙ set-get_or t i blank,
        ap (laid mem (octet_at t i)) s.1 ∙ laid_own mem (octet_at t i) (area_of (record_at t i).limits),
        ap (laid lens (slot_at t i)) s.2 ∙ laid_own lens (slot_at t i) (record_at t i).limits.slots,
        moves_nobody look.sought _ i (worked look step t mem lens lines out).made lines n,
        s.3,
      ))

  serve_silent : ((c : Channel) (rank : ℕ) (m l : List ℕ) → Silent out (step c rank m l out)) → NineWritesNothing out (serve_one look step t mem lens lines out)
  unfolding stored
  serve_silent silent =
      serve_cases look step t mem lens lines out (NineWritesNothing out) (λ n. refl) (λ n. refl)
      (λ h below g n.
      let i = served_at look step t mem lens lines out in
      silent (record_at t i) (rank_in (choice look lines t).grade) (own_mem t i mem) (own_lens t i lens) n)

-- ---- each step

-- a choice by the direction
by_test : (P : Worked Stepped → Type 0) (a b : ℕ) (x y : Worked Stepped) → P x → P y → P (if eqb a b then x else y)
by_test P a b x y p q = go (eqb a b)
  where
    go : (z : Bool) → P (if z then x else y)
    go true = p
    go false = q

module _ (c : Channel) (rank : ℕ) (mem lens out : List ℕ) where
  open_still : Still c mem lens out (alone opened_by c rank mem lens out)
  unfolding opened_by
  open_still = go (eqb c.addresses.direction sends)
    where
      go : (b : Bool) → Still c mem lens out (works (if b then sender.open_step c else receiver.open_step c) mem lens out)
      go true n = (sent.open_unchanged c (λ e. n (inl e)), refl, refl, refl)
      go false n = (received.opening_refusals_change_nothing c n, refl, refl, refl)

  close_still : Still c mem lens out (alone closed_by c rank mem lens out)
  unfolding closed_by
  close_still = go (eqb c.addresses.direction sends)
    where
      go : (b : Bool) → Still c mem lens out (works (if b then sender.close_step c else receiver.close_step c) mem lens out)
      go true n = (sent.close_unchanged c (λ e. n (inl e)), refl, refl, refl)
      go false n = (refl, refl, refl, refl)

  transfer_still : (unit : List ℕ) → Still c mem lens out (transfer_for unit c rank mem lens out)
  unfolding transfer_for
  transfer_still unit =
      by_test (Still c mem lens out) c.addresses.direction sends _ _
      (λ n. let s = sent.transfer_unchanged c (filed c.limits unit) mem lens (λ e. n (inl e)) in (s.0, s.1, s.2, refl))
      (λ n. (refl, refl, refl, refl))

  take_still : Still c mem lens out (take_for c rank mem lens out)
  unfolding take_for
  take_still =
      by_test (Still c mem lens out) c.addresses.direction receives _ _
      (λ n. let s = received.taking_refusals_change_nothing c lens mem out n in (s.0, refl, refl, s.1))
      (λ n. (refl, refl, refl, refl))

  reclaim_still : Still c mem lens out (reclaim_for c rank mem lens out)
  unfolding reclaim_for
  reclaim_still =
      by_test (Still c mem lens out) c.addresses.direction sends _ _
      (λ n. let s = sent.reclaim_unchanged c lens mem out (λ e. n (inl e)) in (s.0, refl, refl, s.1))
      (λ n. (refl, refl, refl, refl))

  next_still : (node : Node) → Still c mem lens out (next_for node c rank mem lens out)
  unfolding next_for
  next_still node n = let s = sent.hand_unchanged node c lens mem rank out (λ e. n (inl e)) in (s.0, refl, refl, s.1)

  -- ---- taking, reclaiming and the next packet never answer 9

  take_silent : Silent out (take_for c rank mem lens out)
  unfolding take_for
  take_silent =
      by_test (Silent out) c.addresses.direction receives _ _
      (λ e. absurd (take_cases c lens (length out) (λ (s : Stepped). number_of s.answer ≡ 9 → ⊥) (λ z. omega (arith, z)) (λ z. omega (arith, z)) (λ some z. omega (arith, z)) e))
      (λ e. refl)

  reclaim_silent : Silent out (reclaim_for c rank mem lens out)
  unfolding reclaim_for reclaim_step
  reclaim_silent =
      by_test (Silent out) c.addresses.direction sends _ _
      (λ e. absurd (go (eqb c.phase.state closedState) (eqb c.window.ahead 0) (ltb (length out) (size_at c lens)) e))
      (λ e. refl)
    where
      go : (a b d : Bool)
          → number_of
          (if not a then refusing c refusal.State
          else if b then refusing c refusal.Nothing
          else if d then refusing c (refusal.Small (size_at c lens))
          else doing (dropped c (unit_at c)) (size_at c lens)).answer
          ≡ 9
          → ⊥
      go false b d e = omega (arith, e)
      go true true d e = omega (arith, e)
      go true false true e = omega (arith, e)
      go true false false e = omega (arith, e)

  next_silent : (node : Node) → Silent out (next_for node c rank mem lens out)
  unfolding next_for hand_step
  next_silent node e = absurd (go (ltb (length out) (next_length c lens rank)) e)
    where
      go : (a : Bool) → number_of (if a then refusing c (refusal.Small (next_length c lens rank)) else doing (next_out c rank) (next_length c lens rank)).answer ≡ 9 → ⊥
      go true e = omega (arith, e)
      go false e = omega (arith, e)

-- ---- an arrival

replied_still : (r : Answer) (node : Node) (a : Addresses) (of : Acked) (number : ℕ) (p out : List ℕ) → (MayChange r → ⊥)
    → replied_by r node a of number p out ≡ out
replied_still (Done n u) node a of number p out quiet = absurd (quiet (inl refl))
replied_still (Repeated n) node a of number p out quiet = absurd (quiet (inr (inr refl)))
replied_still (Inactive why) node a of number p out quiet = refl
replied_still (Refused why) node a of number p out quiet = refl

-- nor does the channel then change
acks_still : (number : ℕ) (s : Stepped) → (MayChange s.answer → ⊥) → acknowledging number s ≡ s
acks_still number s quiet = acks_none number s (go s.answer quiet)
  where
    go : (r : Answer) → (MayChange r → ⊥) → replies r ≡ false
    go (Done n u) quiet = absurd (quiet (inl refl))
    go (Repeated n) quiet = absurd (quiet (inr (inr refl)))
    go (Inactive why) quiet = refl
    go (Refused why) quiet = refl

replied_silent : (r : Answer) (node : Node) (a : Addresses) (of : Acked) (number : ℕ) (p out : List ℕ) → number_of r ≡ 9
    → replied_by r node a of number p out ≡ out
replied_silent (Done n u) node a of number p out e = absurd (omega (arith, e))
replied_silent (Repeated n) node a of number p out e = absurd (omega (arith, e))
replied_silent (Inactive why) node a of number p out e = refl
replied_silent (Refused why) node a of number p out e = refl

-- what holds for each type of packet holds of the arrival
module _ (node : Node) (f : Fields) (x : ℕ) (p : List ℕ) (c : Channel) (rank : ℕ) (mem lens out : List ℕ) (P : Worked Stepped → Type 0) where
  pub arrive_cases : ((why : Refusal) → P (works (refusing c why) mem lens out))
      → P (data_for node f p c rank mem lens out)
      → P (works (data_ack_stated c f.number (stated_in p)) mem lens out)
      → P (works (control_ack_stated c f.number (stated_in p)) mem lens out)
      → ((of : Acked) (opens : Bool) → P (replying node c of f.number (receiver.control_step c opens f.number) mem lens out))
      → P (replying node c acked.Heartbeat f.number (heartbeat_step c) mem lens out)
      → P (works (heartbeat_ack_step c f.number) mem lens out)
      → P (replying node c acked.Flow f.number (flow_step c (stated_in p)) mem lens out)
      → P (works (flow_ack_step c f.number) mem lens out)
      → P (arrive_by node f x p c rank mem lens out)
  unfolding arrive_by
  arrive_cases refuses filed data_ack control_ack control beat beat_ack flow flow_ack_lem = go (ltb (length out) (reply_length c (kind_of f.kind) x)) (unfit c f x) (kind_of f.kind)
    where
      go : (small over : Bool) (k : Kind)
          → P
          (if small then works (refusing c (refusal.Small (reply_length c k x))) mem lens out
          else if over then works (refusing c refusal.Strange) mem lens out
          else arrive_as k node f p c rank mem lens out)
      go true over k = refuses (refusal.Small (reply_length c k x))
      go false true k = refuses refusal.Strange
      go false false Data = filed
      go false false DataAck = data_ack
      go false false Open = control acked.Open true
      go false false Close = control acked.Close false
      go false false Heartbeat = beat
      go false false HeartbeatAck = beat_ack
      go false false FlowControl = either P (eqb c.addresses.direction receives) _ _ flow_ack_lem flow
      go false false ControlAck = control_ack
      go false false (Lacking code) = refuses refusal.Lacking

module _ (node : Node) (packet : List ℕ) (c : Channel) (rank : ℕ) (mem lens out : List ℕ) where
  replies_still : (of : Acked) (s : Stepped) → ((MayChange s.answer → ⊥) → s.channel ≡ c)
      → Still c mem lens out (replying node c of (fields_at packet).number s mem lens out)
  replies_still of s same quiet =
      (ap (λ (r : Stepped). r.channel) (acks_still (fields_at packet).number s quiet) ∙ same quiet, refl, refl, replied_still s.answer node c.addresses of (fields_at packet).number _ out quiet)

  arrival_still : Still c mem lens out (arrival_for node packet c rank mem lens out)
  unfolding arrival_for
  arrival_still =
      let f = fields_at packet in
      let n = f.number in
      let p = payload_in packet in
      let s = data_step c n f.flags in
      arrive_cases node f (length_at packet) p c rank mem lens out (Still c mem lens out)
      (λ why quiet. (refl, refl, refl, refl))
      (λ quiet. let u = received.refusals_change_nothing c n f.flags p mem lens quiet in
      (ap (λ (r : Stepped). r.channel) (acks_still n s quiet) ∙ u.0, u.1, u.2, replied_still s.answer node c.addresses acked.Data n _ out quiet))
      (λ quiet.
      let not : number_of (data_ack_step c n).answer ≡ 0 → ⊥ = λ e. quiet (inl (ap number_of (data_stated_answer c n (stated_in p)) ∙ e)) in
      (ap (λ (r : Stepped). r.channel) (data_unstated c n (stated_in p) not) ∙ sent.data_ack_unchanged c n not, refl, refl, refl))
      (λ quiet.
      let not : number_of (control_ack_step c n).answer ≡ 0 → ⊥ = λ e. quiet (inl (ap number_of (control_stated_answer c n (stated_in p)) ∙ e)) in
      (ap (λ (r : Stepped). r.channel) (control_unstated c n (stated_in p) not) ∙ sent.control_ack_unchanged c n not, refl, refl, refl))
      (λ of opens. replies_still of (receiver.control_step c opens n) (received.control_refusals_change_nothing c opens n))
      (replies_still acked.Heartbeat (heartbeat_step c) (received.heartbeat_refusals_change_nothing c))
      (λ quiet. (received.heartbeat_ack_refusals_change_nothing c n quiet, refl, refl, refl))
      (replies_still acked.Flow (flow_step c (stated_in p)) (received.flow_refusals_change_nothing c (stated_in p)))
      (λ quiet. (received.flow_ack_refusals_change_nothing c n quiet, refl, refl, refl))

  arrival_silent : Silent out (arrival_for node packet c rank mem lens out)
  unfolding arrival_for
  arrival_silent =
      let f = fields_at packet in
      let n = f.number in
      arrive_cases node f (length_at packet) (payload_in packet) c rank mem lens out (Silent out) (λ why e. refl)
      (λ e. replied_silent (data_step c n f.flags).answer node c.addresses acked.Data n _ out e)
      (λ e. refl)
      (λ e. refl)
      (λ of opens e. replied_silent (receiver.control_step c opens n).answer node c.addresses of n _ out e)
      (λ e. replied_silent (heartbeat_step c).answer node c.addresses acked.Heartbeat n _ out e)
      (λ e. refl)
      (λ e. replied_silent (flow_step c (stated_in (payload_in packet))).answer node c.addresses acked.Flow n _ out e)
      (λ e. refl)

-- ---- each call: every answer but 0, 9 and 15 changes nothing

module _ (t : List Channel) (mem lens lines : List ℕ) where
  pub arrival_refusals_change_nothing : (node : Node) (packet reply : List ℕ) → RefusalsChangeNothing t mem lens lines reply (arrival_call t mem lens lines node packet reply)
  arrival_refusals_change_nothing node packet reply =
      serve_still (look_of node packet (length reply)) (arrival_for node packet) t mem lens lines reply (λ c rank m l. arrival_still node packet c rank m l reply)

  pub next_packet_refusals_change_nothing : (node : Node) (out : List ℕ) → RefusalsChangeNothing t mem lens lines out (next_packet_call t mem lens lines node out)
  next_packet_refusals_change_nothing node out = serve_still (seeking Ready) (next_for node) t mem lens lines out (λ c rank m l. next_still c rank m l out node)

  pub open_refusals_change_nothing : (index : ℕ) → RefusalsChangeNoRecord t lines (open_call t mem lens lines index)
  open_refusals_change_nothing index n =
      let s = serve_still (seeking (Index index)) (alone opened_by) t mem lens lines [] (λ c rank m l. open_still c rank m l []) n in (s.0, s.3)

  pub close_refusals_change_nothing : (index : ℕ) → RefusalsChangeNoRecord t lines (close_call t mem lens lines index)
  close_refusals_change_nothing index n =
      let s = serve_still (seeking (Index index)) (alone closed_by) t mem lens lines [] (λ c rank m l. close_still c rank m l []) n in (s.0, s.3)

  pub transfer_refusals_change_nothing : (index : ℕ) (unit : List ℕ) → RefusalsChangeNothing t mem lens lines [] (transfer_call t mem lens lines index unit)
  transfer_refusals_change_nothing index unit =
      serve_still (seeking (Index index)) (transfer_for unit) t mem lens lines [] (λ c rank m l. transfer_still c rank m l [] unit)

  pub take_refusals_change_nothing : (index : ℕ) (out : List ℕ) → RefusalsChangeNothing t mem lens lines out (take_call t mem lens lines index out)
  take_refusals_change_nothing index out = serve_still (seeking (Index index)) take_for t mem lens lines out (λ c rank m l. take_still c rank m l out)

  pub reclaim_refusals_change_nothing : (index : ℕ) (out : List ℕ) → RefusalsChangeNothing t mem lens lines out (reclaim_call t mem lens lines index out)
  reclaim_refusals_change_nothing index out = serve_still (seeking (Index index)) reclaim_for t mem lens lines out (λ c rank m l. reclaim_still c rank m l out)

  -- whatever is asked
  pub served_refusals_change_nothing : (n : Request) (x out : List ℕ) → RefusalsChangeNothing t mem lens lines out (served t mem lens lines n x out)
  unfolding asked_by
  served_refusals_change_nothing (Open index) x out = serve_still (seeking (Index index)) (alone opened_by) t mem lens lines out (λ c rank m l. open_still c rank m l out)
  served_refusals_change_nothing (Close index) x out = serve_still (seeking (Index index)) (alone closed_by) t mem lens lines out (λ c rank m l. close_still c rank m l out)
  served_refusals_change_nothing (Transfer index) x out = serve_still (seeking (Index index)) (transfer_for x) t mem lens lines out (λ c rank m l. transfer_still c rank m l out x)
  served_refusals_change_nothing (WouldTransfer index count) x out =
      serve_still (seeking (Question index)) (alone (asked_by count)) t mem lens lines out (λ c rank m l n. (refl, refl, refl, refl))
  served_refusals_change_nothing (Take index) x out = serve_still (seeking (Index index)) take_for t mem lens lines out (λ c rank m l. take_still c rank m l out)
  served_refusals_change_nothing (Reclaim index) x out = serve_still (seeking (Index index)) reclaim_for t mem lens lines out (λ c rank m l. reclaim_still c rank m l out)
  served_refusals_change_nothing (Arrival node) x out =
      serve_still (look_of node x (length out)) (arrival_for node x) t mem lens lines out (λ c rank m l. arrival_still node x c rank m l out)
  served_refusals_change_nothing (NextPacket node) x out = serve_still (seeking Ready) (next_for node) t mem lens lines out (λ c rank m l. next_still c rank m l out node)
  served_refusals_change_nothing Unknown x out =
      serve_still (seeking (Nobody refusal.NoChannel)) (alone (λ c. refusing c refusal.NoChannel)) t mem lens lines out (λ c rank m l n. (refl, refl, refl, refl))

  -- a tick answers 0 or 9, or 13
  pub tick_refusals_change_nothing : RefusalsChangeNoRecord t lines (ticked t mem lens lines)
  unfolding ticked
  tick_refusals_change_nothing = go (passes t mem lens lines) (any_inactive t)
    where
      why : ℕ
      why = (record_at (map tick_of t) (first_inactive t)).phase.reason

      go : (a b : Bool) → RefusalsChangeNoRecord t lines (if a then changes (if b then Inactive why else Done 0 0) (map tick_of t) (relisted_from 0 (map tick_of t) lines) else changes (Refused refusal.Settings) t lines)
      go true true n = absurd (n (inr (inl refl)))
      go true false n = absurd (n (inl refl))
      go false b n = (refl, refl)

  -- ---- 9 writes no reply, no packet and no unit

  pub arrival_nine_writes_nothing : (node : Node) (packet reply : List ℕ) → NineWritesNothing reply (arrival_call t mem lens lines node packet reply)
  arrival_nine_writes_nothing node packet reply =
      serve_silent (look_of node packet (length reply)) (arrival_for node packet) t mem lens lines reply (λ c rank m l. arrival_silent node packet c rank m l reply)

  pub next_packet_nine_writes_nothing : (node : Node) (out : List ℕ) → NineWritesNothing out (next_packet_call t mem lens lines node out)
  next_packet_nine_writes_nothing node out = serve_silent (seeking Ready) (next_for node) t mem lens lines out (λ c rank m l. next_silent c rank m l out node)

  pub take_nine_writes_nothing : (index : ℕ) (out : List ℕ) → NineWritesNothing out (take_call t mem lens lines index out)
  take_nine_writes_nothing index out = serve_silent (seeking (Index index)) take_for t mem lens lines out (λ c rank m l. take_silent c rank m l out)

  pub reclaim_nine_writes_nothing : (index : ℕ) (out : List ℕ) → NineWritesNothing out (reclaim_call t mem lens lines index out)
  reclaim_nine_writes_nothing index out = serve_silent (seeking (Index index)) reclaim_for t mem lens lines out (λ c rank m l. reclaim_silent c rank m l out)
