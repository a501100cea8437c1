-- Out of OPEN an end has no Heartbeat, and no interval runs (document 02, A2): settings make it so, and every call keeps it.
-- Assumes nothing.
use mathlib.Core.Path.{◌≡◌, refl, ◌∙◌}
use mathlib.Core.Bool.{Bool, true, false, ◌&&◌}
use mathlib.Core.List.{List, []}
use Prim.Native.Nat.{ℕ}
use native.Mathlib.Omega.{arith}
use borrow.Author.Tests.{ne_eqb}
use lib.Dec.{eqb, ltb}
use lib.ListN.{length}
use Rattle.std.specs.Prelude.{if◌then◌else◌}
use Rattle.laws.proofs.Choice.{either, passed_by, first_not}
use Rattle.packet.specs.Layout.{fields_at, length_at, payload_in}
use Rattle.walks.specs.Serving.{Worked}
use Rattle.channel.specs.declared.record.Node.{Node}
use Rattle.channel.specs.declared.record.Lone.{Lone}
use Rattle.channel.specs.declared.record.Pulse.{Pulse}
use Rattle.channel.specs.declared.record.Settings.{Settings}
use Rattle.channel.specs.declared.record.Channel.{Channel}
use Rattle.channel.specs.declared.step.Stepped.{Stepped}
use Rattle.channel.specs.declared.step.Ticked.{Ticked}
use Rattle.channel.specs.declared.answer.Refusal.TheVariants as refusal
use Rattle.channel.specs.Record.{sends, receives, opened, closed as closedState, closing, late_open, control_number, data_number, retries_out, unanswered, no_lone, no_pulse, made_of}
use Rattle.channel.specs.Lone.{ready_lone}
use Rattle.channel.specs.Steps.{refusing}
use Rattle.channel.specs.Pulse.{heartbeat_step, heartbeat_ack_step}
use Rattle.channel.specs.Flow.{flows, replied_in, flow_step, flow_ack_step}
use Rattle.channel.specs.Pairs.{filed}
use Rattle.sender_acks.specs.Stated.{is_taken, heeding, heeding_first, data_ack_stated, control_ack_stated}
use Rattle.sender.specs.Directives as sender
use Rattle.sender.specs.Ticking.{data_fallen, tick_step as senderTick}
use Rattle.sender_units.specs.Transfer.{is_accepted, transfer_step}
use Rattle.sender_units.specs.Reclaiming.{reclaim_step}
use Rattle.sender_packets.specs.HandingOut.{single_out, again_out, new_out, next_out, next_length, hand_step}
use Rattle.sender_acks.specs.Acks.{control_ack_step, advanced}
use Rattle.receiver.specs.Receiving as receiver
use Rattle.receiver_data.specs.Sorting.{place_at}
use Rattle.receiver_data.specs.Data as received
use Rattle.receiver_data.specs.Taking as taking
use Rattle.ends.proofs.PulseCases.{heartbeat_cases, heartbeat_ack_cases, flow_cases, flow_ack_cases}
use Rattle.ends.proofs.SenderCases as sent
use Rattle.ends.proofs.ReceiverCases.{open_cases, control_cases, take_cases, tick_cases, data_cases, accept_cases}
use Rattle.table.specs.declared.looking.Sought.TheVariants.{Index, Question, Ready, Nobody}
use Rattle.table.specs.Looking.{seeking}
use Rattle.table.specs.Serving.{alone}
use Rattle.requests.specs.Requests.{opened_by, closed_by, transfer_for, asked_by, take_for, reclaim_for}
use Rattle.requests.specs.Handing.{next_for}
use Rattle.arrivals.specs.Finding.{look_of}
use Rattle.arrivals.specs.Replying.{replies, acknowledging}
use Rattle.arrivals.specs.Arriving.{stated_in, arrival_for}
use Rattle.ticks.specs.Ticking.{ticked_by}
use Rattle.ticks.specs.Ticks.{tick_of, ticked}
use Rattle.node.specs.declared.request.Request.{Request}
use Rattle.node.specs.declared.request.Request.TheVariants.{Open, Close, Transfer, WouldTransfer, Take, Reclaim, Arrival, NextPacket, Unknown}
use Rattle.node.specs.Calls.{served}
use Rattle.keeps.specs.Keeping.{Rests, Resting}
use Rattle.keeps.proofs.Everywhere.{Steps, serve_each, tick_each}
use Rattle.keeps.proofs.CallsRefuse.{arrive_cases}

abbrev RestsAfter : Stepped → Type 0
RestsAfter s = Rests s.channel

-- what settings make
pub made_rests : (s : Settings) → Rests (made_of s)
made_rests s shut = refl

-- ---- what starts the interval anew does so in OPEN alone

replied_still : (number : ℕ) (c : Channel) → (c.phase.state ≡ opened → ⊥) → replied_in c.phase.state c.limits number c.pulse ≡ c.pulse
replied_still number c shut = passed_by (eqb c.phase.state opened) _ _ (ne_eqb _ _ shut)

acks_rest : (number : ℕ) (s : Stepped) → RestsAfter s → RestsAfter (acknowledging number s)
acks_rest number s w shut =
    either (λ (p : Pulse). p ≡ no_pulse) (replies s.answer) _ s.channel.pulse (replied_still number s.channel shut ∙ w shut) (w shut)

-- ---- nor is a number recorded elsewhere

second_not : (a b : Bool) → b ≡ false → (a && b) ≡ false
second_not true b e = e
second_not false b e = refl

first_rests : (stated : ℕ) (s : Stepped) → RestsAfter s → RestsAfter (heeding_first stated s)
first_rests stated s w shut =
    passed_by (is_taken s.answer && eqb s.channel.phase.state opened) _ _ (second_not (is_taken s.answer) _ (ne_eqb _ _ shut)) ∙ w shut

-- ---- each step of a sender

module _ (c : Channel) (w : Rests c) where
  parked_rests : (state : ℕ) (control : Lone) → Rests (sender.parked c state control)
  unfolding sender.parked
  parked_rests state control shut = refl

  shut_rests : (why : ℕ) → Rests (sender.shut_for c why)
  unfolding sender.parked
  shut_rests why shut = refl

  fallen_rests : Rests (sender.shut_for (data_fallen c) unanswered)
  unfolding sender.parked
  fallen_rests shut = refl

  open_rests : RestsAfter (sender.open_step c)
  open_rests = sent.open_cases c RestsAfter w w (λ shut. refl)

  close_rests : RestsAfter (sender.close_step c)
  close_rests = sent.close_cases c RestsAfter w (λ e. parked_rests closing ready_lone) w

  transfer_rests : (n : ℕ) → RestsAfter (transfer_step c n)
  unfolding transfer_step
  transfer_rests n = either Rests (is_accepted c n) _ _ w w

  reclaim_rests : (lens : List ℕ) (n : ℕ) → RestsAfter (reclaim_step c lens n)
  reclaim_rests lens n = sent.reclaim_cases c RestsAfter lens n w w w (λ is some. w)

  single_rests : Rests (single_out c)
  single_rests shut =
      passed_by (eqb c.phase.state opened) _ c.pulse (ne_eqb _ _ shut) ∙ w shut

  again_rests : Rests (again_out c)
  again_rests shut = passed_by (eqb c.phase.state opened) _ c.pulse (ne_eqb _ _ shut) ∙ w shut

  new_rests : Rests (new_out c)
  new_rests shut = passed_by (eqb c.phase.state opened) _ c.pulse (ne_eqb _ _ shut) ∙ w shut

  hand_rests : (lens : List ℕ) (rank n : ℕ) → RestsAfter (hand_step c lens rank n)
  unfolding hand_step next_out
  hand_rests lens rank n =
      either RestsAfter (ltb n (next_length c lens rank)) _ _ w
      (either Rests (eqb rank 0) (single_out c) _ single_rests (either Rests (eqb rank 1) (again_out c) (new_out c) again_rests new_rests))

  control_ack_rests : (number : ℕ) → RestsAfter (control_ack_step c number)
  control_ack_rests number =
      sent.control_ack_cases c RestsAfter number w w (λ e. parked_rests closedState no_lone) (λ e shut. absurd (shut refl)) (λ e. parked_rests closing ready_lone)

  control_stated_rests : (number stated : ℕ) → RestsAfter (control_ack_stated c number stated)
  unfolding control_ack_stated
  control_stated_rests number stated = first_rests stated (control_ack_step c number) (control_ack_rests number)

  data_stated_rests : (number stated : ℕ) → RestsAfter (data_ack_stated c number stated)
  unfolding data_ack_stated advanced
  data_stated_rests number stated = sent.data_ack_cases c (λ (s : Stepped). RestsAfter (heeding c stated s)) number w w (λ e shut. absurd (shut e))

  sender_tick_rests : Rests (senderTick c).channel
  sender_tick_rests =
      sent.tick_cases c Rests (λ e. shut_rests 1) (λ e. shut_rests 1) (λ e. shut_rests 1) (λ e. fallen_rests) (λ e shut. absurd (shut e)) (λ e. w) w

  -- ---- a Heartbeat, at either end

  heartbeat_rests : RestsAfter (heartbeat_step c)
  heartbeat_rests = heartbeat_cases c RestsAfter w (λ e. w)

  heartbeat_ack_rests : (number : ℕ) → RestsAfter (heartbeat_ack_step c number)
  heartbeat_ack_rests number = heartbeat_ack_cases c RestsAfter w number w (λ e shut. absurd (shut e))

  -- ---- Flow Control at a sender, its Ack at a receiver

  flow_rests : (number : ℕ) → RestsAfter (flow_step c number)
  flow_rests number = flow_cases c RestsAfter w number (λ e shut. absurd (shut e))

  flow_ack_rests : (number : ℕ) → RestsAfter (flow_ack_step c number)
  flow_ack_rests number = flow_ack_cases c RestsAfter w number w (λ e shut. absurd (shut e))

-- ---- each step of a receiver

leaving_rests : (c : Channel) (state ticks : ℕ) → Rests (receiver.leaving c state ticks)
unfolding receiver.leaving
leaving_rests c state ticks shut = refl

left_rests : (c : Channel) (why : ℕ) → Rests (receiver.shut_for c why)
unfolding receiver.leaving
left_rests c why shut = refl

module _ (c : Channel) (w : Rests c) where
  control_rests : (opens : Bool) (number : ℕ) → RestsAfter (receiver.control_step c opens number)
  control_rests opens number =
      control_cases c RestsAfter w w opens number (λ shut. absurd (shut refl)) (leaving_rests c closing c.limits.closing) (left_rests c late_open) (left_rests c control_number)

  accepted_rests : (place flags : ℕ) → RestsAfter (received.accept_step c place flags)
  unfolding receiver.leaving
  accepted_rests place flags = accept_cases c place flags RestsAfter (λ shut. refl) w

  data_rests : (number flags : ℕ) → RestsAfter (received.data_step c number flags)
  data_rests number flags =
      data_cases c number flags [] [] [] (λ (s : Stepped) (m l : List ℕ). RestsAfter s) w w w (left_rests c data_number)
      (λ o room. accepted_rests (place_at c.limits c.window (received.away_of c number)) flags)

  take_rests : (lens : List ℕ) (n : ℕ) → RestsAfter (taking.take_step c lens n)
  take_rests lens n =
      take_cases c lens n RestsAfter w w (λ some shut. passed_by (eqb c.phase.state opened && flows c.limits) _ c.pulse (first_not _ (flows c.limits) (ne_eqb _ _ shut)) ∙ w shut)

  receiver_tick_rests : Rests (receiver.tick_step c).channel
  receiver_tick_rests =
      tick_cases c Rests w w (λ e shut. w (λ o. omega (arith, e, o))) (λ e. left_rests c retries_out) (λ e. left_rests c unanswered) (λ e shut. absurd (shut e))

tick_rests : (c : Channel) → Rests c → Rests (tick_of c)
unfolding ticked_by
tick_rests c w =
    either (λ (x : Ticked). Rests x.channel) (eqb c.addresses.direction sends) _ _ (sender_tick_rests c w) (receiver_tick_rests c w)

-- ---- each call

works_rests : (b : Bool) (x y : Worked Stepped) → RestsAfter x.made → RestsAfter y.made → RestsAfter (if b then x else y).made
works_rests true x y p q = p
works_rests false x y p q = q

arrival_rests : (node : Node) (packet out : List ℕ) → Steps Rests (arrival_for node packet) out
unfolding arrival_for
arrival_rests node packet out c rank mem lens w =
    let f = fields_at packet in
    let n = f.number in
    arrive_cases node f (length_at packet) (payload_in packet) c rank mem lens out (λ (x : Worked Stepped). RestsAfter x.made) (λ why. w)
    (acks_rest n (received.data_step c n f.flags) (data_rests c w n f.flags))
    (data_stated_rests c w n (stated_in (payload_in packet)))
    (control_stated_rests c w n (stated_in (payload_in packet)))
    (λ of opens. acks_rest n (receiver.control_step c opens n) (control_rests c w opens n))
    (acks_rest n (heartbeat_step c) (heartbeat_rests c w))
    (heartbeat_ack_rests c w n)
    (acks_rest n (flow_step c (stated_in (payload_in packet))) (flow_rests c w (stated_in (payload_in packet))))
    (flow_ack_rests c w n)

module _ (t : List Channel) (mem lens lines : List ℕ) (rests : Resting t) where
  pub served_rests : (n : Request) (x out : List ℕ) → Resting (served t mem lens lines n x out).table
  unfolding opened_by closed_by transfer_for asked_by take_for reclaim_for next_for
  served_rests (Open index) x out =
      serve_each Rests (seeking (Index index)) (alone opened_by) t mem lens lines out
      (λ c rank m l w. either RestsAfter (eqb c.addresses.direction sends) _ _ (open_rests c w) (open_cases c RestsAfter w w (λ shut. refl))) rests
  served_rests (Close index) x out =
      serve_each Rests (seeking (Index index)) (alone closed_by) t mem lens lines out
      (λ c rank m l w. either RestsAfter (eqb c.addresses.direction sends) _ _ (close_rests c w) w) rests
  served_rests (Transfer index) x out =
      serve_each Rests (seeking (Index index)) (transfer_for x) t mem lens lines out
      (λ c rank m l w. works_rests (eqb c.addresses.direction sends) _ _ (transfer_rests c w (length (filed c.limits x))) w) rests
  served_rests (WouldTransfer index count) x out = serve_each Rests (seeking (Question index)) (alone (asked_by count)) t mem lens lines out (λ c rank m l w. w) rests
  served_rests (Take index) x out =
      serve_each Rests (seeking (Index index)) take_for t mem lens lines out
      (λ c rank m l w. works_rests (eqb c.addresses.direction receives) _ _ (take_rests c w l (length out)) w) rests
  served_rests (Reclaim index) x out =
      serve_each Rests (seeking (Index index)) reclaim_for t mem lens lines out
      (λ c rank m l w. works_rests (eqb c.addresses.direction sends) _ _ (reclaim_rests c w l (length out)) w) rests
  served_rests (Arrival node) x out = serve_each Rests (look_of node x (length out)) (arrival_for node x) t mem lens lines out (arrival_rests node x out) rests
  served_rests (NextPacket node) x out =
      serve_each Rests (seeking Ready) (next_for node) t mem lens lines out (λ c rank m l w. hand_rests c w l rank (length out)) rests
  served_rests Unknown x out =
      serve_each Rests (seeking (Nobody refusal.NoChannel)) (alone (λ c. refusing c refusal.NoChannel)) t mem lens lines out (λ c rank m l w. w) rests

  pub ticked_rests : Resting (ticked t mem lens lines).table
  ticked_rests = tick_each Rests tick_rests t mem lens lines rests
