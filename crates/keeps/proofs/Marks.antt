-- Every call keeps one mark for each of 128 slots, used or not (document 01, A channel's record and memory): as the type of a record says, so that
-- what a transfer asks holds again after every call.
-- Assumes nothing.
use mathlib.Core.Path.{◌≡◌, refl, sym, ◌∙◌, subst}
use mathlib.Core.Bool.{Bool, true, false}
use mathlib.Core.List.{List, []}
use Prim.Native.Nat.{ℕ, ◌+◌}
use lib.Dec.{ltb, eqb}
use lib.ListN.{length, length-set}
use Rattle.std.specs.Prelude.{if◌then◌else◌}
use Rattle.laws.proofs.Choice.{either}
use Rattle.slots.proofs.RingLaws.{cleared_length}
use Rattle.store.proofs.Laws.{filed_marks_length}
use Rattle.slots.specs.Marks.{mark_of}
use Rattle.slots.specs.Units.{segments_of}
use Rattle.packet.specs.Layout.{fields_at, length_at}
use Rattle.walks.specs.Serving.{Worked}
use Rattle.channel.specs.declared.record.Node.{Node}
use Rattle.channel.specs.declared.record.Lone.{Lone}
use Rattle.channel.specs.declared.record.Channel.{Channel}
use Rattle.channel.specs.declared.step.Stepped.{Stepped}
use Rattle.channel.specs.Record.{sends, receives, closed as closedState, closing, unanswered, no_lone, no_marks}
use Rattle.channel.specs.Lone.{ready_lone}
use Rattle.channel.specs.Standing.{oldest_of}
use Rattle.sender.specs.Directives as sender
use Rattle.sender.specs.Ticking.{data_fallen, tick_step as senderTick}
use Rattle.sender_units.specs.Transfer.{is_accepted, free_at, transfer_step}
use Rattle.sender_units.specs.Reclaiming.{unit_at, reclaim_step}
use Rattle.sender_packets.specs.HandingOut.{single_out, again_out, new_out, next_out, next_length, hand_step}
use Rattle.sender_acks.specs.Acks.{control_ack_step, away_of, recorded, whole_at, advanced, data_ack_step}
use Rattle.receiver.specs.Receiving as receiver
use Rattle.receiver_data.specs.Sorting.{place_at}
use Rattle.receiver_data.specs.Data as received
use Rattle.receiver_data.specs.Taking as taking
use Rattle.channel.specs.Pulse.{heartbeat_step, heartbeat_ack_step}
use Rattle.channel.specs.Flow.{flow_step, flow_ack_step}
use Rattle.sender_acks.specs.Stated.{data_ack_stated, control_ack_stated}
use Rattle.ends.proofs.Stated.{data_stated, control_stated}
use Rattle.ends.proofs.PulseCases.{heartbeat_cases, heartbeat_ack_cases, flow_cases, flow_ack_cases}
use Rattle.ends.proofs.SenderCases as sent
use Rattle.ends.proofs.ReceiverCases.{open_cases, control_cases, take_cases, tick_cases, data_cases, accept_cases}
use Rattle.table.specs.declared.looking.Look.{Look}
use Rattle.table.specs.declared.looking.Sought.TheVariants.{Index, Ready}
use Rattle.table.specs.Looking.{seeking}
use Rattle.table.specs.Serving.{Step, alone, serve_one}
use Rattle.requests.specs.Requests.{opened_by, closed_by, transfer_for, take_for, reclaim_for}
use Rattle.requests.specs.Handing.{next_for}
use Rattle.channel.specs.declared.step.Ticked.{Ticked as OneTick}
use Rattle.channel.specs.Pairs.{filed}
use Rattle.ticks.specs.Ticking.{ticked_by}
use Rattle.arrivals.specs.Finding.{look_of}
use Rattle.arrivals.specs.Arriving.{stated_in, arrival_for}
use Rattle.packet.specs.Layout.{payload_in}
use Rattle.ticks.specs.Ticks.{tick_of, ticked}
use Rattle.node.specs.Calls.{open_call, close_call, transfer_call, take_call, reclaim_call, next_packet_call, arrival_call}
use Rattle.keeps.specs.Keeping.{Wide}
use Rattle.keeps.proofs.Everywhere.{Steps, serve_each, tick_each}
use Rattle.keeps.proofs.CallsRefuse.{arrive_cases}

-- ---- each step of a sender

abbrev pub Full : Channel → Type 0
Full c = length c.marks ≡ 128

fresh_full : length no_marks ≡ 128
fresh_full = refl

abbrev pub Fills : Stepped → Type 0
Fills s = Full s.channel

module _ (c : Channel) (w : Full c) where
  parked_full : (state : ℕ) (control : Lone) → Full (sender.parked c state control)
  unfolding sender.parked
  parked_full state control = w

  open_full : Fills (sender.open_step c)
  open_full = sent.open_cases c Fills w w fresh_full

  close_full : Fills (sender.close_step c)
  close_full = sent.close_cases c Fills w (λ e. parked_full closing ready_lone) w

  transfer_full : (n : ℕ) → Fills (transfer_step c n)
  unfolding transfer_step
  transfer_full n =
      let count = segments_of c.limits.payload n in
      either Full (is_accepted c n) _ _ (filed_marks_length c.limits.slots count c.marks count 0 (free_at c) ∙ w) w

  reclaim_full : (lens : List ℕ) (n : ℕ) → Fills (reclaim_step c lens n)
  reclaim_full lens n =
      sent.reclaim_cases c Fills lens n w w w (λ is some. cleared_length c.marks c.limits.slots (unit_at c) c.window.place ∙ w)

  next_full : (rank : ℕ) → Full (next_out c rank)
  unfolding next_out
  next_full rank = either Full (eqb rank 0) (single_out c) _ w (either Full (eqb rank 1) (again_out c) (new_out c) w w)

  hand_full : (lens : List ℕ) (rank n : ℕ) → Fills (hand_step c lens rank n)
  unfolding hand_step
  hand_full lens rank n = either Fills (ltb n (next_length c lens rank)) _ _ w (next_full rank)

  control_ack_full : (number : ℕ) → Fills (control_ack_step c number)
  control_ack_full number =
      sent.control_ack_cases c Fills number w w (λ e. parked_full closedState no_lone) (λ e. w) (λ e. parked_full closing ready_lone)

  advanced_full : Full (advanced c)
  unfolding advanced
  advanced_full =
      let done = whole_at c in
      either (λ (m : List ℕ). length m ≡ 128) (eqb done 0) _ _ w
      (cleared_length c.marks c.limits.slots (c.window.behind + done) (oldest_of c.limits.slots c.window) ∙ w)

  shut_fallen : Full (sender.shut_for (data_fallen c) unanswered)
  unfolding sender.parked
  shut_fallen = w

  sender_tick_full : Full (senderTick c).channel
  sender_tick_full =
      let shut = parked_full closedState no_lone in
      sent.tick_cases c Full (λ e. shut) (λ e. shut) (λ e. shut) (λ e. shut_fallen) (λ e. w) (λ e. w) w

data_ack_full : (c : Channel) → Full c → (number : ℕ) → Fills (data_ack_step c number)
data_ack_full c w number = sent.data_ack_cases c Fills number w w (λ e. advanced_full (recorded c (away_of c number)) w)

-- ---- a Heartbeat, at either end

module _ (c : Channel) (w : Full c) where
  heartbeat_full : Fills (heartbeat_step c)
  heartbeat_full = heartbeat_cases c Fills w (λ e. w)

  heartbeat_ack_full : (number : ℕ) → Fills (heartbeat_ack_step c number)
  heartbeat_ack_full number = heartbeat_ack_cases c Fills w number w (λ e. w)

  flow_full : (number : ℕ) → Fills (flow_step c number)
  flow_full number = flow_cases c Fills w number (λ e. w)

  flow_ack_full : (number : ℕ) → Fills (flow_ack_step c number)
  flow_ack_full number = flow_ack_cases c Fills w number w (λ e. w)

  -- what an Ack states
  data_stated_full : (number stated : ℕ) → Fills (data_ack_stated c number stated)
  data_stated_full number stated = subst Fills (sym (data_stated c number stated)) (data_ack_full c w number)

  control_stated_full : (number stated : ℕ) → Fills (control_ack_stated c number stated)
  control_stated_full number stated = subst Fills (sym (control_stated c number stated)) (control_ack_full c w number)

-- ---- each step of a receiver

leaving_full : (c : Channel) → Full c → (state ticks : ℕ) → Full (receiver.leaving c state ticks)
unfolding receiver.leaving
leaving_full c w state ticks = cleared_length c.marks _ _ _ ∙ w

module _ (c : Channel) (w : Full c) where
  control_full : (opens : Bool) (number : ℕ) → Fills (receiver.control_step c opens number)
  control_full opens number =
      control_cases c Fills w w opens number w (leaving_full c w closing c.limits.closing) (leaving_full c w closedState 0) (leaving_full c w closedState 0)

  accepted_full : (place flags : ℕ) → Fills (received.accept_step c place flags)
  accepted_full place flags =
      let m = length-set c.marks place (mark_of flags) ∙ w in
      accept_cases c place flags Fills (leaving_full _ m closedState 0) m

  data_full : (number flags : ℕ) → Fills (received.data_step c number flags)
  data_full number flags =
      data_cases c number flags [] [] [] (λ (s : Stepped) (m l : List ℕ). Fills s) w w w (leaving_full c w closedState 0)
      (λ o room. accepted_full (place_at c.limits c.window (received.away_of c number)) flags)

  take_full : (lens : List ℕ) (n : ℕ) → Fills (taking.take_step c lens n)
  take_full lens n =
      take_cases c lens n Fills w w
      (λ some. cleared_length c.marks c.limits.slots (taking.unit_at c) (oldest_of c.limits.slots c.window) ∙ w)

  tick_full : Full (tick_of c)
  unfolding ticked_by
  tick_full =
      either (λ (x : OneTick). Full x.channel) (eqb c.addresses.direction sends) _ _ (sender_tick_full c w) (tick_cases c Full w w (λ e. w) (λ e. leaving_full c w closedState 0) (λ e. leaving_full c w closedState 0) (λ e. w))

-- ---- each call

-- a step whose record has its marks again
abbrev pub Marking : Step → List ℕ → Type 0
Marking step out = Steps Full step out

works_full : (b : Bool) (x y : Worked Stepped) → Fills x.made → Fills y.made → Fills (if b then x else y).made
works_full true x y p q = p
works_full false x y p q = q

pub serve_wide : (look : Look) (step : Step) (t : List Channel) (mem lens lines out : List ℕ) → Marking step out → Wide t → Wide (serve_one look step t mem lens lines out).table
serve_wide look step t mem lens lines out marking wide = serve_each Full look step t mem lens lines out marking wide

pub open_marking : (out : List ℕ) → Marking (alone opened_by) out
unfolding opened_by
open_marking out c rank mem lens w =
    either Fills (eqb c.addresses.direction sends) _ _ (open_full c w) (open_cases c Fills w w fresh_full)

pub close_marking : (out : List ℕ) → Marking (alone closed_by) out
unfolding closed_by
close_marking out c rank mem lens w = either Fills (eqb c.addresses.direction sends) _ _ (close_full c w) w

pub transfer_marking : (unit out : List ℕ) → Marking (transfer_for unit) out
unfolding transfer_for
transfer_marking unit out c rank mem lens w = works_full (eqb c.addresses.direction sends) _ _ (transfer_full c w (length (filed c.limits unit))) w

pub take_marking : (out : List ℕ) → Marking take_for out
unfolding take_for
take_marking out c rank mem lens w = works_full (eqb c.addresses.direction receives) _ _ (take_full c w lens (length out)) w

pub reclaim_marking : (out : List ℕ) → Marking reclaim_for out
unfolding reclaim_for
reclaim_marking out c rank mem lens w = works_full (eqb c.addresses.direction sends) _ _ (reclaim_full c w lens (length out)) w

pub next_marking : (node : Node) (out : List ℕ) → Marking (next_for node) out
unfolding next_for
next_marking node out c rank mem lens w = hand_full c w lens rank (length out)

pub arrival_marking : (node : Node) (packet out : List ℕ) → Marking (arrival_for node packet) out
unfolding arrival_for
arrival_marking node packet out c rank mem lens w =
    let f = fields_at packet in
    let n = f.number in
    arrive_cases node f (length_at packet) (payload_in packet) c rank mem lens out (λ (x : Worked Stepped). Fills x.made) (λ why. w) (data_full c w n f.flags)
    (data_stated_full c w n (stated_in (payload_in packet)))
    (control_stated_full c w n (stated_in (payload_in packet)))
    (λ of opens. control_full c w opens n)
    (heartbeat_full c w)
    (heartbeat_ack_full c w n)
    (flow_full c w (stated_in (payload_in packet)))
    (flow_ack_full c w n)

module _ (t : List Channel) (mem lens lines : List ℕ) (wide : Wide t) where
  pub arrival_wide : (node : Node) (packet reply : List ℕ) → Wide (arrival_call t mem lens lines node packet reply).table
  arrival_wide node packet reply =
      serve_wide (look_of node packet (length reply)) (arrival_for node packet) t mem lens lines reply (arrival_marking node packet reply) wide

  pub next_packet_wide : (node : Node) (out : List ℕ) → Wide (next_packet_call t mem lens lines node out).table
  next_packet_wide node out = serve_wide (seeking Ready) (next_for node) t mem lens lines out (next_marking node out) wide

  pub open_wide : (index : ℕ) → Wide (open_call t mem lens lines index).table
  open_wide index = serve_wide (seeking (Index index)) (alone opened_by) t mem lens lines [] (open_marking []) wide

  pub close_wide : (index : ℕ) → Wide (close_call t mem lens lines index).table
  close_wide index = serve_wide (seeking (Index index)) (alone closed_by) t mem lens lines [] (close_marking []) wide

  pub transfer_wide : (index : ℕ) (unit : List ℕ) → Wide (transfer_call t mem lens lines index unit).table
  transfer_wide index unit = serve_wide (seeking (Index index)) (transfer_for unit) t mem lens lines [] (transfer_marking unit []) wide

  pub take_wide : (index : ℕ) (out : List ℕ) → Wide (take_call t mem lens lines index out).table
  take_wide index out = serve_wide (seeking (Index index)) take_for t mem lens lines out (take_marking out) wide

  pub reclaim_wide : (index : ℕ) (out : List ℕ) → Wide (reclaim_call t mem lens lines index out).table
  reclaim_wide index out = serve_wide (seeking (Index index)) reclaim_for t mem lens lines out (reclaim_marking out) wide

  pub tick_wide : Wide (ticked t mem lens lines).table
  tick_wide = tick_each Full tick_full t mem lens lines wide
