-- An end's Heartbeat and Flow Control are nothing to the protocol: the meaning of a record does not look at its pulse. So all that moves the pulse alone leaves
-- the protocol's end as it is: the interval's new start, a Heartbeat that arrives and the Ack of one, Flow Control and the Ack of that.
-- Assumes nothing.
use mathlib.Core.List.{List}
use Prim.Native.Nat.{ℕ}
use Rattle.channel.specs.declared.record.Lone.{Lone}
use Rattle.channel.specs.declared.record.Pulse.{Pulse}
use Rattle.channel.specs.declared.record.Channel.{Channel}
use Rattle.channel.specs.declared.step.Stepped.{Stepped}
use Rattle.channel.specs.Record.{no_lone, with_control, with_pulse}
use Rattle.channel.specs.Pulse.{after_sending, with_beat, heartbeat_step, heartbeat_ack_step}
use Rattle.channel.specs.Flow.{stated, with_flow, answered_by, flow_ack_step, recording, flow_step}
use Rattle.sender_packets.specs.HandingOut.{single_out, next_out}
use Rattle.ends.proofs.PulseCases.{heartbeat_cases, heartbeat_ack_cases, flow_cases, flow_ack_cases}
use Rattle.protocol.specs.Sending.{Sender}
use Rattle.protocol.specs.Receiving.{Receiver}
use Rattle.means.specs.Meaning.{lying}
use Rattle.means.proofs.Sends.{Sends}
use Rattle.means.proofs.Receives.{Receives}

-- ---- a sender

pub pulse_sends : (c : Channel) (mem lens : List ℕ) (s : Sender) (p : Pulse) → Sends c mem lens s → Sends (with_pulse c p) mem lens s
unfolding lying
pulse_sends c mem lens s p r =
    record {
      state = r.state;
      before = λ e.
          let b = r.before e in
          record { empty = b.empty; line = b.line; oldest = b.oldest; start = b.start; next = b.next; acked = b.acked };
      held = λ h. let x = r.held h in record { count = x.count; each = x.each; whole = x.whole; marks = x.marks; acks = x.acks };
      window = λ h k.
          let x = r.window h k in
          record { number = x.number; behind = x.behind; flight = x.flight; noted = x.noted; sent = x.sent };
    }

module _ (c : Channel) (mem lens : List ℕ) (s : Sender) (r : Sends c mem lens s) where
  -- Data is sent
  pub sending_sends : Sends (after_sending c) mem lens s
  sending_sends = pulse_sends c mem lens s (after_sending c).pulse r

  pub heartbeat_sends : Sends (heartbeat_step c).channel mem lens s
  heartbeat_sends = heartbeat_cases c (λ (x : Stepped). Sends x.channel mem lens s) r (λ e. r)

  pub heartbeat_ack_sends : (number : ℕ) → Sends (heartbeat_ack_step c number).channel mem lens s
  heartbeat_ack_sends number =
      heartbeat_ack_cases c (λ (x : Stepped). Sends x.channel mem lens s) r number r
      (λ e. pulse_sends c mem lens s (with_beat c.pulse no_lone) r)

  pub flow_sends : (number : ℕ) → Sends (flow_step c number).channel mem lens s
  flow_sends number =
      flow_cases c (λ (x : Stepped). Sends x.channel mem lens s) r number (λ e. pulse_sends c mem lens s (recording c.limits c.window number c.pulse) r)

-- ---- a receiver

-- nor does it look at the packet that is sent alone
lone_receives : (c : Channel) (mem lens : List ℕ) (r : Receiver) (control : Lone) (p : Pulse) → Receives c mem lens r
    → Receives (with_pulse (with_control c control) p) mem lens r
unfolding lying
lone_receives c mem lens r control p t =
    record {
      state = t.state;
      before = λ e. let b = t.before e in record { held = b.held; passed = b.passed; oldest = b.oldest; filed = b.filed };
      within = λ x y.
          let w = t.within x y in
          record {
            start = w.start;
            behind = w.behind;
            way = w.way;
            view = w.view;
            room = w.room;
            near = w.near;
            known = w.known;
            count = w.count;
          };
      after = λ x. let a = t.after x in record { whole = record { complete = a.whole.complete; view = a.whole.view }; way = a.way };
    }

pub pulse_receives : (c : Channel) (mem lens : List ℕ) (r : Receiver) (p : Pulse) → Receives c mem lens r → Receives (with_pulse c p) mem lens r
pulse_receives c mem lens r p t = lone_receives c mem lens r c.phase.control p t

module _ (c : Channel) (mem lens : List ℕ) (r : Receiver) (t : Receives c mem lens r) where
  -- an Ack is sent
  pub sending_receives : Receives (after_sending c) mem lens r
  sending_receives = pulse_receives c mem lens r (after_sending c).pulse t

  -- its Heartbeat or Flow Control is handed out
  pub single_out_receives : Receives (next_out c 0) mem lens r
  unfolding next_out
  single_out_receives = lone_receives c mem lens r (single_out c).phase.control (single_out c).pulse t

  pub heartbeat_receives : Receives (heartbeat_step c).channel mem lens r
  heartbeat_receives = heartbeat_cases c (λ (x : Stepped). Receives x.channel mem lens r) t (λ e. t)

  pub heartbeat_ack_receives : (number : ℕ) → Receives (heartbeat_ack_step c number).channel mem lens r
  heartbeat_ack_receives number =
      heartbeat_ack_cases c (λ (x : Stepped). Receives x.channel mem lens r) t number t
      (λ e. pulse_receives c mem lens r (with_beat c.pulse no_lone) t)

  pub flow_ack_receives : (number : ℕ) → Receives (flow_ack_step c number).channel mem lens r
  flow_ack_receives number =
      flow_ack_cases c (λ (x : Stepped). Receives x.channel mem lens r) t number t
      (λ e. pulse_receives c mem lens r (with_flow c.pulse (answered_by (stated c.limits c.window) c.pulse.flow)) t)
