-- What a call at the host does to the number recorded: it stays, and new Data goes out by leave of it; or an Ack of Data or Flow Control has it recorded
-- anew; or the Ack of the Open gives the first one.
-- Assumes nothing.
use mathlib.Core.Path.{◌≡◌, refl, sym, ap, ◌∙◌, subst}
use mathlib.Core.Bool.{true}
use mathlib.Core.List.{List}
use mathlib.Core.Logic.{◌⊎◌, inl, inr, ⊎_elim}
use Prim.Native.Nat.{ℕ, suc}
use native.Mathlib.Omega.{arith}
use borrow.Author.Tests.{eqb-false}
use lib.Dec.{eqb, leb}
use Rattle.laws.proofs.Choice.{both, either, by_test, chosen}
use Rattle.packet.specs.declared.kinds.Kind.TheVariants as kinds
use Rattle.packet.specs.Kinds.{kind_of}
use Rattle.packet.specs.Layout.{fields_at, payload_in}
use Rattle.channel.specs.declared.record.Limits.{Limits}
use Rattle.channel.specs.declared.record.Pulse.{Pulse}
use Rattle.channel.specs.declared.record.Channel.{Channel}
use Rattle.channel.specs.declared.step.Stepped.{Stepped}
use Rattle.channel.specs.Record as state
use Rattle.channel.specs.Record.{with_pulse}
use Rattle.channel.specs.Pulse.{paced, heartbeat_step, heartbeat_ack_step}
use Rattle.channel.specs.Flow.{flows, recorded_by, recording, may_follow, flow_step}
use Rattle.channel.specs.Lone.{is_ready}
use Rattle.sender.specs.Directives as sender
use Rattle.sender.specs.Directives.{parked}
use Rattle.sender.specs.Ticking as ticking
use Rattle.sender_acks.specs.Acks.{advanced}
use Rattle.sender_acks.specs.Stated.{heeding, heeding_first, data_ack_stated, control_ack_stated}
use Rattle.sender_units.specs.Transfer.{is_accepted, filed_unit, transfer_step}
use Rattle.sender_units.specs.Reclaiming.{reclaim_step}
use Rattle.sender_packets.specs.Asked.{Ready}
use Rattle.sender_packets.specs.HandingOut.{next_in_window, ready, next_out, single_out, again_out, new_out}
use Rattle.ends.proofs.SenderCases.{open_cases, close_cases, control_ack_cases, data_ack_cases, reclaim_cases, tick_cases}
use Rattle.ends.proofs.PulseCases.{heartbeat_same, heartbeat_ack_cases, flow_cases}
use Rattle.arrivals.specs.Arriving.{stated_in}
use Rattle.arrivals.specs.Replying.{acknowledging, replies}
use Rattle.delivery.specs.Calls.{End, arrives, Request}
use Rattle.delivery.specs.History.{names, IsDataAck}

-- the number recorded
abbrev pub recorded_of : Channel → ℕ
recorded_of c = c.pulse.flow.recorded

-- what of a packet states a number to a sender in OPEN
abbrev pub Heard : List ℕ → Type 0
Heard packet = IsDataAck packet ⊎ (kind_of (fields_at packet).kind ≡ kinds.FlowControl)

abbrev pub stated_of : List ℕ → ℕ
stated_of packet = stated_in (payload_in packet)

-- it stays
pub record Still (before c : Channel) : Type 0 where
  pub was : before.phase.state ≡ state.opened
  pub recorded : recorded_of c ≡ recorded_of before
  pub follows : c.window.flight ≡ suc before.window.flight → may_follow before.limits before.window (recorded_of before) ≡ true

module _ (h : End) (r : Request) where
  -- a packet arrived that names the channel
  abbrev Came : Type 0
  Came = (r.kind ≡ arrives) × (names h r.octets ≡ true)

  -- it is recorded anew
  pub record Heeds (before c : Channel) : Type 0 where
    pub was : before.phase.state ≡ state.opened
    pub came : Came
    pub heard : Heard r.octets
    pub recorded : recorded_of c ≡ recorded_by before.limits before.window (recorded_of before) (stated_of r.octets)
    pub follows : c.window.flight ≡ suc before.window.flight → ⊥

  -- it is the first
  pub record Begins (before c : Channel) : Type 0 where
    pub was : before.phase.state ≡ state.enabled
    pub came : Came
    pub acks : kind_of (fields_at r.octets).kind ≡ kinds.ControlAck
    pub recorded : recorded_of c ≡ stated_of r.octets

  abbrev pub Flows : Channel → Channel → Type 0
  Flows before c = c.phase.state ≡ state.opened → Still before c ⊎ Heeds before c ⊎ Begins before c

  -- ---- the cases

  pub unchanged : (c : Channel) → Flows c c
  unchanged c now = inl (record { was = now; recorded = refl; follows = λ e. absurd (omega (arith, e)) })

  -- out of OPEN there is nothing to say
  left_open : (c d : Channel) → (d.phase.state ≡ state.opened → ⊥) → Flows c d
  left_open c d out now = absurd (out now)

  beside : (c d : Channel) → d.phase.state ≡ c.phase.state → d.window.flight ≡ c.window.flight → recorded_of d ≡ recorded_of c → Flows c d
  beside c d same flight recorded now = inl (record { was = sym same ∙ now; recorded = recorded; follows = λ e. absurd (omega (arith, e, flight)) })

  module _ (c : Channel) where
    parked_out : (s : ℕ) (control : _) → (s ≡ state.opened → ⊥) → Flows c (parked c s control)
    unfolding parked
    parked_out s control out = left_open c _ out

    shut_out : (d : Channel) (why : ℕ) → Flows c (sender.shut_for d why)
    unfolding parked
    shut_out d why = left_open c _ (λ e. omega (arith, e))

    pub open_flows : Flows c (sender.open_step c).channel
    open_flows = open_cases c (λ (s : Stepped). Flows c s.channel) (unchanged c) (unchanged c) (left_open c _ (λ e. omega (arith, e)))

    pub close_flows : Flows c (sender.close_step c).channel
    close_flows =
        close_cases c (λ (s : Stepped). Flows c s.channel) (unchanged c) (λ e. parked_out _ _ (λ e. omega (arith, e))) (beside c _ refl refl refl)

    pub transfer_flows : (n : ℕ) → Flows c (transfer_step c n).channel
    unfolding transfer_step
    transfer_flows n = either (Flows c) (is_accepted c n) (filed_unit c n) c (beside c _ refl refl refl) (unchanged c)

    pub reclaim_flows : (lens : List ℕ) (n : ℕ) → Flows c (reclaim_step c lens n).channel
    reclaim_flows lens n =
        reclaim_cases c (λ (s : Stepped). Flows c s.channel) lens n (unchanged c) (unchanged c) (unchanged c) (λ e some. beside c _ refl refl refl)

    -- the interval of the Heartbeat has nothing to do with it
    paced_flow : (l : Limits) (p : Pulse) → (paced l p).flow ≡ p.flow
    unfolding paced
    paced_flow l p =
        either (λ (q : Pulse). q.flow ≡ p.flow) (leb 2 p.left) _ _ refl (either (λ (q : Pulse). q.flow ≡ p.flow) (eqb p.left 0) _ _ refl refl)

    pub tick_flows : Flows c (ticking.tick_step c).channel
    tick_flows =
        tick_cases c (Flows c)
        (λ e. shut_out c _) (λ e. shut_out c _) (λ e. shut_out c _) (λ e. shut_out _ _)
        (λ e. beside c _ refl refl (ap (λ f. f.recorded) (paced_flow c.limits _)))
        (λ e. beside c _ refl refl refl)
        (unchanged c)

    -- ---- packets that go out

    pub hand_flows : (rank : ℕ) → Ready c rank → Flows c (next_out c rank)
    unfolding next_out ready
    hand_flows rank k =
        by_test (Flows c) (eqb rank 0) (single_out c) _
        (λ e. single)
        (λ e.
        by_test (Flows c) (eqb rank 1) (again_out c) (new_out c)
        (λ q. again)
        (λ q.
        let two : rank ≡ 2 = omega (arith, eqb-false rank 0 e, eqb-false rank 1 q, k.some) in
        new (subst (λ (n : ℕ). ready n c ≡ true) two k.is)))
      where
        single : Flows c (single_out c)
        single =
            beside c _ refl refl
            (by_test (λ (p : Pulse). p.flow.recorded ≡ recorded_of c) (eqb c.phase.state state.opened) _ _
            (λ e. either (λ (p : Pulse). p.flow.recorded ≡ recorded_of c) (is_ready c.pulse.beat) _ _ refl refl) (λ e. refl))

        again : Flows c (again_out c)
        again = beside c _ refl refl (either (λ (p : Pulse). p.flow.recorded ≡ recorded_of c) (eqb c.phase.state state.opened) _ _ refl refl)

        new : ready 2 c ≡ true → Flows c (new_out c)
        new e now =
            let q = both (eqb c.phase.state state.opened) _ e in
            inl
            (record {
              was = now;
              recorded = either (λ (p : Pulse). p.flow.recorded ≡ recorded_of c) (eqb c.phase.state state.opened) _ _ refl refl;
              follows = λ _. (both (next_in_window c.limits c.window) _ q.1).1;
            })

    -- ---- packets that arrive; a reply is nothing to it

    with_pulse_lem : (d : Channel) (p : Pulse) → p.flow.recorded ≡ recorded_of d → Flows c d → Flows c (with_pulse d p)
    with_pulse_lem d p e f now =
        ⊎_elim (λ w. inl (record { was = w.was; recorded = e ∙ w.recorded; follows = w.follows }))
        (λ v.
        inr
        (⊎_elim (λ w. inl (record { was = w.was; came = w.came; heard = w.heard; recorded = e ∙ w.recorded; follows = w.follows }))
        (λ w. inr (record { was = w.was; came = w.came; acks = w.acks; recorded = e ∙ w.recorded })) v))
        (f now)

    replied_flows : (number : ℕ) (s : Stepped) → Flows c s.channel → Flows c (acknowledging number s).channel
    replied_flows number s =
        with_pulse_lem s.channel (acknowledging number s).channel.pulse
        (either (λ (p : Pulse). p.flow.recorded ≡ recorded_of s.channel) (replies s.answer) _ _
        (either (λ (p : Pulse). p.flow.recorded ≡ recorded_of s.channel) (eqb s.channel.phase.state state.opened) _ _ refl refl) refl)

    pub beat_flows : (number : ℕ) → Flows c (acknowledging number (heartbeat_step c)).channel
    beat_flows number = replied_flows number (heartbeat_step c) (subst (Flows c) (sym (heartbeat_same c)) (unchanged c))

    pub beat_ack_flows : (number : ℕ) → Flows c (heartbeat_ack_step c number).channel
    beat_ack_flows number =
        heartbeat_ack_cases c (λ (s : Stepped). Flows c s.channel) (unchanged c) number (unchanged c) (λ e. beside c _ refl refl refl)

    module _ (used : flows c.limits ≡ true) (came : Came) where
      abbrev m : ℕ
      m = stated_of r.octets

      -- what is recorded, where Flow Control is used
      recording_is : (p : Pulse) → (recording c.limits c.window m p).flow.recorded ≡ recorded_by c.limits c.window p.flow.recorded m
      recording_is p = ap (λ (p : Pulse). p.flow.recorded) (chosen (flows c.limits) _ p used)

      pub data_ack_flows : IsDataAck r.octets → (number : ℕ) → Flows c (data_ack_stated c number m).channel
      unfolding data_ack_stated advanced
      data_ack_flows is number =
          data_ack_cases c (λ (s : Stepped). Flows c (heeding c m s).channel) number (beside c _ refl refl refl) (beside c _ refl refl refl)
          (λ e now. inr (inl (record { was = e; came = came; heard = inl is; recorded = recording_is c.pulse; follows = λ q. omega (arith, q) })))

      pub control_ack_flows : kind_of (fields_at r.octets).kind ≡ kinds.ControlAck → (number : ℕ) → Flows c (control_ack_stated c number m).channel
      unfolding control_ack_stated parked
      control_ack_flows is number =
          control_ack_cases c (λ (s : Stepped). Flows c (heeding_first m s).channel) number (beside c _ refl refl same) (beside c _ refl refl same)
          (λ e. left_open c _ (λ q. omega (arith, q)))
          (λ e now. inr (inr (record { was = e; came = came; acks = is; recorded = refl })))
          (λ e. left_open c _ (λ q. omega (arith, q)))
        where
          same : recorded_of c ≡ recorded_of c
          same = refl

      pub flow_flows : kind_of (fields_at r.octets).kind ≡ kinds.FlowControl → (number : ℕ) → Flows c (acknowledging number (flow_step c m)).channel
      flow_flows is number =
          replied_flows number (flow_step c m)
          (flow_cases c (λ (s : Stepped). Flows c s.channel) (unchanged c) m
          (λ e now. inr (inl (record { was = e; came = came; heard = inr is; recorded = recording_is c.pulse; follows = λ q. omega (arith, q) }))))
