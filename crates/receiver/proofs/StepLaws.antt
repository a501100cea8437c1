-- Laws of the steps: what each answers in each case.
-- Assumes nothing.
use mathlib.Core.Path.{◌≡◌, ap, ◌∙◌}
use mathlib.Core.Bool.{Bool, true, false}
use mathlib.Core.List.{List, [], ◌∷◌, ◌++◌}
use Prim.Native.Nat.{ℕ, ◌-◌, ◌≤◌, ◌<◌}
use borrow.Author.Tests.{lt-leb, le-leb, le-ltb, eq-eqb, ne_eqb}
use lib.ListN.{length, drop}
use lib.Seq.{length-take-le}
use native.Mathlib.Omega.{arith}
use Rattle.packet.specs.declared.fields.Fields.{Fields}
use Rattle.std.specs.Prelude.{Result, Ok}
use Rattle.packet.specs.declared.writing.WriteError.{WriteError}
use Rattle.packet.specs.Kinds.{most_carried}
use Rattle.packet.specs.Layout.{most_prefix, packet_of}
use Rattle.packet.specs.Tests.{lacking, strange, flags_whole}
use Rattle.packet.specs.Writing.{written_of, after_write}
use Rattle.packet.proofs.WriteLaws.{write_done}
use Rattle.channel.specs.declared.record.Node.{Node}
use Rattle.channel.specs.declared.record.Addresses.{Addresses}
use Rattle.channel.specs.declared.record.Limits.{Limits}
use Rattle.channel.specs.declared.record.Window.{Window}
use Rattle.channel.specs.declared.record.Channel.{Channel}
use Rattle.channel.specs.declared.lone.Fallen.{Fallen}
use Rattle.channel.specs.declared.answer.Refusal.TheVariants as refusal
use Rattle.channel.specs.declared.pulse.Beaten.{Beaten}
use Rattle.channel.specs.Record.{closed, enabled, opened, closing, late_open, control_number, retries_out, unanswered, no_lone, held_in, with_state, with_pulse, with_timers}
use Rattle.packet.specs.declared.kinds.Kind.{Kind}
use Rattle.packet.specs.Kinds.{kind_of}
use Rattle.channel.specs.Prefixes.{prefix_of, fit_prefix}
use Rattle.channel.proofs.PrefixLaws.{prefix_short}
use Rattle.channel.specs.Steps.{refusing, doing, repeating, failing, enabled_of, outgoing_of, outgoing_length}
use Rattle.channel.specs.Lone.{fallen}
use Rattle.channel.specs.Pulse.{started_pulse, beaten}
use Rattle.channel.specs.Flow.{flows, lowered_flow}
use Rattle.laws.proofs.Choice.{chosen, passed_by, either}
use Rattle.receiver.specs.declared.acks.Acked.{Acked}
use Rattle.receiver.specs.declared.acks.Acked.TheVariants as acked
use Rattle.receiver.specs.Receiving.{ack_length, ack_kind, stated_count, carries, stated_by, carrying, leaving, shut_for, with_closing, open_step, open_arrives, close_arrives, control_step, close_tick, beat_tick, flow_tick, tick_step}

-- ---- the Open directive

module _ (c : Channel) where
  pub open_state : (c.phase.state ≡ closed → ⊥) → open_step c ≡ refusing c refusal.State
  unfolding open_step
  open_state h = simp (ne_eqb _ _ h)

  pub open_untaken : c.phase.state ≡ closed → (held_in c.window ≡ 0 → ⊥) → open_step c ≡ refusing c refusal.Untaken
  unfolding open_step
  open_untaken h k = simp (eq-eqb _ _ h, ne_eqb _ _ k)

  pub open_done : c.phase.state ≡ closed → held_in c.window ≡ 0 → open_step c ≡ doing (enabled_of c no_lone) 0
  unfolding open_step
  open_done h k = simp (eq-eqb _ _ h, eq-eqb _ _ k)

  -- ---- an Open

  pub open_opens : c.phase.state ≡ enabled → open_arrives c ≡ doing (with_pulse (with_state c opened) (started_pulse c.limits)) (ack_length c)
  unfolding open_arrives
  open_opens h = simp (eq-eqb _ _ h)

  pub open_other : (c.phase.state ≡ enabled → ⊥) → (c.phase.state ≡ opened → ⊥) → open_arrives c ≡ refusing c refusal.State
  unfolding open_arrives
  open_other h k = simp (ne_eqb _ _ h, ne_eqb _ _ k)

  pub open_again : (c.phase.state ≡ enabled → ⊥) → c.phase.state ≡ opened → c.phase.accepted ≡ 0 → open_arrives c ≡ repeating c (ack_length c)
  unfolding open_arrives
  open_again h k a = simp (ne_eqb _ _ h, eq-eqb _ _ k, eq-eqb _ _ a)

  pub open_late : (c.phase.state ≡ enabled → ⊥) → c.phase.state ≡ opened → (c.phase.accepted ≡ 0 → ⊥) → open_arrives c ≡ failing (shut_for c late_open) late_open
  unfolding open_arrives
  open_late h k a = simp (ne_eqb _ _ h, eq-eqb _ _ k, ne_eqb _ _ a)

  -- ---- a Close

  pub close_closes : c.phase.state ≡ opened → close_arrives c ≡ doing (leaving c closing c.limits.closing) (ack_length c)
  unfolding close_arrives
  close_closes h = simp (eq-eqb _ _ h)

  pub close_again : (c.phase.state ≡ opened → ⊥) → c.phase.state ≡ closing → close_arrives c ≡ repeating c (ack_length c)
  unfolding close_arrives
  close_again h k = simp (ne_eqb _ _ h, eq-eqb _ _ k)

  pub close_other : (c.phase.state ≡ opened → ⊥) → (c.phase.state ≡ closing → ⊥) → close_arrives c ≡ refusing c refusal.State
  unfolding close_arrives
  close_other h k = simp (ne_eqb _ _ h, ne_eqb _ _ k)

  -- ---- a Control packet

  module _ (opens : Bool) (number : ℕ) where
    pub control_closed : c.phase.state ≡ closed → control_step c opens number ≡ refusing c refusal.State
    unfolding control_step
    control_closed h = simp (eq-eqb _ _ h)

    pub control_number_lem : (c.phase.state ≡ closed → ⊥) → (number ≡ 0 → ⊥) → control_step c opens number ≡ failing (shut_for c control_number) control_number
    unfolding control_step
    control_number_lem h k = simp (ne_eqb _ _ h, ne_eqb _ _ k)

    pub control_open : (c.phase.state ≡ closed → ⊥) → number ≡ 0 → opens ≡ true → control_step c opens number ≡ open_arrives c
    unfolding control_step
    control_open h k o = simp (ne_eqb _ _ h, eq-eqb _ _ k, o)

    pub control_close : (c.phase.state ≡ closed → ⊥) → number ≡ 0 → opens ≡ false → control_step c opens number ≡ close_arrives c
    unfolding control_step
    control_close h k o = simp (ne_eqb _ _ h, eq-eqb _ _ k, o)

  -- ---- a tick

  pub tick_open : c.phase.state ≡ opened → tick_step c ≡ flow_tick c (fallen c.pulse.flow.packet)
  unfolding tick_step
  tick_open h = simp (eq-eqb _ _ h)

  pub tick_closing : (c.phase.state ≡ opened → ⊥) → c.phase.state ≡ closing → tick_step c ≡ record { channel = close_tick c; inactive = false }
  unfolding tick_step
  tick_closing h k = simp (ne_eqb _ _ h, eq-eqb _ _ k)

  pub tick_idle : (c.phase.state ≡ opened → ⊥) → (c.phase.state ≡ closing → ⊥) → tick_step c ≡ record { channel = c; inactive = false }
  unfolding tick_step
  tick_idle h k = simp (ne_eqb _ _ h, ne_eqb _ _ k)

  pub close_falls : 2 ≤ c.timers.closing → close_tick c ≡ with_timers c (with_closing c.timers (c.timers.closing - 1))
  close_falls k = chosen _ _ _ (le-leb _ _ k)

  pub close_ends : c.timers.closing < 2 → close_tick c ≡ with_state (with_timers c (with_closing c.timers 0)) closed
  close_ends k = passed_by _ _ _ (lt-leb _ _ k)

  pub flow_spent : (f : Fallen) → f.spent ≡ true → flow_tick c f ≡ record { channel = shut_for c retries_out; inactive = true }
  flow_spent f h = chosen f.spent _ _ h

  pub flow_falls : (f : Fallen) → f.spent ≡ false → flow_tick c f ≡ beat_tick (with_pulse c (lowered_flow c.pulse f.lone)) (beaten c.limits (lowered_flow c.pulse f.lone))
  flow_falls f h = passed_by f.spent _ _ h

  pub beat_spent : (b : Beaten) → b.spent ≡ true → beat_tick c b ≡ record { channel = shut_for c unanswered; inactive = true }
  beat_spent b h = chosen b.spent _ _ h

  pub beat_falls : (b : Beaten) → b.spent ≡ false → beat_tick c b ≡ record { channel = with_pulse c b.pulse; inactive = false }
  beat_falls b h = passed_by b.spent _ _ h

-- ---- an ack: the writer never refuses its fields

module _ (node : Node) (a : Addresses) (number : ℕ) (fits : fit_prefix a.own ≡ true) where
  pub ack_base : (of : Acked) → lacking (outgoing_of node a (ack_kind of) flags_whole number) a.own.length ≡ false
  unfolding lacking kind_of
  ack_base acked.Data = simp (le-ltb most_prefix a.own.length (prefix_short a.own fits))
  ack_base acked.Open = simp (le-ltb most_prefix a.own.length (prefix_short a.own fits))
  ack_base acked.Close = simp (le-ltb most_prefix a.own.length (prefix_short a.own fits))
  ack_base acked.Heartbeat = simp (le-ltb most_prefix a.own.length (prefix_short a.own fits))
  ack_base acked.Flow = simp (le-ltb most_prefix a.own.length (prefix_short a.own fits))

  pub ack_plain : (of : Acked) (x : ℕ) → x ≤ most_carried (ack_kind of) → strange (outgoing_of node a (ack_kind of) flags_whole number) x ≡ false
  unfolding strange kind_of
  ack_plain acked.Data x h = simp (le-leb x 1 h)
  ack_plain acked.Open x h = simp (le-leb x 1 h)
  ack_plain acked.Close x h = simp (le-leb x 1 h)
  ack_plain acked.Heartbeat x h = simp (le-leb x 0 h)
  ack_plain acked.Flow x h = simp (le-leb x 1 h)

  pub ack_written : (of : Acked) (kind : Kind) (f : Fields) (w : Result ℕ WriteError) (p out s : List ℕ)
      → kind ≡ ack_kind of
      → f ≡ outgoing_of node a kind flags_whole number
      → w ≡ written_of f a.own.length (length p) (length out)
      → s ≡ after_write w f (prefix_of a.own) p out
      → length p ≤ most_carried (ack_kind of)
      → outgoing_length a (length p) ≤ length out
      → s ≡ packet_of (outgoing_of node a (ack_kind of) flags_whole number) (prefix_of a.own) p ++ drop (outgoing_length a (length p)) out
  unfolding after_write
  ack_written of kind f w p out s ek ef ew es few h =
      let g = outgoing_of node a (ack_kind of) flags_whole number in
      let q = prefix_of a.own in
      let same : f ≡ g = ef ∙ ap (λ (x : Kind). outgoing_of node a x flags_whole number) ek in
      let done : w ≡ Ok (outgoing_length a (length p)) =
      ew
      ∙ ap (λ (x : Fields). written_of x a.own.length (length p) (length out)) same
      ∙ write_done g a.own.length (length p) (length out) (ack_base of) (ack_plain of (length p) few) h in
      es ∙ ap (λ (x : Result ℕ WriteError). after_write x f q p out) done ∙ ap (λ (x : Fields). packet_of x q p ++ drop (outgoing_length a (length p)) out) same

-- ---- what an ack carries

pub count_few : (l : Limits) → stated_count l ≤ 1
count_few l = either (λ (n : ℕ). n ≤ 1) (flows l) 1 0 (omega arith) (omega arith)

pub carries_few : (of : Acked) (l : Limits) → carries of l ≤ most_carried (ack_kind of)
carries_few acked.Data l = count_few l
carries_few acked.Open l = count_few l
carries_few acked.Close l = count_few l
carries_few acked.Heartbeat l = omega arith
carries_few acked.Flow l = omega arith

pub carries_one : (of : Acked) (l : Limits) → carries of l ≤ 1
carries_one acked.Data l = count_few l
carries_one acked.Open l = count_few l
carries_one acked.Close l = count_few l
carries_one acked.Heartbeat l = omega arith
carries_one acked.Flow l = omega arith

pub carrying_length : (of : Acked) (l : Limits) (w : Window) → length (carrying of l w) ≡ carries of l
carrying_length of l w = length-take-le (carries of l) (stated_by of l w ∷ []) (carries_one of l)
