-- What holds of each answer of a sender's step holds of the step. Where an answer is given in one state alone, that state is known of it.
-- Assumes nothing.
use mathlib.Core.Path.{◌≡◌, sym, ap, ◌∙◌}
use mathlib.Core.Bool.{Bool, true, false, not, ◌||◌, or-false}
use mathlib.Core.List.{List}
use Prim.Native.Nat.{ℕ}
use borrow.Author.Tests.{eqb-true, eqb-false, not-false}
use lib.Dec.{ltb, eqb}
use lib.ListN.{length}
use Rattle.std.specs.Prelude.{if◌then◌else◌}
use Rattle.laws.proofs.Choice.{either_way, either, by_test}
use Rattle.slots.specs.Slots.{laid}
use Rattle.channel.specs.Places.{slot_of}
use Rattle.store.specs.Store.{octets_in}
use Rattle.channel.specs.declared.record.Channel.{Channel}
use Rattle.channel.specs.declared.answer.Answer.TheVariants.{Done}
use Rattle.channel.specs.declared.answer.Refusal.TheVariants as refusal
use Rattle.channel.specs.declared.step.Stepped.{Stepped}
use Rattle.channel.specs.declared.step.Ticked.{Ticked}
use Rattle.channel.specs.Record.{closed, enabled, opened, closing, retries_out, unanswered, no_lone, held_in, with_state, with_kept, with_control, with_pulse}
use Rattle.channel.specs.Lone.{ready_lone, is_out, fallen}
use Rattle.channel.specs.Pulse.{started_pulse, beaten}
use Rattle.channel.specs.Steps.{refusing, doing, enabled_of}
use Rattle.sender.specs.Directives.{parked, shut_for, open_step, close_step}
use Rattle.sender.specs.Ticking.{any_spent, data_fallen, tick_step}
use Rattle.sender_acks.specs.Acks.{control_ack_step, away_of, is_awaited, recorded, confirmed_at, advanced, data_ack_step}
use Rattle.sender_units.specs.Reclaiming.{unit_at, size_at, dropped, reclaim_step, reclaim_out}

module _ (c : Channel) (P : Stepped → Type 0) where
  pub open_cases : P (refusing c refusal.State) → P (refusing c refusal.Untaken) → P (doing (enabled_of c ready_lone) 0) → P (open_step c)
  unfolding open_step
  open_cases state untaken done =
      either P (not (eqb c.phase.state closed)) _ _ state (either P (not (eqb (held_in c.window) 0)) _ _ untaken done)

  pub close_cases : P (refusing c refusal.State)
      → (c.phase.state ≡ opened → P (doing (parked c closing ready_lone) 0))
      → P (doing (with_kept c 1) 0)
      → P (close_step c)
  unfolding close_step
  close_cases state closes keeps =
      by_test P (eqb c.phase.state opened) _ _ (λ e. closes (eqb-true _ _ e))
      (λ e. either P (not (eqb c.phase.state enabled)) _ _ state (either P (eqb c.phase.kept 0) _ _ keeps state))

  pub control_ack_cases : (number : ℕ)
      → P (refusing c refusal.State)
      → P (refusing c refusal.Ignored)
      → (c.phase.state ≡ closing → P (doing (parked c closed no_lone) 0))
      → (c.phase.state ≡ enabled → P (doing (with_pulse (with_control (with_state c opened) no_lone) (started_pulse c.limits)) 0))
      → (c.phase.state ≡ enabled → P (doing (parked c closing ready_lone) 0))
      → P (control_ack_step c number)
  unfolding control_ack_step
  control_ack_cases number state ignored shuts opens closes =
      by_test P (not (eqb c.phase.state enabled || eqb c.phase.state closing)) _ _ (λ e. state)
      (λ e.
      either P (not (eqb number 0)) _ _ ignored
      (either P (not (is_out c.phase.control)) _ _ ignored
      (by_test Acked (eqb c.phase.state closing) _ _ (λ q. shuts (eqb-true _ _ q))
      (λ q.
      let in-enabled = eqb-true _ _ (sym (ap (λ (b : Bool). eqb c.phase.state enabled || b) q ∙ or-false _) ∙ not-false _ e) in
      either Acked (eqb c.phase.kept 0) _ _ (opens in-enabled) (closes in-enabled)))))
    where
      Acked : Channel → Type 0
      Acked k = P (doing k 0)

  pub data_ack_cases : (number : ℕ)
      → P (refusing c refusal.State)
      → P (refusing c refusal.Ignored)
      → (c.phase.state ≡ opened
      → P (record { channel = advanced (recorded c (away_of c number)); answer = Done 0 (confirmed_at (recorded c (away_of c number))) }))
      → P (data_ack_step c number)
  unfolding data_ack_step
  data_ack_cases number state ignored done =
      by_test P (not (eqb c.phase.state opened)) _ _ (λ e. state)
      (λ e. either P (not (is_awaited c (away_of c number))) _ _ ignored (done (eqb-true _ _ (not-false _ e))))

  pub reclaim_cases : (lens : List ℕ) (n : ℕ)
      → P (refusing c refusal.State)
      → P (refusing c refusal.Nothing)
      → P (refusing c (refusal.Small (size_at c lens)))
      → (c.phase.state ≡ closed → (c.window.ahead ≡ 0 → ⊥) → P (doing (dropped c (unit_at c)) (size_at c lens)))
      → P (reclaim_step c lens n)
  unfolding reclaim_step
  reclaim_cases lens n state nothing small done =
      by_test P (not (eqb c.phase.state closed)) _ _ (λ e. state)
      (λ e.
      by_test P (eqb c.window.ahead 0) _ _ (λ q. nothing)
      (λ q. either P (ltb n (size_at c lens)) _ _ small (done (eqb-true _ _ (not-false _ e)) (eqb-false _ _ q))))

-- a unit given back, with the octets written
pub reclaim_out_cases : (c : Channel) (lens mem out : List ℕ) (P : Stepped → List ℕ → Type 0)
    → P (refusing c refusal.State) out
    → P (refusing c refusal.Nothing) out
    → P (refusing c (refusal.Small (size_at c lens))) out
    → P (doing (dropped c (unit_at c)) (size_at c lens))
    (laid out 0 (octets_in (slot_of c) c.limits.payload mem lens c.limits.slots (unit_at c) c.window.place))
    → P (reclaim_step c lens (length out)) (reclaim_out c lens mem out)
unfolding reclaim_step reclaim_out
reclaim_out_cases c lens mem out P state nothing small done =
    alike (not (eqb c.phase.state closed)) state (alike (eqb c.window.ahead 0) nothing (alike (ltb (length out) (size_at c lens)) small done))
  where
    alike : (t : Bool) {a b : Stepped} {x y : List ℕ} → P a x → P b y → P (if t then a else b) (if t then x else y)
    alike true p q = p
    alike false p q = q

pub tick_cases : (c : Channel) (P : Channel → Type 0)
    → (c.phase.state ≡ opened → P (shut_for c retries_out))
    → (c.phase.state ≡ enabled → P (shut_for c retries_out))
    → (c.phase.state ≡ closing → P (shut_for c retries_out))
    → (c.phase.state ≡ opened → P (shut_for (data_fallen c) unanswered))
    → (c.phase.state ≡ opened → P (with_pulse (data_fallen c) (beaten c.limits c.pulse).pulse))
    → ((fallen c.phase.control).spent ≡ false → P (with_control c (fallen c.phase.control).lone))
    → P c
    → P (tick_step c).channel
unfolding tick_step
tick_cases c P in-opened in-enabled in-closing unheard timers control same =
    by_test Ticks (eqb c.phase.state opened) _ _
    (λ e.
    let o = eqb-true _ _ e in
    either Ticks (any_spent c.timers.left c.timers.tries) _ _ (in-opened o) (either Ticks (beaten c.limits c.pulse).spent _ _ (unheard o) (timers o)))
    (λ e.
    by_test Ticks (eqb c.phase.state enabled || eqb c.phase.state closing) _ _
    (λ q. by_test Ticks (fallen c.phase.control).spent _ _ (λ t. by_control q) control)
    (λ q. same))
  where
    Ticks : Ticked → Type 0
    Ticks s = P s.channel

    by_control : (eqb c.phase.state enabled || eqb c.phase.state closing) ≡ true → P (shut_for c retries_out)
    by_control q =
        either_way (eqb c.phase.state enabled) (λ e. in-enabled (eqb-true _ _ e))
        (λ e. in-closing (eqb-true _ _ (sym (ap (λ (b : Bool). b || eqb c.phase.state closing) e) ∙ q)))
