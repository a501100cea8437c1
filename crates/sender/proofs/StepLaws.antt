-- Laws of a tick: what each of its steps answers in each case.
-- Assumes nothing.
use mathlib.Core.Path.{◌≡◌, refl, ap}
use mathlib.Core.Bool.{Bool, true, false, ◌||◌}
use mathlib.Core.List.{List, [], ◌∷◌}
use Prim.Native.Nat.{ℕ}
use borrow.Author.Tests.{eq-eqb}
use Rattle.std.specs.List.{zip, list_any}
use Rattle.laws.proofs.Choice.{chosen, passed_by}
use Rattle.channel.specs.declared.record.Channel.{Channel}
use Rattle.channel.specs.declared.pulse.Beaten.{Beaten}
use Rattle.channel.specs.Record.{opened, retries_out, unanswered, with_pulse}
use Rattle.channel.specs.Pulse.{beaten}
use Rattle.sender.specs.Directives.{shut_for}
use Rattle.sender.specs.Ticking.{spent_now, any_spent, beat_tick, data_fallen, data_tick, tick_step}

module _ (c : Channel) where
  pub tick_open : c.phase.state ≡ opened → tick_step c ≡ data_tick c
  unfolding tick_step
  tick_open h = simp (eq-eqb _ _ h)

  pub data_spent : any_spent c.timers.left c.timers.tries ≡ true → data_tick c ≡ record { channel = shut_for c retries_out; inactive = true }
  data_spent h = chosen (any_spent c.timers.left c.timers.tries) _ _ h

  pub data_falls : any_spent c.timers.left c.timers.tries ≡ false
      → data_tick c ≡ beat_tick (data_fallen c) (beaten c.limits c.pulse)
  data_falls h = passed_by (any_spent c.timers.left c.timers.tries) _ _ h

  pub beat_spent : (b : Beaten) → b.spent ≡ true → beat_tick c b ≡ record { channel = shut_for c unanswered; inactive = true }
  beat_spent b h = chosen b.spent _ _ h

  pub beat_falls : (b : Beaten) → b.spent ≡ false → beat_tick c b ≡ record { channel = with_pulse c b.pulse; inactive = false }
  beat_falls b h = passed_by b.spent _ _ h

-- ---- some timer is spent: some pair of one with its resends

pub any_spent_paired : (left tries : List ℕ) → any_spent left tries ≡ list_any (λ p. spent_now p.0 p.1) (zip left tries)
unfolding any_spent
any_spent_paired [] tries = refl
any_spent_paired (x ∷ left) [] = refl
any_spent_paired (x ∷ left) (t ∷ tries) = ap (λ (b : Bool). spent_now x t || b) (any_spent_paired left tries)
