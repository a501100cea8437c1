-- The units that a receiving record holds are those that wait at the protocol's receiver.
-- Assumes nothing.
use mathlib.Core.Path.{◌≡◌, refl, sym, ap, ap₂, ◌∙◌}
use mathlib.Core.Bool.{Bool, true, false}
use mathlib.Core.List.{List, []}
use mathlib.Core.Option.{some}
use Prim.Native.Nat.{ℕ, zero, suc, ◌+◌, ◌≤◌, ◌<◌}
use native.Mathlib.Omega.{arith}
use borrow.Author.Tests.{ltb-true, ltb-false}
use lib.Dec.{ltb}
use lib.ListN.{length, take, drop, length-drop}
use lib.Seq.{get_or-drop}
use Rattle.slots.proofs.RingLaws.{back_lt}
use Rattle.channel.specs.declared.record.Channel.{Channel}
use Rattle.channel.specs.Record.{receives, held_in}
use Rattle.channel.specs.Standing.{oldest_of}
use Rattle.channel.specs.Asked.{Asked}
use Rattle.receiver_data.specs.Taking.{complete_in}
use Rattle.ends.proofs.Receivers.{receives_is}
use Rattle.protocol.specs.Units.{Segment, blank, units}
use Rattle.protocol.specs.Ends.{rank}
use Rattle.protocol.specs.Receiving.{Receiver, waiting}
use Rattle.means.specs.Held.{units_in, units_held}
use Rattle.means.proofs.Runs.{Lies, run_units}
use Rattle.means.proofs.Wholes.{whole_units}
use Rattle.means.proofs.Receives.{Before, Within, After, Receives}
use Rattle.means.proofs.Leaving.{Turned}
use Rattle.means.proofs.ReceiverControl.{turned}
use Rattle.means.proofs.Taking.{complete_to, complete_length, complete_lies}

module _ (c : Channel) (mem lens : List ℕ) (r : Receiver) (asked : Asked c mem lens) (receiving : c.addresses.direction ≡ receives) (t : Receives c mem lens r) where
  ring : Turned c.limits.slots c.window
  ring = turned c mem lens asked receiving

  abbrev from : ℕ
  from = oldest_of c.limits.slots c.window

  low : from < c.limits.slots
  low = back_lt c.limits.slots c.window.place c.window.behind ring.place

  held_is : held_in c.window ≡ c.window.behind
  held_is = omega (arith, (receives_is c lens receiving asked.standing).window.ahead)

  -- so many segments that lie from the oldest on
  held_run : (l : List Segment) → length l ≡ c.window.behind → Lies c mem lens from l → units_held c mem lens ≡ units [] l
  held_run l e h =
      ap (λ (n : ℕ). units_in c mem lens [] n from) (held_is ∙ sym e)
      ∙ run_units c mem lens l [] from low (omega (arith, ring.behind)) h

  before_held : Before c r → units_held c mem lens ≡ waiting r
  unfolding units_in
  before_held b =
      ap (λ (n : ℕ). units_in c mem lens [] n from) b.held
      ∙ sym (ap₂ (λ (n : ℕ) (l : List Segment). units [] (drop n l)) b.oldest b.passed)

  within_held : Within c mem lens r.oldest r.passed r.filed → units_held c mem lens ≡ waiting r
  within_held w =
      let long : length (drop r.oldest r.passed) ≡ c.window.behind = omega (arith, length-drop r.oldest r.passed, w.behind) in
      held_run (drop r.oldest r.passed) long
      (λ j h.
      w.view j (omega (arith, long, ring.behind))
      ∙ w.known (r.oldest + j) (omega (arith, long, w.behind))
      ∙ ap some (sym (get_or-drop r.oldest r.passed j blank)))

  after_held : After c mem lens r.oldest r.passed → units_held c mem lens ≡ waiting r
  after_held a =
      let l = r.passed in
      let n : ℕ = complete_in c.window in
      held_run (take n (drop r.oldest l)) (complete_length c mem lens r.oldest l ring a.whole ∙ omega (arith, a.way))
      (complete_lies c mem lens r.oldest l ring a.whole)
      ∙ whole_units l r.oldest n (complete_to c mem lens r.oldest l ring a.whole)

  pub receives_held : units_held c mem lens ≡ waiting r
  receives_held = by (rank r.phase) refl
    where
      late : (b : Bool) → ltb 2 (rank r.phase) ≡ b → 1 ≤ rank r.phase → units_held c mem lens ≡ waiting r
      late true e h = after_held (t.after (ltb-true 2 (rank r.phase) e))
      late false e h = within_held (t.within h (ltb-false 2 (rank r.phase) e))

      by : (n : ℕ) → rank r.phase ≡ n → units_held c mem lens ≡ waiting r
      by zero e = before_held (t.before e)
      by (suc n) e = late (ltb 2 (rank r.phase)) refl (omega arith)
