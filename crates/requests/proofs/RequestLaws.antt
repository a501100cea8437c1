-- Laws of the directives at either end of a channel, and of the question what a transfer would answer.
-- Assumes nothing.
use mathlib.Core.Path.{◌≡◌, refl, ap}
use mathlib.Core.Bool.{Bool, true, false}
use mathlib.Core.List.{List}
use Prim.Native.Nat.{ℕ}
use borrow.Author.Tests.{eq-eqb, ne_eqb}
use lib.Dec.{eqb}
use lib.ListN.{length}
use Rattle.std.specs.Prelude.{if◌then◌else◌}
use Rattle.laws.proofs.Choice.{chosen, passed_by}
use Rattle.channel.specs.declared.record.Channel.{Channel}
use Rattle.channel.specs.declared.answer.Answer.TheVariants.{Refused}
use Rattle.channel.specs.declared.answer.Refusal.TheVariants as refusal
use Rattle.channel.specs.Record.{sends}
use Rattle.channel.specs.Pairs.{filed, filed_count}
use Rattle.channel.proofs.PairLaws.{filed_length}
use Rattle.channel.specs.Steps.{answered, refusing}
use Rattle.walks.specs.Serving.{works}
use Rattle.sender.specs.Directives as sender
use Rattle.sender_units.specs.Transfer.{would_transfer, transfer_step, transfer_mem, transfer_lens}
use Rattle.receiver.specs.Receiving as receiver
use Rattle.requests.specs.Requests.{opened_by, closed_by, transfer_for, asked_by}

module _ (c : Channel) where
  pub opened_sends : c.addresses.direction ≡ sends → opened_by c ≡ sender.open_step c
  unfolding opened_by
  opened_sends e = chosen (eqb c.addresses.direction sends) (sender.open_step c) (receiver.open_step c) (eq-eqb _ _ e)

  pub opened_receives : (c.addresses.direction ≡ sends → ⊥) → opened_by c ≡ receiver.open_step c
  unfolding opened_by
  opened_receives e = passed_by (eqb c.addresses.direction sends) (sender.open_step c) (receiver.open_step c) (ne_eqb _ _ e)

  pub closed_sends : c.addresses.direction ≡ sends → closed_by c ≡ sender.close_step c
  unfolding closed_by
  closed_sends e = chosen (eqb c.addresses.direction sends) (sender.close_step c) (receiver.close_step c) (eq-eqb _ _ e)

  pub closed_receives : (c.addresses.direction ≡ sends → ⊥) → closed_by c ≡ receiver.close_step c
  unfolding closed_by
  closed_receives e = passed_by (eqb c.addresses.direction sends) (sender.close_step c) (receiver.close_step c) (ne_eqb _ _ e)

  pub asked_sends : (count : ℕ) → c.addresses.direction ≡ sends → asked_by count c ≡ answered c (would_transfer c (filed_count c.limits count))
  unfolding asked_by
  asked_sends count e = ap (answered c) (chosen (eqb c.addresses.direction sends) _ _ (eq-eqb _ _ e))

  pub asked_receives : (count : ℕ) → (c.addresses.direction ≡ sends → ⊥) → asked_by count c ≡ refusing c refusal.State
  unfolding asked_by
  asked_receives count e = ap (answered c) (passed_by (eqb c.addresses.direction sends) _ _ (ne_eqb _ _ e))

  -- a transfer of any unit of that length answers the same
  pub asked_answers : (unit : List ℕ) (rank : ℕ) (mem lens out : List ℕ) → (transfer_for unit c rank mem lens out).made.answer ≡ (asked_by (length unit) c).answer
  unfolding transfer_for asked_by transfer_step
  asked_answers unit rank mem lens out = go (eqb c.addresses.direction sends)
    where
      u : List ℕ
      u = filed c.limits unit

      go : (t : Bool)
          → (if t then works (transfer_step c (length u)) (transfer_mem c u mem) (transfer_lens c u lens) out
          else works (refusing c refusal.State) mem lens out).made.answer
          ≡ (if t then would_transfer c (filed_count c.limits (length unit)) else Refused refusal.State)
      go true = ap (would_transfer c) (filed_length c.limits unit)
      go false = refl
