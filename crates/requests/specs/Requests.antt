-- What a request does to the channel that it names (document 01, Answer numbers: 'Requests test 14, then direction and state (5), then 10, 6, 7,
-- 12, 11 where they apply').
use Rattle.std.specs.Prelude.{List, ℕ, eqb, length, if◌then◌else◌}
use Rattle.walks.specs.Serving.{works}
use Rattle.channel.specs.declared.record.Channel.{Channel}
use Rattle.channel.specs.declared.answer.Answer.TheVariants.{Refused}
use Rattle.channel.specs.declared.answer.Refusal.TheVariants as refusal
use Rattle.channel.specs.declared.step.Stepped.{Stepped}
use Rattle.channel.specs.Record.{sends, receives}
use Rattle.channel.specs.Pairs.{filed, filed_count}
use Rattle.channel.specs.Steps.{answered, refusing}
use Rattle.sender.specs.Directives as sender
use Rattle.sender_units.specs.Transfer.{would_transfer, transfer_step, transfer_mem, transfer_lens}
use Rattle.sender_units.specs.Reclaiming.{reclaim_step, reclaim_out}
use Rattle.receiver.specs.Receiving as receiver
use Rattle.receiver_data.specs.Taking.{take_step, take_out}
use Rattle.table.specs.Serving.{Step}

-- directives, at either end
unfoldable pub opened_by : Channel → Stepped
opened_by c = if eqb c.addresses.direction sends then sender.open_step c else receiver.open_step c

unfoldable pub closed_by : Channel → Stepped
closed_by c = if eqb c.addresses.direction sends then sender.close_step c else receiver.close_step c

-- a sender takes a unit, and files it: on a pair behind a leading octet (document 02, A13)
unfoldable pub transfer_for : List ℕ → Step
transfer_for unit c rank mem lens out =
    if eqb c.addresses.direction sends
    then works (transfer_step c (length (filed c.limits unit))) (transfer_mem c (filed c.limits unit) mem) (transfer_lens c (filed c.limits unit) lens) out
    else works (refusing c refusal.State) mem lens out

-- what a transfer of so many octets would answer: a question, which changes nothing
unfoldable pub asked_by : ℕ → Channel → Stepped
asked_by count c = answered c (if eqb c.addresses.direction sends then would_transfer c (filed_count c.limits count) else Refused refusal.State)

-- a receiver gives its oldest complete unit
unfoldable pub take_for : Step
take_for c rank mem lens out =
    if eqb c.addresses.direction receives then works (take_step c lens (length out)) mem lens (take_out c lens mem out)
    else works (refusing c refusal.State) mem lens out

-- a sender gives back its oldest unit
unfoldable pub reclaim_for : Step
reclaim_for c rank mem lens out =
    if eqb c.addresses.direction sends then works (reclaim_step c lens (length out)) mem lens (reclaim_out c lens mem out)
    else works (refusing c refusal.State) mem lens out
