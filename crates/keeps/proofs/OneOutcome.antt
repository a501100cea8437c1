-- Two outcomes that a contract admits are equal: of each public call of the node (document 01, How tight the contracts are).
-- Assumes nothing.
use mathlib.Core.Path.{◌≡◌, sym, ap, ◌∙◌}
use mathlib.Core.List.{List}
use Prim.Native.Nat.{ℕ}
use Rattle.walks.specs.Serving.{Called, Changed, leaves, changes}
use Rattle.channel.specs.declared.record.Node.{Node}
use Rattle.channel.specs.declared.record.Channel.{Channel}
use Rattle.channel.specs.declared.answer.Answer.{Answer}
use Rattle.ticks.specs.Ticks.{ticked}
use Rattle.node.specs.Calls.{open_call, close_call, transfer_call, take_call, reclaim_call, next_packet_call, arrival_call}
use Rattle.keeps.specs.Keeping.{OneOutcome, OneChange}

-- a contract `leaves r t m l i o ≡ g` admits one outcome
pub one_outcome : (g : Called Answer Channel) → OneOutcome g
one_outcome g r r2 t t2 m m2 l l2 i i2 o o2 e e2 =
    let same : leaves r t m l i o ≡ leaves r2 t2 m2 l2 i2 o2 = e ∙ sym e2 in (
      ap (λ (x : Called Answer Channel). x.answer) same,
      ap (λ (x : Called Answer Channel). x.table) same,
      ap (λ (x : Called Answer Channel). x.mem) same,
      ap (λ (x : Called Answer Channel). x.lens) same,
      ap (λ (x : Called Answer Channel). x.lines) same,
      ap (λ (x : Called Answer Channel). x.out) same,
    )

-- and so does a contract `changes r t i ≡ g`
pub one_change : (g : Changed Answer Channel) → OneChange g
one_change g r r2 t t2 i i2 e e2 =
    let same : changes r t i ≡ changes r2 t2 i2 = e ∙ sym e2 in (
      ap (λ (x : Changed Answer Channel). x.answer) same,
      ap (λ (x : Changed Answer Channel). x.table) same,
      ap (λ (x : Changed Answer Channel). x.lines) same,
    )

-- ---- each call

module _ (t : List Channel) (mem lens lines : List ℕ) where
  pub arrival_one_outcome : (node : Node) (packet reply : List ℕ) → OneOutcome (arrival_call t mem lens lines node packet reply)
  arrival_one_outcome node packet reply = one_outcome (arrival_call t mem lens lines node packet reply)

  pub next_packet_one_outcome : (node : Node) (out : List ℕ) → OneOutcome (next_packet_call t mem lens lines node out)
  next_packet_one_outcome node out = one_outcome (next_packet_call t mem lens lines node out)

  pub open_one_outcome : (index : ℕ) → OneChange (open_call t mem lens lines index)
  open_one_outcome index = one_change (open_call t mem lens lines index)

  pub close_one_outcome : (index : ℕ) → OneChange (close_call t mem lens lines index)
  close_one_outcome index = one_change (close_call t mem lens lines index)

  pub transfer_one_outcome : (index : ℕ) (unit : List ℕ) → OneOutcome (transfer_call t mem lens lines index unit)
  transfer_one_outcome index unit = one_outcome (transfer_call t mem lens lines index unit)

  pub take_one_outcome : (index : ℕ) (out : List ℕ) → OneOutcome (take_call t mem lens lines index out)
  take_one_outcome index out = one_outcome (take_call t mem lens lines index out)

  pub reclaim_one_outcome : (index : ℕ) (out : List ℕ) → OneOutcome (reclaim_call t mem lens lines index out)
  reclaim_one_outcome index out = one_outcome (reclaim_call t mem lens lines index out)

  pub tick_one_outcome : OneChange (ticked t mem lens lines)
  tick_one_outcome = one_change (ticked t mem lens lines)
