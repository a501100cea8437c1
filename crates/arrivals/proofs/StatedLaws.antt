-- Laws of type 6: which end a packet of it is for, and that it leaves the memory and the lengths.
-- Assumes nothing.
use mathlib.Core.Path.{◌≡◌, refl, ◌∙◌}
use mathlib.Core.Bool.{Bool, true, false}
use mathlib.Core.List.{List, []}
use Prim.Native.Nat.{ℕ}
use borrow.Author.Tests.{eqb-true, eq-eqb}
use lib.Dec.{eqb}
use Rattle.std.specs.Prelude.{if◌then◌else◌}
use Rattle.laws.proofs.Choice.{chosen}
use Rattle.packet.specs.declared.fields.Fields.{Fields}
use Rattle.packet.specs.declared.kinds.Kind.TheVariants.{FlowControl}
use Rattle.packet.specs.Kinds.{kind_of}
use Rattle.channel.specs.declared.record.Addresses.{Addresses}
use Rattle.channel.specs.declared.record.Prefix.{Prefix}
use Rattle.channel.specs.Record.{sends, receives}
use Rattle.table.specs.Looking.{same}
use Rattle.table.proofs.OneLaws.{kind_finds}
use Rattle.walks.specs.Serving.{Worked, works}
use Rattle.channel.specs.declared.record.Node.{Node}
use Rattle.channel.specs.declared.record.Channel.{Channel}
use Rattle.channel.specs.declared.step.Stepped.{Stepped}
use Rattle.channel.specs.Flow.{flow_step, flow_ack_step}
use Rattle.receiver.specs.declared.acks.Acked.TheVariants as acked
use Rattle.arrivals.specs.Replying.{replying}
use Rattle.arrivals.specs.Arriving.{six_for}

-- what comes to a sender carries an octet
pub six_carries : (a : Addresses) (f : Fields) (x : ℕ) (q : Prefix) → same a f x q ≡ true → kind_of f.kind ≡ FlowControl → (a.direction ≡ receives → ⊥) → x ≡ 0 → ⊥
six_carries a f x q ours is sender none =
    sender (eqb-true _ _ (kind_finds a f x q FlowControl ours is) ∙ chosen (eqb x 0) receives sends (eq-eqb x 0 none))

-- type 6 leaves the memory and the lengths
pub six_quiet : (node : Node) (number stated : ℕ) (c : Channel) (mem lens out : List ℕ)
    → six_for node number stated c mem lens out ≡ works (six_for node number stated c [] [] out).made mem lens (six_for node number stated c [] [] out).out
six_quiet node number stated c mem lens out = go (eqb c.addresses.direction receives)
  where
    at : Bool → List ℕ → List ℕ → Worked Stepped
    at b m l = if b then works (flow_ack_step c number) m l out else replying node c acked.Flow number (flow_step c stated) m l out

    go : (b : Bool) → at b mem lens ≡ works (at b [] []).made mem lens (at b [] []).out
    go true = refl
    go false = refl
