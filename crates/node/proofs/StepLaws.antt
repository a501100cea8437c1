-- A step of the channel served, over the whole of what is lent: what it gives by its request, and what the call then leaves.
-- Assumes nothing.
use mathlib.Core.Path.{◌≡◌, refl, sym, ap, ap₂, ◌∙◌}
use mathlib.Core.Bool.{Bool, true, false}
use mathlib.Core.List.{List, []}
use Prim.Native.Nat.{ℕ}
use lib.Dec.{eqb}
use Rattle.std.specs.Prelude.{if◌then◌else◌}
use Rattle.walks.specs.Serving.{Worked, works, performs}
use Rattle.channel.specs.declared.record.Channel.{Channel}
use Rattle.channel.specs.declared.step.Stepped.{Stepped}
use Rattle.channel.specs.Record.{sends}
use Rattle.table.specs.declared.deciding.Decision.{Decision}
use Rattle.lines.specs.declared.ranks.Ranks.{Ranks}
use Rattle.table.specs.Waiting.{waiting_of, rank_in, moved_with, may_move, moved}
use Rattle.table.specs.Serving.{alone, told_of}
use Rattle.table.specs.Surveying.{stepping, placed}
use Rattle.table.proofs.Parts.{quiet}
use Rattle.requests.specs.Requests.{transfer_for}
use Rattle.node.specs.declared.request.Request.{Request}
use Rattle.node.specs.Calls.{step_for}

module _ (c : Channel) (d : Decision) (mem lens out : List ℕ) where
  -- the step of a request is that of its kind
  pub likewise : (n k : Request) (x : List ℕ) → n ≡ k → stepping (step_for k x) c d mem lens out ≡ stepping (step_for n x) c d mem lens out
  likewise n k x e = ap (λ (m : Request). stepping (step_for m x) c d mem lens out) (sym e)

  -- a step that changes the record alone
  pub by_value : (made : Channel → Stepped) (r : Stepped) → r ≡ made c → works r mem lens out ≡ stepping (alone made) c d mem lens out
  by_value made r e = ap (λ (x : Stepped). works x mem lens out) e ∙ quiet (alone made) c d mem lens out (made c) out refl

  -- a transfer leaves whatever buffer there is
  pub with_buffer : (unit : List ℕ) (r : Stepped) (m l : List ℕ)
      → works r m l [] ≡ stepping (transfer_for unit) c d mem lens []
      → works r m l out ≡ stepping (transfer_for unit) c d mem lens out
  unfolding transfer_for
  with_buffer unit r m l e = ap (λ (w : Worked Stepped). works w.made w.mem w.lens out) e ∙ go (eqb c.addresses.direction sends) refl
    where
      before : Worked Stepped
      before = stepping (transfer_for unit) c d mem lens []

      go : (b : Bool) → eqb c.addresses.direction sends ≡ b → works before.made before.mem before.lens out ≡ stepping (transfer_for unit) c d mem lens out
      go true p = simp (p)
      go false p = simp (p)

-- what a step has left, with the index told and the channel moved in the lines
pub placed_moved : (d : Decision) (lines : List ℕ) (s : Stepped) (m l li o : List ℕ) (rank : ℕ) (ranks : Ranks) (w : Worked Stepped)
    → li ≡ (if may_move s.answer then moved_with d.look.sought rank d.spot.at ranks lines else lines)
    → rank ≡ rank_in d.spot.grade
    → ranks ≡ waiting_of s.channel
    → works s m l o ≡ w
    → performs (record { channel = s.channel; told = told_of d.told.index s.answer }) m l li o ≡ placed d lines w
unfolding moved
placed_moved d lines s m l li o rank ranks w e k r h =
    ap (λ (x : List ℕ). performs (record { channel = s.channel; told = told_of d.told.index s.answer }) m l x o)
    (e ∙ ap₂ (λ (n : ℕ) (z : Ranks). if may_move s.answer then moved_with d.look.sought n d.spot.at z lines else lines) k r)
    ∙ ap (placed d lines) h
