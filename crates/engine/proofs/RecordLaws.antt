-- Laws of what a record of a trace asks: the octets handed over begin within its body; a tick, and every other kind.
-- Assumes nothing.
use mathlib.Core.Path.{◌≡◌, refl, sym, ap, ◌∙◌}
use mathlib.Core.Bool.{Bool, true, false}
use mathlib.Core.List.{List}
use Prim.Native.Nat.{ℕ, ◌≤◌}
use native.Mathlib.Omega.{arith}
use borrow.Author.Tests.{eq-eqb, ne_eqb, eqb-false}
use lib.Dec.{eqb}
use lib.ListN.{length, drop}
use Rattle.std.specs.Prelude.{if◌then◌else◌}
use Rattle.laws.proofs.Choice.{chosen, passed_by}
use Rattle.walks.specs.Serving.{Changed, leaves, changes, telling}
use Rattle.channel.specs.declared.record.Node.{Node}
use Rattle.channel.specs.declared.record.Channel.{Channel}
use Rattle.table.specs.declared.deciding.Told.{Told}
use Rattle.table.specs.Serving.{told_of}
use Rattle.ticks.specs.Ticks.{ticked, tick_index}
use Rattle.engine.specs.Asking.{request_of, octets_from}
use Rattle.engine.specs.Records.{ticking, serving, replayed}

-- ---- the octets that are handed over

module _ (kind : ℕ) (body : List ℕ) where
  pub from_inside : octets_from kind body ≤ length body
  unfolding octets_from
  from_inside = go (eqb kind 1) (eqb (length body) 0) refl
    where
      go : (a b : Bool) → eqb (length body) 0 ≡ b → (if a then 0 else if eqb (length body) 0 then 0 else 1) ≤ length body
      go true b e = omega arith
      go false true e = simp (e) (omega arith)
      go false false e = let n = eqb-false (length body) 0 e in simp (e) (omega (arith, n))

-- ---- the call

module _ (t : List Channel) (mem lens lines : List ℕ) (node : Node) (kind : ℕ) (body out : List ℕ) where
  pub replays_tick : (a : Told) (u : List Channel) (i : List ℕ)
      → kind ≡ 2
      → changes a u i ≡ telling (told_of (tick_index t mem lens lines)) (ticked t mem lens lines)
      → leaves a u mem lens i out ≡ replayed t mem lens lines node kind body out
  unfolding replayed
  replays_tick a u i k e =
      ap (λ (x : Changed Told Channel). leaves x.answer x.table mem lens x.lines out) e
      ∙ sym (chosen (eqb kind 2) (ticking t mem lens lines out) (serving t mem lens lines (request_of kind body node) (drop (octets_from kind body) body) out) (eq-eqb kind 2 k))

  pub replays_other : (kind ≡ 2 → ⊥) → serving t mem lens lines (request_of kind body node) (drop (octets_from kind body) body) out ≡ replayed t mem lens lines node kind body out
  unfolding replayed
  replays_other n =
      sym (passed_by (eqb kind 2) (ticking t mem lens lines out) (serving t mem lens lines (request_of kind body node) (drop (octets_from kind body) body) out) (ne_eqb kind 2 n))
