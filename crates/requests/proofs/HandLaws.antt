-- In whom a packet is ready.
-- Assumes nothing.
use mathlib.Core.Path.{◌≡◌, ap, ◌∙◌, subst}
use mathlib.Core.Bool.{true}
use mathlib.Core.List.{List}
use Prim.Native.Nat.{ℕ, ◌<◌}
use Rattle.channel.specs.declared.record.Channel.{Channel}
use Rattle.sender_packets.specs.Asked.{Ready}
use Rattle.table.specs.Waiting.{waits, grade_at, rank_in}
use Rattle.table.proofs.WaitingLaws.{waits_ready, rank_known, turn_is}

module _ (i : ℕ) (c : Channel) (lines : List ℕ) (grade : ℕ) (e : grade ≡ grade_at i c lines) (h : grade < 48) where
  -- whose turn it is, waits
  pub turn_waits : waits (rank_in grade) c ≡ true
  turn_waits = ap (λ (g : ℕ). waits (rank_in g) c) e ∙ (turn_is i c lines (subst (λ (g : ℕ). g < 48) e h)).waiting.is_ready_lem

  -- and a packet of the rank is ready in it
  pub ready_is : Ready c (rank_in grade)
  ready_is = record { is = waits_ready c (rank_in grade) turn_waits; some = rank_known grade }
