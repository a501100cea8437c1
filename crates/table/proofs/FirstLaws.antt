-- The survey of the records that are looked at is that of all: the 17th makes it unsound, and nothing after that counts.
-- Assumes nothing.
use mathlib.Core.Path.{◌≡◌, sym, ap, subst, ◌∙◌}
use mathlib.Core.Bool.{false}
use mathlib.Core.List.{List}
use Prim.Native.Nat.{ℕ, ◌≤◌, ◌<◌}
use lib.ListN.{length, take}
use Rattle.laws.proofs.Choice.{either_way}
use Rattle.walks.specs.Fold.{fold_from}
use Rattle.walks_sweeping.proofs.First.{first_count}
use Rattle.channel.specs.declared.record.Channel.{Channel}
use Rattle.table.specs.declared.surveying.Survey.{Survey}
use Rattle.table.specs.Surveying.{survey_one, surveyed, looked_at}
use Rattle.table.proofs.OneLaws.{one_spoilt, one_many}
use Rattle.table.proofs.Looked.{looked_enough}

module _ (lens : List ℕ) where
  spoils : (v : Survey) (c : Channel) (j : ℕ) → 16 ≤ j → (survey_one v c lens j).sound ≡ false
  spoils v c j h = either_way v.sound (λ e. ap (λ (w : Survey). w.sound) (one_many v c lens j e h)) (λ e. ap (λ (w : Survey). w.sound) (one_spoilt v c lens j e) ∙ e)

  pub first_surveyed : (t : List Channel) (v : Survey) (k : ℕ) → k ≡ looked_at (length t) → fold_from survey_one lens 0 v (take k t) ≡ surveyed t lens v
  first_surveyed t v k e =
      first_count survey_one lens (λ w. w.sound ≡ false) 16 (λ w c j. one_spoilt w c lens j) spoils v t k
      (subst (λ (n : ℕ). n < length t → 16 < n) (sym e) (looked_enough (length t)))
