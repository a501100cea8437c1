-- What a call that serves one record ensures, said by equations of records (`specs/Serving.antt`), in the form that the walks take. The step
-- makes F, the whole call makes G, which is what all make together (`agree`); begin makes B, survey Sv, and decide Dc.
--     calling          of `Call.antt`
--     true Asks may                what the step requires, and that it may be called; where it has no `requires`,
--                                  `false (λ c d n m l li x o. Unit {0}) (λ ys m l li n x o h. tt)`
-- Assumes nothing.
use mathlib.Core.Path.{◌≡◌, sym, ap, subst, ◌∙◌}
use mathlib.Core.Bool.{Bool, true}
use mathlib.Core.List.{List}
use Prim.Native.Nat.{ℕ, ◌<◌, ◌≤◌}
use lib.Dec.{ltb}
use lib.ListN.{length, get_or, set}
use borrow.Author.Tests.{lt-ltb, le-ltb}
use denote.RattleType.{RattleType}
use Rattle.walks.specs.Serving.{Roles, Performed, Called, performs, leaves, served_by, serving}
use Rattle.walks.proofs.Served.{Served}
use Rattle.walks.proofs.Call as Call

-- ---- the two cases of a call: the decision is an index of the table, or it is none
module _ {C N S D : Type 0} (R : Roles C N S D) where
  pub within : (d : D) (ys : List C) (m l li o : List ℕ) (r : S) (ms ls is os : List ℕ) (w : Performed S) → R.at d < length ys → performs r ms ls is os ≡ w → leaves (R.said r) (set ys (R.at d) (R.stored r)) ms ls is os ≡ served_by R (ltb (R.at d) (length ys)) d ys m l li o w
  unfolding served_by
  within d ys m l li o r ms ls is os w h e = ap (λ (z : Performed S). served_by R true d ys m l li o z) e ∙ ap (λ (z : Bool). served_by R z d ys m l li o w) (sym (lt-ltb (R.at d) (length ys) h))

  pub beyond : (d : D) (ys : List C) (m l li o : List ℕ) (w : Performed S) → length ys ≤ R.at d → leaves (R.unserved d) ys m l li o ≡ served_by R (ltb (R.at d) (length ys)) d ys m l li o w
  unfolding served_by
  beyond d ys m l li o w h = ap (λ (z : Bool). served_by R z d ys m l li o w) (sym (le-ltb (R.at d) (length ys) h))

module _ (K : Served) where
  abbrev pub C : Type 0
  C = K.channel.row.Denot

  abbrev pub N : Type 0
  N = K.answer.row.Denot

  abbrev pub S : Type 0
  S = K.outcome.row.Denot

  abbrev pub D : Type 0
  D = K.decision.row.Denot

  abbrev pub roles : Roles C N S D
  roles = record { at = K.at.part; unserved = K.unserved.part; stored = K.stored.part; said = K.said.part; blank = K.blank }

  module _ (P Y : RattleType) (Sv : List C → List ℕ → Y.Denot → Y.Denot) (Dc : Y.Denot → ℕ → ℕ → ℕ → D) where
    -- ---- a step over lent slices
    module _ (B : List ℕ → P.Denot → List ℕ → ℕ → Y.Denot) where
      abbrev pub chosen : List C → List ℕ → List ℕ → List ℕ → P.Denot → List ℕ → List ℕ → D
      chosen ys m l li n x o = Dc (Sv ys l (B li n x (length o))) (length ys) (length m) (length l)

      pub chosen_is : (ys : List C) (m l li : List ℕ) (n : P.Denot) (x o : List ℕ) (a v : Y.Denot) (d : D) → a ≡ B li n x (length o) → v ≡ Sv ys l a → d ≡ Dc v (length ys) (length m) (length l) → d ≡ chosen ys m l li n x o
      chosen_is ys m l li n x o a v d ea ev ed = ed ∙ ap (λ (z : Y.Denot). Dc z (length ys) (length m) (length l)) (ev ∙ ap (λ (z : Y.Denot). Sv ys l z) ea)

      module _ (asks : Bool) (Asks : C → D → P.Denot → List ℕ → List ℕ → List ℕ → List ℕ → List ℕ → Type 0)
          (may : (ys : List C) (m l li : List ℕ) (n : P.Denot) (x o : List ℕ) → K.at.part (chosen ys m l li n x o) < length ys → Asks (get_or ys (K.at.part (chosen ys m l li n x o)) K.blank) (chosen ys m l li n x o) n m l li x o)
          (F : C → D → P.Denot → List ℕ → List ℕ → List ℕ → List ℕ → List ℕ → Performed S) (G : List C → List ℕ → List ℕ → List ℕ → P.Denot → List ℕ → List ℕ → Called N C)
          (agree : (ys : List C) (m l li : List ℕ) (n : P.Denot) (x o : List ℕ) → serving roles F (chosen ys m l li n x o) ys m l li n x o ≡ G ys m l li n x o) where
        pub allowed : (ys : List C) (m l li : List ℕ) (n : P.Denot) (x o : List ℕ) (a v : Y.Denot) (d : D) → a ≡ B li n x (length o) → v ≡ Sv ys l a → d ≡ Dc v (length ys) (length m) (length l) → K.at.part d < length ys → Asks (get_or ys (K.at.part d) K.blank) d n m l li x o
        allowed ys m l li n x o a v d ea ev ed = subst (λ (z : D). K.at.part z < length ys → Asks (get_or ys (K.at.part z) K.blank) z n m l li x o) (sym (chosen_is ys m l li n x o a v d ea ev ed)) (may ys m l li n x o)

        pub together : (ys : List C) (m l li : List ℕ) (n : P.Denot) (x o : List ℕ) (a v : Y.Denot) (d : D) → a ≡ B li n x (length o) → v ≡ Sv ys l a → d ≡ Dc v (length ys) (length m) (length l) → serving roles F d ys m l li n x o ≡ G ys m l li n x o
        together ys m l li n x o a v d ea ev ed = ap (λ (z : D). serving roles F z ys m l li n x o) (chosen_is ys m l li n x o a v d ea ev ed) ∙ agree ys m l li n x o

        abbrev pub calling : Call.Says K P Y
        calling = record {
          Begins = λ li n x k a. a ≡ B li n x k;
          Surveys = λ ys l a v. v ≡ Sv ys l a;
          Decides = λ v n m l d. d ≡ Dc v n m l;
          asks = asks;
          Asks = Asks;
          Steps = λ c d n m l li x o r m' l' li' o'. performs r m' l' li' o' ≡ F c d n m l li x o;
          Calls = λ ys m l li n x o r zs m' l' li' o'. leaves r zs m' l' li' o' ≡ G ys m l li n x o;
          may = allowed;
          serves = λ ys m l li n x o a v d r m' l' li' o' ea ev ed h e. within roles d ys m l li o r m' l' li' o' (F (get_or ys (K.at.part d) K.blank) d n m l li x o) h e ∙ together ys m l li n x o a v d ea ev ed;
          refuses = λ ys m l li n x o a v d ea ev ed h. beyond roles d ys m l li o (F (get_or ys (K.at.part d) K.blank) d n m l li x o) h ∙ together ys m l li n x o a v d ea ev ed;
        }
