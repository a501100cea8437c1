-- What a call that is done only where a test holds ensures, said by equations of records (`specs/Serving.antt`'s `done_by`), in the form that the
-- walks take.
--     sweeping     of `Sweeping.antt`, over an instance of `Sweep.antt`: of the lines begin makes B and start St; survey makes Sv, judge
--                  Jd, the sweep is by F, conclude makes Cn and leaves the lines as Cl, and the call G, which is what they make together
--                  (`agree`)
--     making       of `Making.antt`, over an instance of `Afresh.antt`: the same, with the table made by F of each of s. The test has that there
--                  are as many of s as records (`may`)
-- Assumes nothing.
use mathlib.Core.Path.{◌≡◌, sym, ap, subst, ◌∙◌}
use mathlib.Core.Bool.{Bool, true}
use mathlib.Core.List.{List, map}
use Prim.Native.Nat.{ℕ}
use lib.ListN.{length}
use denote.RattleType.{RattleType}
use Rattle.walks.specs.Sweep.{sweep_t, sweep_a, Every}
use Rattle.walks.specs.Serving.{Changed, changes, done_by}
use Rattle.walks.proofs.Guard.{did, undone}
use Rattle.walks.proofs.Plain.{Kind, of, Has}
use Rattle.walks.proofs.Served.{Tested}
use Rattle.walks_sweeping.proofs.Sweeping as Sweeping
use Rattle.walks_sweeping.proofs.Making as Making

module _ (K : Tested) where
  abbrev pub C : Type 0
  C = K.channel.row.Denot

  abbrev pub N : Type 0
  N = K.answer.row.Denot

  abbrev pub J : Type 0
  J = K.verdict.row.Denot

  -- the call, by its verdict
  abbrev pub by_verdict : J → List C → List ℕ → Changed N C → Changed N C
  by_verdict d ys li w = done_by (K.refusal.part d) (K.holds.part d) ys li w

  module _ (Y : RattleType) (KQ KS : Kind) (stored : Has KS K.channel) (carried : Has KS KQ) (blank : C) (B : List ℕ → Y.Denot) (Sv : List C → List ℕ → Y.Denot → Y.Denot) (Jd : Y.Denot → ℕ → ℕ → ℕ → J) (St : List ℕ → KQ.row.Denot)
      (asked : Bool) (Asks : C → Type 0) (F : C → KQ.row.Denot → KS.row.Denot) (Cn : KQ.row.Denot → N) (Cl : KQ.row.Denot → List ℕ → List ℕ) (G : List C → List ℕ → List ℕ → List ℕ → Changed N C)
      (may : (ys : List C) (m l li : List ℕ) → K.holds.part (Jd (Sv ys l (B li)) (length ys) (length m) (length l)) ≡ true → Every blank Asks ys)
      (agree : (ys : List C) (m l li : List ℕ) → by_verdict (Jd (Sv ys l (B li)) (length ys) (length m) (length l)) ys li (changes (Cn (sweep_a stored.part carried.part F ys (St li))) (sweep_t stored.part carried.part F ys (St li)) (Cl (sweep_a stored.part carried.part F ys (St li)) li)) ≡ G ys m l li) where
    pub judged_is : (ys : List C) (m l li : List ℕ) (a v : Y.Denot) (d : J) → a ≡ B li → v ≡ Sv ys l a → d ≡ Jd v (length ys) (length m) (length l) → Jd (Sv ys l (B li)) (length ys) (length m) (length l) ≡ d
    judged_is ys m l li a v d ea ev ed = sym (ed ∙ ap (λ (z : Y.Denot). Jd z (length ys) (length m) (length l)) (ev ∙ ap (λ (z : Y.Denot). Sv ys l z) ea))

    pub swept : (ys : List C) (m l li : List ℕ) (d : J) → Jd (Sv ys l (B li)) (length ys) (length m) (length l) ≡ d → by_verdict d ys li (changes (Cn (sweep_a stored.part carried.part F ys (St li))) (sweep_t stored.part carried.part F ys (St li)) (Cl (sweep_a stored.part carried.part F ys (St li)) li)) ≡ G ys m l li
    swept ys m l li d e = subst (λ (z : J). by_verdict z ys li (changes (Cn (sweep_a stored.part carried.part F ys (St li))) (sweep_t stored.part carried.part F ys (St li)) (Cl (sweep_a stored.part carried.part F ys (St li)) li)) ≡ G ys m l li) e (agree ys m l li)

    -- what is carried at last, by what start makes
    pub carried_is : (ys : List C) (li : List ℕ) (k z : KQ.row.Denot) → k ≡ St li → z ≡ sweep_a stored.part carried.part F ys k → z ≡ sweep_a stored.part carried.part F ys (St li)
    carried_is ys li k z ek e = e ∙ ap (λ (w : KQ.row.Denot). sweep_a stored.part carried.part F ys w) ek

    abbrev pub sweeping : Sweeping.Says K Y (of KQ)
    sweeping = record {
      Begins = λ li a. a ≡ B li;
      Surveys = λ ys l a v. v ≡ Sv ys l a;
      Judges = λ v n m l d. d ≡ Jd v n m l;
      Starts = λ li k. k ≡ St li;
      asks = asked;
      Asks = λ ys. Every blank Asks ys;
      Sweeps = λ ys k z zs. (z ≡ sweep_a stored.part carried.part F ys k) × (zs ≡ sweep_t stored.part carried.part F ys k);
      Concludes = λ z li r li'. (r ≡ Cn z) × (li' ≡ Cl z li);
      Calls = λ ys m l li r zs li'. changes r zs li' ≡ G ys m l li;
      may = λ ys m l li a v d ea ev ed h. may ys m l li (ap (λ (z : J). K.holds.part z) (judged_is ys m l li a v d ea ev ed) ∙ h);
      does = λ ys m l li a v d k z zs r li' ea ev ed h ek e er.
          ap (λ (w : N). changes w zs li') (er.0 ∙ ap Cn (carried_is ys li k z ek e.0))
          ∙ ap (λ (w : List C). changes (Cn (sweep_a stored.part carried.part F ys (St li))) w li') (e.1 ∙ ap (λ (w : KQ.row.Denot). sweep_t stored.part carried.part F ys w) ek)
          ∙ ap (λ (w : List ℕ). changes (Cn (sweep_a stored.part carried.part F ys (St li))) (sweep_t stored.part carried.part F ys (St li)) w) (er.1 ∙ ap (λ (w : KQ.row.Denot). Cl w li) (carried_is ys li k z ek e.0))
          ∙ did (K.refusal.part d) (K.holds.part d) ys li _ h ∙ swept ys m l li d (judged_is ys m l li a v d ea ev ed);
      refuses = λ ys m l li a v d ea ev ed h. undone (K.refusal.part d) (K.holds.part d) ys li _ h ∙ swept ys m l li d (judged_is ys m l li a v d ea ev ed);
    }

  module _ (X Y : RattleType) (B : List ℕ → Y.Denot) (Sv : List X.Denot → List ℕ → Y.Denot → Y.Denot) (Jd : Y.Denot → ℕ → ℕ → ℕ → ℕ → J) (F : X.Denot → C) (Cn : ℕ → N) (Cl : ℕ → List ℕ → List ℕ) (G : List C → List ℕ → List ℕ → List ℕ → List X.Denot → Changed N C)
      (may : (ys : List C) (m l li : List ℕ) (xs : List X.Denot) → K.holds.part (Jd (Sv xs l (B li)) (length ys) (length xs) (length m) (length l)) ≡ true → length ys ≡ length xs)
      (agree : (ys : List C) (m l li : List ℕ) (xs : List X.Denot) → by_verdict (Jd (Sv xs l (B li)) (length ys) (length xs) (length m) (length l)) ys li (changes (Cn (length xs)) (map F xs) (Cl (length xs) li)) ≡ G ys m l li xs) where
    pub settled_is : (ys : List C) (m l li : List ℕ) (xs : List X.Denot) (a v : Y.Denot) (d : J) → a ≡ B li → v ≡ Sv xs l a → d ≡ Jd v (length ys) (length xs) (length m) (length l) → Jd (Sv xs l (B li)) (length ys) (length xs) (length m) (length l) ≡ d
    settled_is ys m l li xs a v d ea ev ed = sym (ed ∙ ap (λ (z : Y.Denot). Jd z (length ys) (length xs) (length m) (length l)) (ev ∙ ap (λ (z : Y.Denot). Sv xs l z) ea))

    pub made : (ys : List C) (m l li : List ℕ) (xs : List X.Denot) (d : J) → Jd (Sv xs l (B li)) (length ys) (length xs) (length m) (length l) ≡ d → by_verdict d ys li (changes (Cn (length xs)) (map F xs) (Cl (length xs) li)) ≡ G ys m l li xs
    made ys m l li xs d e = subst (λ (z : J). by_verdict z ys li (changes (Cn (length xs)) (map F xs) (Cl (length xs) li)) ≡ G ys m l li xs) e (agree ys m l li xs)

    abbrev pub making : Making.Says K X Y
    making = record {
      Begins = λ li a. a ≡ B li;
      Surveys = λ xs l a v. v ≡ Sv xs l a;
      Judges = λ v n k m l d. d ≡ Jd v n k m l;
      asks = true;
      Asks = λ ys xs. length ys ≡ length xs;
      Fills = λ ys xs n zs. (n ≡ length xs) × (zs ≡ map F xs);
      Concludes = λ n li r li'. (r ≡ Cn n) × (li' ≡ Cl n li);
      Calls = λ ys m l li xs r zs li'. changes r zs li' ≡ G ys m l li xs;
      may = λ ys m l li xs a v d ea ev ed h. may ys m l li xs (ap (λ (z : J). K.holds.part z) (settled_is ys m l li xs a v d ea ev ed) ∙ h);
      does = λ ys m l li xs a v d n zs r li' ea ev ed h e er.
          ap (λ (w : N). changes w zs li') (er.0 ∙ ap Cn e.0) ∙ ap (λ (w : List C). changes (Cn (length xs)) w li') e.1 ∙ ap (λ (w : List ℕ). changes (Cn (length xs)) (map F xs) w) (er.1 ∙ ap (λ (w : ℕ). Cl w li) e.0)
          ∙ did (K.refusal.part d) (K.holds.part d) ys li _ h ∙ made ys m l li xs d (settled_is ys m l li xs a v d ea ev ed);
      refuses = λ ys m l li xs a v d ea ev ed h. undone (K.refusal.part d) (K.holds.part d) ys li _ h ∙ made ys m l li xs d (settled_is ys m l li xs a v d ea ev ed);
    }
