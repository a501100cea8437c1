-- What the walks of the calls that survey a table and decide by it share (`Call.antt`, `Sweeping.antt`,
-- `Making.antt`): the contract of the survey and its call as one step of a walk, and what the decision says.
--     Survey          the contract of a survey: by the records, lens and what is carried at first, what is carried at last
--     surveys_shr     it is called; the records and lens are each a `&`, which is passed
--     surveys_one     the same; the records are a `&mut`, lent for this call and back after it, and lens is a `&`, which is kept too
--     surveys_both    the same; both are a `&mut`, lent for this call and back after it
--     deciding        of a decision: by what is carried and three lengths, plain data (the index that is served, or a verdict). `ByValue.antt`
--                     has its contract and its call
-- In these steps the operands are found behind the items that stand for what is passed and lent then, whatever these are.
-- Assumes nothing: `Logic`, the laws of a model, is an argument.
use Rattle.walks.proofs.Walk.{List, [], ◌∷◌, ℕ, length, Ura, named, w16, w64, ent, emp, Lft, GName, Share, ftrue, flft, Env, Item, runs, ‵, raw, ◌⊛◌, ⋆, ◌$◌, ◌∵◌, !, qed, use1, move, drop, group, split, join, fjoin, frame, done, Is, u16, slice_val, plain, shr_slice_of, nothing, owned, heard, triple_of, Contract, Triple, yes, Callee, Body, seq, call, id⊢, fact, RattleType, shr_slice_copy, Clauses, Ended, closing}
use types.Logic.{Logic}
use types.Kit.{lands, Post, Seq}
use types.Run.{Opds}
use prog.Wp.{Calls, Loops}
use sound.WpLaws.{FmC}
use package.mir.Syntax.{Place, Opd as Operand}
use denote.Plain.{uint_row_laws}
use Rattle.walks.proofs.Tab.{Elem, uint_elem, xs_in, shr_at, mut_at, calls_plain}
use Rattle.walks.proofs.Lend.{shares_on, unshares}
use Rattle.walks.proofs.Plain.{Kind, of, uint}
use Rattle.walks.proofs.ByValue.{ByValue, always}

-- ---- the contracts
module _ (R : RattleType) (KY : Kind) where
  abbrev surveys : Ended
  surveys = record { signature = record { lifetimes = 2; outlives = []; params = shr_slice_of (0 ∷ []) tt (plain (λ _. R)) ∷ shr_slice_of (1 ∷ []) tt (plain (λ _. u16)) ∷ plain (λ _. of KY) ∷ []; result = plain (λ _. of KY) }; kept = (yes, (yes, (yes, tt))) }

  abbrev Surveying : Type 1
  Surveying = List R.Denot → List ℕ → (of KY).Denot → (of KY).Denot → Type 0

  module _ (Surveys : Surveying) {M : Type 1} (𝓤 : Ura M) where
    abbrev survey_says : Clauses 𝓤 surveys
    survey_says κs a = record { ghost = Unit {0}; requires = λ _. emp 𝓤; ensures = λ _ r e. fact 𝓤 (Surveys a.0.now a.1.0.now a.1.1.0 r) }

    abbrev pub Survey : (𝓛 : Logic 𝓤) → Contract 𝓤
    Survey 𝓛 = triple_of 𝓛 surveys.signature (closing 𝓛 surveys survey_says)

abbrev pub deciding : (KY KD : Kind) → ((of KY).Denot → ℕ → ℕ → ℕ → (of KD).Denot → Type 0) → ByValue
deciding KY KD Decides = always (KY ∷ uint w64 ∷ uint w64 ∷ uint w64 ∷ []) KD (λ a r. Decides a.0 a.1.0 a.1.1.0 a.1.1.1.0 r)

-- ---- what a survey is passed
module _ (R : RattleType) (KY : Kind) (Surveys : Surveying R KY) {M : Type 1} {𝓤 : Ura M} (𝓛 : Logic 𝓤) (κ κ₁ : Lft) (q q₁ : Share) (b o b₁ o₁ : ℕ) (ys : List R.Denot) (ln : List ℕ) (a : (of KY).Denot) where
  abbrev to_survey : (Survey R KY Surveys 𝓤 𝓛).Ghost
  to_survey = (((κ, (κ₁, tt)), (q, (q₁, tt)), tt, (xs_in R b o ys, (xs_in u16 b₁ o₁ ln, (a, tt))), (slice_val (b, o) (length ys) ∷ [], (slice_val (b₁, o₁) (length ln) ∷ [], (KY.elem.val a ∷ [], tt)))), tt)

  asks_survey : Is (of KY) a (KY.elem.val a ∷ []) → ent 𝓤 (⋆ 𝓛 (‵ (shr_at R κ b o ys) ∷ ‵ (flft κ q) ∷ ‵ (shr_at u16 κ₁ b₁ o₁ ln) ∷ ‵ (flft κ₁ q₁) ∷ [])) ((Survey R KY Surveys 𝓤 𝓛).pre to_survey)
  asks_survey is = qed 𝓛 (‵ (shr_at R κ b o ys) ∷ ‵ (flft κ q) ∷ ‵ (shr_at u16 κ₁ b₁ o₁ ln) ∷ ‵ (flft κ₁ q₁) ∷ []) ∵ nothing ! $ owned ! (of KY) (Is (of KY)) (KY.elem.makes 𝓛) a _ is $ fjoin ! $ move ! (3 ∷ 0 ∷ []) $ fjoin ! $ move ! (1 ∷ 0 ∷ []) $ fjoin ! $ nothing ! $ move ! (3 ∷ 0 ∷ []) $ join ! $ move ! (2 ∷ 0 ∷ []) $ join ! $ join ! $ frame ! $ done !

-- ---- the calls
module _ {M : Type 1} {𝓤 : Ura M} {𝓛 : Logic 𝓤} {J : Type 0} {Γ : List (Item 𝓤)} {E : Env 𝓤 𝓛.H} {C : Calls 𝓤 𝓛.H} {Λ : Loops 𝓤 𝓛.H} {f : Callee} {xs : List Operand} {d : Place} {rest : Body} {p : Post 𝓤 𝓛.H} where
  open 𝓛 use {H}

  pub surveys_shr : J → FmC 𝓤 H 𝓛.laws C → (R : RattleType) (KY : Kind) (Surveys : Surveying R KY) → Triple 𝓤 (C f) (Survey R KY Surveys 𝓤 𝓛)
      → {κ κ₁ : Lft} {q q₁ : Share} (b o b₁ o₁ : ℕ) (ys : List R.Denot) (ln : List ℕ) (a : (of KY).Denot) → Is (of KY) a (KY.elem.val a ∷ [])
      → ((x : Item 𝓤) → Opds J 𝓛 (x ∷ Γ) E xs (slice_val (b, o) (length ys) ∷ slice_val (b₁, o₁) (length ln) ∷ KY.elem.val a ∷ []))
      → ((v : (of KY).Denot) → Is (of KY) v (KY.elem.val v ∷ []) → Surveys ys ln a v → Seq J 𝓛 (‵ (flft κ q) ∷ ‵ (flft κ₁ q₁) ∷ Γ) (lands C Λ E d (KY.elem.val v) rest p))
      → Seq J 𝓛 (‵ (shr_at R κ b o ys) ∷ ‵ (flft κ q) ∷ ‵ (shr_at u16 κ₁ b₁ o₁ ln) ∷ ‵ (flft κ₁ q₁) ∷ Γ) (runs C Λ E (seq (call f xs d) rest) p)
  surveys_shr t fm R KY Surveys met {κ} {κ₁} {q} {q₁} b o b₁ o₁ ys ln a is os k =
      group t 4 $ use1 𝓛 (raw ((Survey R KY Surveys 𝓤 𝓛).pre (to_survey R KY Surveys 𝓛 κ κ₁ q q₁ b o b₁ o₁ ys ln a))) (asks_survey R KY Surveys 𝓛 κ κ₁ q q₁ b o b₁ o₁ ys ln a is) $
      calls_plain t fm (surveys R KY) (survey_says R KY Surveys 𝓤) met (to_survey R KY Surveys 𝓛 κ κ₁ q q₁ b o b₁ o₁ ys ln a) KY.elem (os _) (λ v ws iv.
      move t (2 ∷ []) $ heard t (Surveys ys ln a v) (λ e. use1 𝓛 (‵ (flft κ q) ⊛ ‵ (flft κ₁ q₁) ⊛ ‵ ftrue) (id⊢ 𝓤 _) $ split t $ move t (1 ∷ []) $ split t $ move t (1 ∷ []) $ drop t $ move t (2 ∷ []) $ drop t $ move t (1 ∷ 0 ∷ []) $ k v iv e))

module _ {M : Type 1} {𝓤 : Ura M} {𝓛 : Logic 𝓤} {J : Type 0} {Γ : List (Item 𝓤)} {E : Env 𝓤 𝓛.H} {C : Calls 𝓤 𝓛.H} {Λ : Loops 𝓤 𝓛.H} {f : Callee} {xs : List Operand} {d : Place} {rest : Body} {p : Post 𝓤 𝓛.H} where
  open 𝓛 use {H}

  pub surveys_one : J → FmC 𝓤 H 𝓛.laws C → {R : RattleType} (ER : Elem R) (KY : Kind) (Surveys : Surveying R KY) → Triple 𝓤 (C f) (Survey R KY Surveys 𝓤 𝓛)
      → {κ κ₁ : Lft} {q q₁ : Share} (b o b₁ o₁ : ℕ) {γ : GName} (ys : List R.Denot) (ln : List ℕ) (a : (of KY).Denot) → Is (of KY) a (KY.elem.val a ∷ [])
      → ((x y z : Item 𝓤) → Opds J 𝓛 (x ∷ y ∷ z ∷ Γ) E xs (slice_val (b, o) (length ys) ∷ slice_val (b₁, o₁) (length ln) ∷ KY.elem.val a ∷ []))
      → ((v : (of KY).Denot) → Is (of KY) v (KY.elem.val v ∷ []) → Surveys ys ln a v
      → Seq J 𝓛 (‵ (mut_at R κ b o γ ys) ∷ ‵ (flft κ q) ∷ ‵ (shr_at u16 κ₁ b₁ o₁ ln) ∷ ‵ (flft κ₁ q₁) ∷ Γ) (lands C Λ E d (KY.elem.val v) rest p))
      → Seq J 𝓛 (‵ (mut_at R κ b o γ ys) ∷ ‵ (flft κ q) ∷ ‵ (shr_at u16 κ₁ b₁ o₁ ln) ∷ ‵ (flft κ₁ q₁) ∷ Γ) (runs C Λ E (seq (call f xs d) rest) p)
  surveys_one t fm {R} ER KY Surveys met {κ} {κ₁} {q} {q₁} b o b₁ o₁ {γ} ys ln a is os k =
      shares_on t tt ER b o ys (slice_val (b, o) (length ys) ∷ []) (λ ν room. move t (3 ∷ []) $
      use1 𝓛 (‵ (shr_at u16 κ₁ b₁ o₁ ln) ⊛ ‵ (shr_at u16 κ₁ b₁ o₁ ln))
      ((shr_slice_copy 𝓛 (named 1) κ₁ u16 (uint_row_laws w16)).twice (xs_in u16 b₁ o₁ ln) (slice_val (b₁, o₁) (length ln) ∷ [])) $ split t $ move t (2 ∷ 3 ∷ 0 ∷ 5 ∷ []) $
      -- [the records, lens, each with its token; lens again; what is kept of the records]
      surveys_shr t fm R KY Surveys met b o b₁ o₁ ys ln a is (λ x. os x _ _) (λ v iv e. move t (0 ∷ 3 ∷ []) $ unshares t tt R b o ys (slice_val (b, o) (length ys) ∷ []) room $ move t (0 ∷ 1 ∷ 3 ∷ 2 ∷ []) $ k v iv e))

  pub surveys_both : J → FmC 𝓤 H 𝓛.laws C → {R : RattleType} (ER : Elem R) (KY : Kind) (Surveys : Surveying R KY) → Triple 𝓤 (C f) (Survey R KY Surveys 𝓤 𝓛)
      → {κ κ₁ : Lft} {q q₁ : Share} (b o b₁ o₁ : ℕ) {γ γ₁ : GName} (ys : List R.Denot) (ln : List ℕ) (a : (of KY).Denot) → Is (of KY) a (KY.elem.val a ∷ [])
      → ((x y z : Item 𝓤) → Opds J 𝓛 (x ∷ y ∷ z ∷ Γ) E xs (slice_val (b, o) (length ys) ∷ slice_val (b₁, o₁) (length ln) ∷ KY.elem.val a ∷ []))
      → ((v : (of KY).Denot) → Is (of KY) v (KY.elem.val v ∷ []) → Surveys ys ln a v
      → Seq J 𝓛 (‵ (mut_at R κ b o γ ys) ∷ ‵ (flft κ q) ∷ ‵ (mut_at u16 κ₁ b₁ o₁ γ₁ ln) ∷ ‵ (flft κ₁ q₁) ∷ Γ) (lands C Λ E d (KY.elem.val v) rest p))
      → Seq J 𝓛 (‵ (mut_at R κ b o γ ys) ∷ ‵ (flft κ q) ∷ ‵ (mut_at u16 κ₁ b₁ o₁ γ₁ ln) ∷ ‵ (flft κ₁ q₁) ∷ Γ) (runs C Λ E (seq (call f xs d) rest) p)
  surveys_both t fm {R} ER KY Surveys met b o b₁ o₁ ys ln a is os k =
      shares_on t tt ER b o ys (slice_val (b, o) (length ys) ∷ []) (λ ν room. move t (3 ∷ 4 ∷ []) $ shares_on t tt (uint_elem w16) b₁ o₁ ln (slice_val (b₁, o₁) (length ln) ∷ []) (λ ν₁ room₁. move t (3 ∷ 4 ∷ 0 ∷ 1 ∷ []) $
      surveys_shr t fm R KY Surveys met b o b₁ o₁ ys ln a is (λ x. os x _ _) (λ v iv e. move t (1 ∷ 2 ∷ []) $ unshares t tt u16 b₁ o₁ ln (slice_val (b₁, o₁) (length ln) ∷ []) room₁ $ move t (2 ∷ 3 ∷ []) $ unshares t tt R b o ys (slice_val (b, o) (length ys) ∷ []) room $ k v iv e)))
