-- WHAT THE WALKS OF THE FUNCTIONS THAT LEND ON ALL THAT THEY ARE LENT SHARE (`LentSweeping.antt`, `LentMaking.antt`, `Door.antt`). Whatever its parameters,
-- such a function passes them all, whole, to a call `perform` that has the same, and the answer to a covered function `turn`, and gives back what
-- `turn` gives. So what it is passed is what `perform` asks, and what `perform` leaves of it is what it has to leave: neither is taken apart.
--     Part             a parameter: its slot in a signature, its machine values, and that what it owns tells them
--     mut_slice, shr_slice, by_value     a `&mut [R]` and a `&[R]` at the lifetime numbered j, and a plain value
--     slots, rows, each    of a list of parameters: their slots, their types, and their machine values, one list for each
--     lent ps R        the signature with the parameters ps and a result of the type R, and each last value kept
--     Relates ps R     what may be ensured: a relation of the parameters on entry, the result, and the parameters at exit
--     Turned           the parameters, the kinds of the answer and of what is given; `turned`; what `perform` ensures, what this function ensures,
--                      and that the one gives the other
--     Perform, Turn    the contracts of `perform` and of `turn`, which ensures `r ≡ turned a`. Neither has a `requires`
--     Passed, Due      what this function is passed, and what it has to leave.        Had      what `perform` leaves, at its answer: the tokens, and `Last`
--     performs, turns  the two calls, as steps.        ends     the end of a walk
--     lent_meets       from a walk to the contract
-- Assumes nothing: `Logic`, the laws of a model, is an argument.
use Rattle.walks.proofs.Walk.{◌≡◌, refl, List, [], ◌∷◌, ℕ, Ura, named, Val, SProp, ent, emp, via, fst∗, Env, WpFn, Tables, Item, runs, ‵, raw, ◌⊛◌, ⋆, ◌$◌, ◌∵◌, !, qed, use0, use1, move, drop, split, join, fjoin, frame, done, fm_of, Is, shr_slice_vals, mut_slice_vals, mut_slice_Tells, shr_slice_Tells, plain, shr_slice_of, nothing, owned, heard, on_entry, triple_of, Contract, Triple, Lasts, lasts, says, yes}
use mathlib.Core.Path.{subst}
use base.Logic.{sep, comm∗, emp∗, ex_i}
use package.mir.Syntax.{Fn, Callee, Place, Opd as Operand, Body, seq, call}
use types.Logic.{Logic, sem}
use types.Kit.{Post, lands, some, mean, Seq, pick, regoal, show, updating, now as at_once}
use types.Run.{Opds}
use contract.Monad.{fact}
use contract.Lifetimes.{Lfts, Shares, Within, lft_at}
use denote.RattleType.{RattleType, Denots, Valss, flat}
use denote.Laws.{Ises, Are, Spells, valss, Tells, Tellss}
use denote.Signature.{Slot, mut_slice_of, types_at}
use denote.Steps.{said}
use denote.Triple.Entry.{alive}
use denote.Triple.End.{Outs, all}
use denote.Triple.Clauses.{Clauses, Ended, at_exit, ensured, closing}
use denote.Triple.Spec.{Back, Meets}
use Rattle.walks.proofs.Tab.{Elem, calls_plain}
use Rattle.walks.proofs.Plain.{Kind, of}

-- ---- the parameters
pub record Part (n : ℕ) : Type 2 where
  pub slot : Slot n
  pub vals : (κs : Lfts n) → (slot.row κs).Denot → List Val
  pub tells : (κs : Lfts n) → Tells (slot.row κs) (Is (slot.row κs)) (vals κs)

module _ {n : ℕ} where
  module _ (j : ℕ) (ok : Within n j) (R : RattleType) where
    abbrev pub mut_slice : Part n
    mut_slice = record { slot = mut_slice_of (j ∷ []) ok (plain (λ _. R)); vals = λ κs. mut_slice_vals; tells = λ κs. mut_slice_Tells (named j) (lft_at n j ok κs) R }

    abbrev pub shr_slice : Part n
    shr_slice = record { slot = shr_slice_of (j ∷ []) ok (plain (λ _. R)); vals = λ κs. shr_slice_vals; tells = λ κs. shr_slice_Tells (named j) (lft_at n j ok κs) R }

  abbrev pub by_value : Kind → Part n
  by_value K = record { slot = plain (λ _. of K); vals = λ κs x. K.elem.val x ∷ []; tells = λ κs. K.elem.tells }

  abbrev pub slots : List (Part n) → List (Slot n)
  slots [] = []
  slots (p ∷ ps) = p.slot ∷ slots ps

  module _ (κs : Lfts n) where
    abbrev pub rows : List (Part n) → List RattleType
    rows ps = types_at (slots ps) κs

    abbrev vals_of : (ps : List (Part n)) → Spells (rows ps)
    vals_of [] = tt
    vals_of (p ∷ ps) = (p.vals κs, vals_of ps)

    tells_of : (ps : List (Part n)) → Tellss (rows ps) (Ises (rows ps)) (vals_of ps)
    tells_of [] = tt
    tells_of (p ∷ ps) = (p.tells κs, tells_of ps)

  module _ (ps : List (Part n)) where
    abbrev pub lent : RattleType → Ended
    lent R = record { signature = record { lifetimes = n; outlives = []; params = slots ps; result = plain (λ _. R) }; kept = all yes (slots ps) }

    module _ (κs : Lfts n) where
      -- the parameters on entry, and as they are seen at exit
      abbrev pub Entry : Type 0
      Entry = Denots (rows κs ps)

      abbrev pub Exit : Type 0
      Exit = Outs κs (slots ps) (all yes (slots ps))

      -- their machine values, one list for each; all in a row; and what they show of the parameters
      abbrev pub each : Entry → Valss (rows κs ps)
      each a = valss (rows κs ps) (vals_of κs ps) a

      abbrev pub values : Entry → List Val
      values a = flat (rows κs ps) (each a)

      abbrev pub Shown : Entry → Type 0
      Shown a = Are (rows κs ps) (Ises (rows κs ps)) a (each a)

    abbrev pub Relates : RattleType → Type 1
    Relates R = (κs : Lfts n) → Entry κs → R.Denot → Exit κs → Type 0

    module _ {M : Type 1} (𝓤 : Ura M) (R : RattleType) (Z : Relates R) where
      abbrev pub ensuring : Clauses 𝓤 (lent R)
      ensuring κs a = record { ghost = Unit {0}; requires = λ _. emp 𝓤; ensures = λ _ r e. fact 𝓤 (Z κs a r e) }

      abbrev Call : (𝓛 : Logic 𝓤) → Contract 𝓤
      Call 𝓛 = triple_of 𝓛 (lent R).signature (closing 𝓛 (lent R) ensuring)

-- ---- the two that are called
pub record Turned (n : ℕ) : Type 2 where
  pub parts : List (Part n)
  pub answer : Kind
  pub result : Kind
  pub turned : answer.row.Denot → result.row.Denot
  pub before : Relates parts (of answer)
  pub after : Relates parts (of result)
  pub so : (κs : Lfts n) (a : Entry parts κs) (r : answer.row.Denot) (e : Exit parts κs) → before κs a r e → after κs a (turned r) e

module _ {n : ℕ} (L : Turned n) where
  abbrev N : RattleType
  N = of L.answer

  abbrev EN : Elem N
  EN = L.answer.elem

  abbrev B : RattleType
  B = of L.result

  abbrev EB : Elem B
  EB = L.result.elem

  abbrev asked : Ended
  asked = record { signature = record { lifetimes = 0; outlives = []; params = plain (λ _. N) ∷ []; result = plain (λ _. B) }; kept = (yes, tt) }

  module _ {M : Type 1} (𝓤 : Ura M) where
    abbrev turn_says : Clauses 𝓤 asked
    turn_says κs a = record { ghost = Unit {0}; requires = λ _. emp 𝓤; ensures = λ _ r e. fact 𝓤 (r ≡ L.turned a.0) }

    module _ (𝓛 : Logic 𝓤) where
      abbrev pub Perform : Contract 𝓤
      Perform = Call L.parts 𝓤 N L.before 𝓛

      abbrev pub Turn : Contract 𝓤
      Turn = triple_of 𝓛 asked.signature (closing 𝓛 asked turn_says)

      -- what `turn` is passed
      abbrev to_turn : N.Denot → Turn.Ghost
      to_turn r = ((tt, tt, tt, (r, tt), (EN.val r ∷ [], tt)), tt)

      module _ (κs : Lfts n) (qs : Shares n) (a : Entry L.parts κs) where
        -- what this function has to leave, if its parameters' machine values are vss
        abbrev Leaves : Valss (rows κs L.parts) → Val → SProp 𝓤
        Leaves vss = (Call L.parts 𝓤 B L.after 𝓛).post ((κs, qs, tt, a, vss), tt)

        abbrev pub Due : Val → SProp 𝓤
        Due = Leaves (each L.parts κs a)

        -- what is passed, to this function and to `perform` alike
        abbrev passed : Perform.Ghost
        passed = ((κs, qs, tt, a, each L.parts κs a), tt)

        abbrev pub Passed : Item 𝓤
        Passed = raw (Perform.pre passed)

        -- what `perform` has said of the last values ws, and all that it leaves: that, at some ws, and the tokens
        abbrev pub Last : N.Denot → Lasts (lent L.parts N) κs a → Item 𝓤
        Last r ws = ‵ (lasts (lent L.parts N) κs a ws) ⊛ raw (fact 𝓤 (L.before κs a r (at_exit (lent L.parts N) κs a ws)))

        abbrev pub Had : N.Denot → Item 𝓤
        Had r = raw (alive 𝓛 (lent L.parts N).signature κs qs) ⊛ some (Last r)

  -- ---- the calls
  module _ {M : Type 1} {𝓤 : Ura M} {𝓛 : Logic 𝓤} {K : Type 0} {Γ : List (Item 𝓤)} {E : Env 𝓤 𝓛.H} {f : Callee} {xs : List Operand} {d : Place} {rest : Body} {q : Post 𝓤 𝓛.H} where
    open 𝓛 use {H}

    pub performs : K → (𝓣 : Tables 𝓤 H) → Triple 𝓤 (𝓣.C f) (Perform 𝓤 𝓛) → (κs : Lfts n) (qs : Shares n) (a : Entry L.parts κs) → Opds K 𝓛 (Passed 𝓤 𝓛 κs qs a ∷ Γ) E xs (values L.parts κs a)
        → ((r : N.Denot) → Is N r (EN.val r ∷ []) → Seq K 𝓛 (Had 𝓤 𝓛 κs qs a r ∷ Γ) (lands 𝓣.C 𝓣.Λ E d (EN.val r) rest q)) → Seq K 𝓛 (Passed 𝓤 𝓛 κs qs a ∷ Γ) (runs 𝓣.C 𝓣.Λ E (seq (call f xs d) rest) q)
    performs t 𝓣 known κs qs a os k = calls_plain t (fm_of 𝓤 H 𝓛.laws 𝓣) (lent L.parts N) (ensuring L.parts 𝓤 N L.before) known (passed 𝓤 𝓛 κs qs a) EN os (λ r ws ir.
        let left : Lasts (lent L.parts N) κs a → Item 𝓤 = Last 𝓤 𝓛 κs qs a r in
        move t (1 ∷ 2 ∷ []) $ join t $ use1 𝓛 (some left) (ex_i 𝓤 (λ (us : Lasts (lent L.parts N) κs a). mean 𝓛 (left us)) ws) $ move t (1 ∷ 0 ∷ []) $ join t $ k r ir)

    pub turns : K → (𝓣 : Tables 𝓤 H) → Triple 𝓤 (𝓣.C f) (Turn 𝓤 𝓛) → (r : N.Denot) → Is N r (EN.val r ∷ []) → Opds K 𝓛 (raw ((Turn 𝓤 𝓛).pre (to_turn 𝓤 𝓛 r)) ∷ Γ) E xs (EN.val r ∷ [])
        → (Is B (L.turned r) (EB.val (L.turned r) ∷ []) → Seq K 𝓛 Γ (lands 𝓣.C 𝓣.Λ E d (EB.val (L.turned r)) rest q)) → Seq K 𝓛 Γ (runs 𝓣.C 𝓣.Λ E (seq (call f xs d) rest) q)
    turns t 𝓣 known r ir os k =
        use0 𝓛 (raw ((Turn 𝓤 𝓛).pre (to_turn 𝓤 𝓛 r))) (qed 𝓛 [] ∵ nothing ! $ owned ! N (Is N) (EN.makes 𝓛) r _ ir $ fjoin ! $ nothing ! $ join ! $ frame ! $ done !) $
        calls_plain t (fm_of 𝓤 H 𝓛.laws 𝓣) asked (turn_says 𝓤) known (to_turn 𝓤 𝓛 r) EB os (λ b ws ib. move t (2 ∷ []) $ heard t (b ≡ L.turned r) (λ e. drop t $ drop t $
        regoal t (λ (v : B.Denot). lands 𝓣.C 𝓣.Λ E d (EB.val v) rest q) e refl $ k (subst (λ (v : B.Denot). Is B v (EB.val v ∷ [])) e ib)))

  -- ---- the end, and the contract
  module _ {M : Type 1} {𝓤 : Ura M} (𝓛 : Logic 𝓤) where
    open 𝓛 use {H}

    pub ends : (κs : Lfts n) (qs : Shares n) (a : Entry L.parts κs) (r : N.Denot) → Is B (L.turned r) (EB.val (L.turned r) ∷ []) → ent 𝓤 (⋆ 𝓛 (Had 𝓤 𝓛 κs qs a r ∷ [])) (Due 𝓤 𝓛 κs qs a (EB.val (L.turned r)))
    ends κs qs a r ib =
        let T : Ended = lent L.parts B in
        qed 𝓛 (Had 𝓤 𝓛 κs qs a r ∷ []) ∵ updating ! $ split ! $ move ! (1 ∷ []) $ pick ! (λ ws. split ! $ move ! (1 ∷ []) $ heard ! (L.before κs a r (at_exit (lent L.parts N) κs a ws)) (λ e. at_once ! $
        show ! (λ (b : B.Denot). sep 𝓤 (Back 𝓛 T.signature (passed 𝓤 𝓛 κs qs a).0 (EB.val (L.turned r)) b) (ensured 𝓛 T (ensuring L.parts 𝓤 B L.after) κs a tt b)) (L.turned r) $
        owned ! B (Is B) (EB.makes 𝓛) (L.turned r) _ ib $ move ! (2 ∷ 0 ∷ []) $ join ! $ frame ! $
        show ! (λ (us : Lasts T κs a). sep 𝓤 (sem 𝓛 (lasts T κs a us)) (fact 𝓤 (L.after κs a (L.turned r) (at_exit T κs a us)))) ws $ says ! (L.so κs a r _ e) $ done !))

    pub lent_meets : (𝓣 : Tables 𝓤 H) (f : Fn) → ((κs : Lfts n) (qs : Shares n) (a : Entry L.parts κs) → Shown L.parts κs a → ent 𝓤 (⋆ 𝓛 (Passed 𝓤 𝓛 κs qs a ∷ [])) (WpFn 𝓤 H 𝓣.C 𝓣.Λ f (values L.parts κs a) (Due 𝓤 𝓛 κs qs a)))
        → Meets 𝓛 (lent L.parts B).signature (WpFn 𝓤 H 𝓣.C 𝓣.Λ f) (closing 𝓛 (lent L.parts B) (ensuring L.parts 𝓤 B L.after))
    lent_meets 𝓣 f k x =
        let κs : Lfts n = x.0.0 in
        let qs : Shares n = x.0.1 in
        let a : Entry L.parts κs = x.0.3 in
        let On : Valss (rows κs L.parts) → SProp 𝓤 = on_entry 𝓛 (lent L.parts B).signature κs qs a in
        let vss : Valss (rows κs L.parts) = each L.parts κs a in
        via 𝓤 (On x.0.4) (fst∗ 𝓤 (On x.0.4) (emp 𝓤))
        (said 𝓛 (lent L.parts B).signature κs qs (vals_of κs L.parts) (tells_of κs L.parts) a (λ us. WpFn 𝓤 H 𝓣.C 𝓣.Λ f (flat (rows κs L.parts) us) (Leaves 𝓤 𝓛 κs qs a us)) x.0.4
        (λ are. via 𝓤 (sep 𝓤 (emp 𝓤) (On vss)) (emp∗ 𝓤 (On vss)) (via 𝓤 (sep 𝓤 (On vss) (emp 𝓤)) (comm∗ 𝓤 (emp 𝓤) (On vss)) (k κs qs a are))))
