-- ONE WALK FOR EVERY CALL THAT SWEEPS A TABLE WHERE A TEST HOLDS. A function of this form, whatever the functions that it calls are and the plain
-- types that `Served.antt`'s `Tested` names:
--     pub fn call(t: &mut [Channel], mem: &[u8], lens: &[u16], lines: &mut [u8]) -> Answer
--     {
--         let a = begin(lines);
--         let v = survey(t, lens, a);
--         let d = judge(v, t.len(), mem.len(), lens.len());
--         if d.holds {
--             let k = start(lines);
--             let z = sweep(t, k);
--             let r = conclude(z, lines);
--             r
--         } else {
--             d.refusal
--         }
--     }
-- where begin and start have the lines as a `&[u8]`, and conclude as a `&mut [u8]`. `Says` has what each of them ensures, as relations, and that the call's own follows. Only the sweep (an instance of `Sweep.antt`) may have a
-- `requires`, a single one.
--     sweeping_meets   its arguments: the types (`Tested`), the kinds of what the survey and the sweep carry, what is said (`Says`;
--                      `Testing.antt` makes it of equations), the names of begin, survey, judge, start, the sweep and conclude; then the model,
--                      the tables, and that each of them meets its contract
-- Assumes nothing.
use types.Logic.{Logic}
use Rattle.walks.proofs.Walk.{◌≡◌, refl, Bool, true, false, List, [], ◌∷◌, ℕ, length, Ura, full_share, named, imm, mut, w8, w16, w64, Ty, ty_int, ty_bool, ty_ref, Val, SProp, ent, emp, via, fst∗, Lft, GName, Share, Fml, ftrue, flft, WpFn, Tables, ‵, raw, ◌⊛◌, ⋆, ◌$◌, ◌∵◌, !, qed, by, use0, use1, move, keep, drop, group, split, join, fsplit, fjoin, feq_l, suffices, frame, done, agg, stop, from, of_opd, and_then, no_more, first, branches, returns, enter, fm_of, owns, Is, pointee, u8, u16, slice_val, slice_ty, MutSlice, ShrSlice, Room, mut_slice_Tells, shr_slice_Tells, plain, shr_slice_of, nothing, owned, heard, on_entry, triple_of, Contract, Triple, says, Stays, stay_dropped, gave_slice, walk_of, Goes-dropped, Goes-gave_slice, ends_at, yes, Fn, Body, erased, local, value_local, place, field, deref, copy, rv_opd, addr_of, aggregate, seq, assign, cond, call, return, id⊢, fact, RattleType, mut_slice_of, Clauses, Ended, closing, Meets, shr_slice_vals, mut_slice_vals, alloc_all, pass_all, free_all, look_at, set_at, get, sets, lands_as, rewrite, Callee}
use Rattle.walks.proofs.Tab.{xs_at, mut_at, fld_at, gives_up, assigns_out, calls_plain, meets_by, xs_in, gave_at, ptr_at}
use Rattle.walks.proofs.Lend.{lends_on, comes_on}
use Rattle.walks.proofs.Guard.{held, failed}
use Rattle.walks.proofs.Plain.{Kind, of, has_at, letters}
use Rattle.walks.proofs.Served.{Tested, need, needed}
use Rattle.walks.proofs.ByValue.{ByValue, Takes, calls_by}
use Rattle.walks.proofs.Surveyed.{Survey, deciding, surveys_one}
use Rattle.walks.proofs.Lines.{Looks, Puts, looks_at, puts_to}

module _ (K : Tested) where
  open letters K.channel use {type as C, elem as EC}
  open letters K.answer use {type as N, elem as EN}
  open letters K.verdict use {type as J, elem as EJ}

  -- what the functions ensure, and what follows of it
  pub record Says (Y Q : RattleType) : Type 1 where
    -- begin: by the lines, what is carried at first
    pub Begins : List ℕ → Y.Denot → Type 0
    -- survey: by the table, lens and what is carried at first, what is carried at last
    pub Surveys : List C.Denot → List ℕ → Y.Denot → Y.Denot → Type 0
    -- judge: by what is carried and the lengths of the table, mem and lens, the verdict
    pub Judges : Y.Denot → ℕ → ℕ → ℕ → J.Denot → Type 0
    -- start: by the lines, what the sweep carries at first
    pub Starts : List ℕ → Q.Denot → Type 0
    -- sweep: whether it has a `requires`, and what that asks of the table; and by the table and what it carries at first, what it carries at
    -- last, and the table then
    pub asks : Bool
    pub Asks : List C.Denot → Type 0
    pub Sweeps : List C.Denot → Q.Denot → Q.Denot → List C.Denot → Type 0
    -- conclude: by what the sweep carries at last and the lines, the answer, and the lines then
    pub Concludes : Q.Denot → List ℕ → N.Denot → List ℕ → Type 0
    -- the call: by the table, mem, lens and lines, the answer, and the table and the lines then
    pub Calls : List C.Denot → List ℕ → List ℕ → List ℕ → N.Denot → List C.Denot → List ℕ → Type 0
    -- the sweep may be called
    pub may : (ys : List C.Denot) (m l li : List ℕ) (a v : Y.Denot) (d : J.Denot) → Begins li a → Surveys ys l a v → Judges v (length ys) (length m) (length l) d → K.holds.part d ≡ true → Asks ys
    -- the call's own, where the test holds, and where it does not
    pub does : (ys : List C.Denot) (m l li : List ℕ) (a v : Y.Denot) (d : J.Denot) (k z : Q.Denot) (zs : List C.Denot) (r : N.Denot) (li' : List ℕ) → Begins li a → Surveys ys l a v → Judges v (length ys) (length m) (length l) d → K.holds.part d ≡ true → Starts li k → Sweeps ys k z zs → Concludes z li r li' → Calls ys m l li r zs li'
    pub refuses : (ys : List C.Denot) (m l li : List ℕ) (a v : Y.Denot) (d : J.Denot) → Begins li a → Surveys ys l a v → Judges v (length ys) (length m) (length l) d → K.holds.part d ≡ false → Calls ys m l li (K.refusal.part d) ys li

  -- ---- the MIR
  module _ (τ τz : Ty) (fb fs fd fk ff fe : Callee) where
    abbrev rest : Body
    rest = seq (assign (place 0 []) (rv_opd (copy (place 19 [])))) return

    abbrev pub function : Fn
    function = record {
      lifetimes = 4;
      outlives = [];
      ty_params = [];
      givens = 0;
      params = 4;
      locals = local K.answer.ty value_local ∷ local (slice_ty (ty_ref (named 0) mut (pointee C.written))) value_local ∷ local (slice_ty (ty_ref (named 1) imm (ty_int w8))) value_local ∷ local (slice_ty (ty_ref (named 2) imm (ty_int w16))) value_local ∷ local (slice_ty (ty_ref (named 3) mut (ty_int w8))) value_local ∷ local τ value_local ∷ local τ value_local ∷ local K.verdict.ty value_local ∷ local τz value_local ∷ local τz value_local ∷ local K.answer.ty value_local ∷ local (ty_ref erased imm (ty_int w8)) value_local ∷ local (slice_ty (ty_ref erased imm (ty_int w8))) value_local ∷ local (ty_ref erased imm (pointee C.written)) value_local ∷ local (slice_ty (ty_ref erased imm (pointee C.written))) value_local ∷ local (ty_int w64) value_local ∷ local (ty_int w64) value_local ∷ local (ty_int w64) value_local ∷ local ty_bool value_local ∷ local K.answer.ty value_local ∷ local (ty_ref erased imm (ty_int w8)) value_local ∷ local (slice_ty (ty_ref erased imm (ty_int w8))) value_local ∷ local (ty_ref erased mut (pointee C.written)) value_local ∷ local (slice_ty (ty_ref erased mut (pointee C.written))) value_local ∷ local (ty_ref erased mut (ty_int w8)) value_local ∷ local (slice_ty (ty_ref erased mut (ty_int w8))) value_local ∷ [];
      body = seq (assign (place 11 []) (addr_of (place 4 (field 0 ∷ deref (ty_int w8) ∷ []))))
          (seq (assign (place 12 []) (aggregate ((copy (place 11 [])) ∷ (copy (place 4 (field 1 ∷ []))) ∷ [])))
          (seq (call fb ((copy (place 12 [])) ∷ []) (place 5 []))
          (seq (assign (place 13 []) (addr_of (place 1 (field 0 ∷ deref K.channel.ty ∷ []))))
          (seq (assign (place 14 []) (aggregate ((copy (place 13 [])) ∷ (copy (place 1 (field 1 ∷ []))) ∷ [])))
          (seq (call fs ((copy (place 14 [])) ∷ (copy (place 3 [])) ∷ (copy (place 5 [])) ∷ []) (place 6 []))
          (seq (assign (place 15 []) (rv_opd (copy (place 1 (field 1 ∷ [])))))
          (seq (assign (place 16 []) (rv_opd (copy (place 2 (field 1 ∷ [])))))
          (seq (assign (place 17 []) (rv_opd (copy (place 3 (field 1 ∷ [])))))
          (seq (call fd ((copy (place 6 [])) ∷ (copy (place 15 [])) ∷ (copy (place 16 [])) ∷ (copy (place 17 [])) ∷ []) (place 7 []))
          (seq (assign (place 18 []) (rv_opd (copy (place 7 (field K.holds.index ∷ [])))))
          (seq (cond (copy (place 18 []))
          (seq (assign (place 20 []) (addr_of (place 4 (field 0 ∷ deref (ty_int w8) ∷ []))))
          (seq (assign (place 21 []) (aggregate ((copy (place 20 [])) ∷ (copy (place 4 (field 1 ∷ []))) ∷ [])))
          (seq (call fk ((copy (place 21 [])) ∷ []) (place 8 []))
          (seq (assign (place 22 []) (addr_of (place 1 (field 0 ∷ deref K.channel.ty ∷ []))))
          (seq (assign (place 23 []) (aggregate ((copy (place 22 [])) ∷ (copy (place 1 (field 1 ∷ []))) ∷ [])))
          (seq (call ff ((copy (place 23 [])) ∷ (copy (place 8 [])) ∷ []) (place 9 []))
          (seq (assign (place 24 []) (addr_of (place 4 (field 0 ∷ deref (ty_int w8) ∷ []))))
          (seq (assign (place 25 []) (aggregate ((copy (place 24 [])) ∷ (copy (place 4 (field 1 ∷ []))) ∷ [])))
          (seq (call fe ((copy (place 9 [])) ∷ (copy (place 25 [])) ∷ []) (place 10 []))
          (assign (place 19 []) (rv_opd (copy (place 10 [])))))))))))))
          (assign (place 19 []) (rv_opd (copy (place 7 (field K.refusal.index ∷ []))))))
          rest)))))))))));
    }

  -- ---- the contracts
  module _ (Y Q : RattleType) where
    abbrev pub ended : Ended
    ended = record { signature = record { lifetimes = 4; outlives = []; params = mut_slice_of (0 ∷ []) tt (plain (λ _. C)) ∷ shr_slice_of (1 ∷ []) tt (plain (λ _. u8)) ∷ shr_slice_of (2 ∷ []) tt (plain (λ _. u16)) ∷ mut_slice_of (3 ∷ []) tt (plain (λ _. u8)) ∷ []; result = plain (λ _. N) }; kept = (yes, (yes, (yes, (yes, tt)))) }

    abbrev stayed : Stays ended.signature.params ended.kept
    stayed = (gave_slice (0 ∷ []) tt (plain (λ _. C)), (stay_dropped (shr_slice_of (1 ∷ []) tt (plain (λ _. u8))) yes, (stay_dropped (shr_slice_of (2 ∷ []) tt (plain (λ _. u16))) yes, (gave_slice (3 ∷ []) tt (plain (λ _. u8)), tt))))

    abbrev fills : Ended
    fills = record { signature = record { lifetimes = 1; outlives = []; params = mut_slice_of (0 ∷ []) tt (plain (λ _. C)) ∷ plain (λ _. Q) ∷ []; result = plain (λ _. Q) }; kept = (yes, (yes, tt)) }

    module _ (Z : Says Y Q) {M : Type 1} (𝓤 : Ura M) where
      abbrev pub clauses : Clauses 𝓤 ended
      clauses κs a = record { ghost = Unit {0}; requires = λ _. emp 𝓤; ensures = λ _ r e. fact 𝓤 (Z.Calls a.0.now a.1.0.now a.1.1.0.now a.1.1.1.0.now r e.0.now e.1.1.1.0.now) }

      abbrev fill_says : Clauses 𝓤 fills
      fill_says κs a = record { ghost = Unit {0}; requires = λ _. need 𝓤 Z.asks (Z.Asks a.0.now); ensures = λ _ r e. fact 𝓤 (Z.Sweeps a.0.now a.1.0 r e.0.now) }

      module _ (𝓛 : Logic 𝓤) where
        abbrev pub Fill : Contract 𝓤
        Fill = triple_of 𝓛 fills.signature (closing 𝓛 fills fill_says)

  -- judge takes plain data alone; begin, start and conclude have the lines too
  module _ (KY KQ : Kind) (Z : Says (of KY) (of KQ)) where
    abbrev judges : ByValue
    judges = deciding KY K.verdict Z.Judges

  -- ---- the walk
  module _ (KY KQ : Kind) (Z : Says (of KY) (of KQ)) (fb fs fd fk ff fe : Callee) {M : Type 1} {𝓤 : Ura M} (𝓛 : Logic 𝓤) (𝓣 : Tables 𝓤 𝓛.H)
      (k-begin : Triple 𝓤 (𝓣.C fb) (Looks KY Z.Begins 𝓤 𝓛)) (k-survey : Triple 𝓤 (𝓣.C fs) (Survey C KY Z.Surveys 𝓤 𝓛)) (k-judge : Triple 𝓤 (𝓣.C fd) (Takes (judges KY KQ Z) 𝓤 𝓛)) (k_start : Triple 𝓤 (𝓣.C fk) (Looks KQ Z.Starts 𝓤 𝓛)) (k-fill : Triple 𝓤 (𝓣.C ff) (Fill (of KY) (of KQ) Z 𝓤 𝓛)) (k-conclude : Triple 𝓤 (𝓣.C fe) (Puts KQ K.answer Z.Concludes 𝓤 𝓛)) where
    open 𝓛 use {H}
    open letters KY use {type as Y, elem as EY}
    open letters KQ use {type as Q, elem as EQ}

    module _ (κ₀ κ₁ κ₂ κ₃ : Lft) (q₀ q₁ q₂ q₃ : Share) (b o b₁ o₁ b₂ o₂ b₃ o₃ : ℕ) (γ γ₃ : GName) (ys : List C.Denot) (m ln li : List ℕ) (room : Room C (length ys)) (room₁ : Room u8 (length m)) (room₂ : Room u16 (length ln)) (room₃ : Room u8 (length li)) where
      abbrev s : Val
      s = slice_val (b, o) (length ys)

      abbrev s₁ : Val
      s₁ = slice_val (b₁, o₁) (length m)

      abbrev s₂ : Val
      s₂ = slice_val (b₂, o₂) (length ln)

      abbrev s₃ : Val
      s₃ = slice_val (b₃, o₃) (length li)

      abbrev y : (walk_of 𝓛 (ended Y Q) (stayed Y Q) (clauses Y Q Z 𝓤)).Ghost
      y = (((κ₀, (κ₁, (κ₂, (κ₃, tt)))), (q₀, (q₁, (q₂, (q₃, tt)))), tt, (xs_at C b o γ ys, (xs_in u8 b₁ o₁ m, (xs_in u16 b₂ o₂ ln, (xs_at u8 b₃ o₃ γ₃ li, tt)))), (s ∷ [], (s₁ ∷ [], (s₂ ∷ [], (s₃ ∷ [], tt))))), tt)

      abbrev Post : Val → SProp 𝓤
      Post = (walk_of 𝓛 (ended Y Q) (stayed Y Q) (clauses Y Q Z 𝓤)).post y

      exits : (r : N.Denot) (zs : List C.Denot) (is : List ℕ) → Z.Calls ys m ln li r zs is → length zs ≡ length ys → length is ≡ length li → Is N r (EN.val r ∷ []) → ent 𝓤 (⋆ 𝓛 (‵ (gave_at C κ₀ b o γ (length ys) zs) ∷ ‵ (flft κ₀ q₀) ∷ ‵ (flft κ₁ q₁) ∷ ‵ (flft κ₂ q₂) ∷ ‵ (flft κ₃ q₃) ∷ ‵ (gave_at u8 κ₃ b₃ o₃ γ₃ (length li) is) ∷ [])) (Post (EN.val r))
      exits r zs is e l l₃ ir = qed 𝓛 (‵ (gave_at C κ₀ b o γ (length ys) zs) ∷ ‵ (flft κ₀ q₀) ∷ ‵ (flft κ₁ q₁) ∷ ‵ (flft κ₂ q₂) ∷ ‵ (flft κ₃ q₃) ∷ ‵ (gave_at u8 κ₃ b₃ o₃ γ₃ (length li) is) ∷ []) ∵ suffices ! _ (ends_at 𝓛 (ended Y Q) (stayed Y Q) (clauses Y Q Z 𝓤) y (EN.val r) r (zs, (tt, (tt, (is, tt)))) (l, (tt, (tt, (l₃, tt))))) $ says ! e $ nothing ! $ move ! (5 ∷ 0 ∷ []) $ join ! $ move ! (4 ∷ 0 ∷ []) $ join ! $ move ! (3 ∷ 0 ∷ []) $ join ! $ move ! (2 ∷ 0 ∷ []) $ join ! $ frame ! $ nothing ! $ move ! (2 ∷ 0 ∷ []) $ fjoin ! $ nothing ! $ fjoin ! $ nothing ! $ fjoin ! $ move ! (1 ∷ 0 ∷ []) $ fjoin ! $ frame ! $ owned ! N (Is N) (EN.makes 𝓛) r _ ir $ done !

      module _ (ν : ℕ) (δ : GName) where
        abbrev Own : Fml
        Own = mut_at C (ν ∷ []) b o δ ys

        abbrev to_fill : Q.Denot → (Fill Y Q Z 𝓤 𝓛).Ghost
        to_fill k = (((ν ∷ [], tt), (full_share, tt), tt, (xs_at C b o δ ys, (k, tt)), (s ∷ [], (EQ.val k ∷ [], tt))), tt)

        asks_fill : (k : Q.Denot) → Is Q k (EQ.val k ∷ []) → Z.Asks ys → ent 𝓤 (⋆ 𝓛 (‵ Own ∷ ‵ (flft (ν ∷ []) full_share) ∷ [])) ((Fill Y Q Z 𝓤 𝓛).pre (to_fill k))
        asks_fill k is ask = qed 𝓛 (‵ Own ∷ ‵ (flft (ν ∷ []) full_share) ∷ []) ∵ use0 𝓛 (raw (need 𝓤 Z.asks (Z.Asks ys))) (needed 𝓤 Z.asks (Z.Asks ys) ask) $ nothing ! $ owned ! Q (Is Q) (EQ.makes 𝓛) k _ is $ fjoin ! $ move ! (2 ∷ 0 ∷ []) $ fjoin ! $ nothing ! $ move ! (3 ∷ 0 ∷ []) $ join ! $ join ! $ frame ! $ done !

      walk : ent 𝓤 (on_entry 𝓛 (ended Y Q).signature y.0.0 y.0.1 y.0.3 y.0.4) (WpFn 𝓤 H 𝓣.C 𝓣.Λ (function KY.ty KQ.ty fb fs fd fk ff fe) (s ∷ s₁ ∷ s₂ ∷ s₃ ∷ []) Post)
      walk =
          qed 𝓛 ((‵ (flft κ₀ q₀) ⊛ ‵ (flft κ₁ q₁) ⊛ ‵ (flft κ₂ q₂) ⊛ ‵ (flft κ₃ q₃) ⊛ ‵ ftrue) ∷ ‵ (owns (MutSlice (named 0) κ₀ C ∷ ShrSlice (named 1) κ₁ u8 ∷ ShrSlice (named 2) κ₂ u16 ∷ MutSlice (named 3) κ₃ u8 ∷ []) y.0.3 y.0.4) ∷ []) ∵
          move ! (1 ∷ []) $ fsplit ! $ move ! (1 ∷ []) $ fsplit ! $ drop ! $ fsplit ! $ move ! (1 ∷ []) $ fsplit ! $ move ! (1 ∷ []) $ drop ! $ move ! (3 ∷ []) $ split ! $ move ! (1 ∷ []) $ split ! $ move ! (1 ∷ []) $ split ! $ move ! (1 ∷ []) $ split ! $ move ! (1 ∷ []) $ drop ! $ move ! (4 ∷ 0 ∷ 6 ∷ 3 ∷ 5 ∷ 1 ∷ 2 ∷ []) $
          enter ! 𝓣.C 𝓣.Λ (function KY.ty KQ.ty fb fs fd fk ff fe) (s ∷ s₁ ∷ s₂ ∷ s₃ ∷ []) _ $
          alloc_all ! (λ l. pass_all ! refl ((tt, (tt, (record { fits = room.0 }, tt))), ((tt, (tt, (record { fits = room₁.0 }, tt))), ((tt, (tt, (record { fits = room₂.0 }, tt))), ((tt, (tt, (record { fits = room₃.0 }, tt))), tt)))) $
          -- [what lines, t and lens own, each with its token; the token of mem; then the locals, the last first]
          sets ! (ptr_at ! refl refl) refl (tt, tt) $
          sets ! (agg ! (and_then ! (get ! refl) (and_then ! (fld_at ! 1 refl refl refl) (no_more !)))) refl (tt, (tt, (record { fits = room₃.0 }, tt))) $
          looks_at ! (fm_of 𝓤 H 𝓛.laws 𝓣) KY Z.Begins k-begin b₃ o₃ li (λ _ _. and_then ! (get ! refl) (no_more !)) (λ a ia ea.
          lands_as ! refl refl (EY.typed 𝓛 a ia).0 $
          sets ! (ptr_at ! refl refl) refl (tt, tt) $
          sets ! (agg ! (and_then ! (get ! refl) (and_then ! (fld_at ! 1 refl refl refl) (no_more !)))) refl (tt, (tt, (record { fits = room.0 }, tt))) $
          move ! (2 ∷ 3 ∷ 4 ∷ 5 ∷ []) $ surveys_one ! (fm_of 𝓤 H 𝓛.laws 𝓣) EC KY Z.Surveys k-survey b o b₂ o₂ ys ln a ia (λ _ _ _. and_then ! (get ! refl) (and_then ! (get ! refl) (and_then ! (get ! refl) (no_more !)))) (λ v iv ev.
          lands_as ! refl refl (EY.typed 𝓛 v iv).0 $ move ! (2 ∷ []) $ drop ! $
          sets ! (of_opd ! (fld_at ! 1 refl refl refl)) refl (tt, record { fits = room.0 }) $
          sets ! (of_opd ! (fld_at ! 1 refl refl refl)) refl (tt, record { fits = room₁.0 }) $
          sets ! (of_opd ! (fld_at ! 1 refl refl refl)) refl (tt, record { fits = room₂.0 }) $
          calls_by ! (fm_of 𝓤 H 𝓛.laws 𝓣) (judges KY KQ Z) k-judge (v, (length ys, (length m, (length ln, tt)))) (iv, ((refl, room.0), ((refl, room₁.0), ((refl, room₂.0), tt)))) tt (λ _. and_then ! (get ! refl) (and_then ! (get ! refl) (and_then ! (get ! refl) (and_then ! (get ! refl) (no_more !))))) (λ d id ed.
          lands_as ! refl refl (EJ.typed 𝓛 d id).0 $
          sets ! (of_opd ! (has_at ! K.holds d refl refl)) refl (tt, tt) $
          first ! $ branches ! (get ! refl)
          (λ h.
          let yes_is : K.holds.part d ≡ true = held (K.holds.part d) h in
          sets ! (ptr_at ! refl refl) refl (tt, tt) $
          sets ! (agg ! (and_then ! (get ! refl) (and_then ! (fld_at ! 1 refl refl refl) (no_more !)))) refl (tt, (tt, (record { fits = room₃.0 }, tt))) $
          move ! (3 ∷ 4 ∷ []) $ looks_at ! (fm_of 𝓤 H 𝓛.laws 𝓣) KQ Z.Starts k_start b₃ o₃ li (λ _ _. and_then ! (get ! refl) (no_more !)) (λ k ik ek.
          lands_as ! refl refl (EQ.typed 𝓛 k ik).0 $
          sets ! (ptr_at ! refl refl) refl (tt, tt) $
          sets ! (agg ! (and_then ! (get ! refl) (and_then ! (fld_at ! 1 refl refl refl) (no_more !)))) refl (tt, (tt, (record { fits = room.0 }, tt))) $
          move ! (2 ∷ 3 ∷ []) $ lends_on ! tt C b o ys (s ∷ []) (λ ν' δ' p. group ! 2 $ use1 𝓛 (raw ((Fill Y Q Z 𝓤 𝓛).pre (to_fill ν' δ' k))) (asks_fill ν' δ' k ik (Z.may ys m ln li a v d ea ev ed yes_is)) $
          calls_plain ! (fm_of 𝓤 H 𝓛.laws 𝓣) (fills Y Q) (fill_says Y Q Z 𝓤) k-fill (to_fill ν' δ' k) EQ (and_then ! (get ! refl) (and_then ! (get ! refl) (no_more !))) (λ z ws iz.
          move ! (2 ∷ []) $ heard ! (Z.Sweeps ys k z ws.0) (λ e. lands_as ! refl refl (EQ.typed 𝓛 z iz).0 $ use1 𝓛 (‵ (flft (ν' ∷ []) full_share) ⊛ ‵ ftrue) (id⊢ 𝓤 _) $ split ! $ move ! (2 ∷ []) $ fsplit ! $ fsplit ! $ fsplit ! $ move ! (1 ∷ []) $ feq_l ! (λ l. move ! (1 ∷ []) $ drop ! $ move ! (3 ∷ []) $ drop ! $ move ! (1 ∷ []) $ drop ! $ move ! (1 ∷ 0 ∷ 2 ∷ []) $ comes_on ! tt C b o ys ws.0 (s ∷ []) p l $
          -- [what t and lines own, each with its token; the tokens of lens and mem]
          sets ! (ptr_at ! refl refl) refl (tt, tt) $
          sets ! (agg ! (and_then ! (get ! refl) (and_then ! (fld_at ! 1 refl refl refl) (no_more !)))) refl (tt, (tt, (record { fits = room₃.0 }, tt))) $
          move ! (2 ∷ 3 ∷ []) $ puts_to ! (fm_of 𝓤 H 𝓛.laws 𝓣) KQ K.answer Z.Concludes k-conclude b₃ o₃ z li iz (λ _. and_then ! (get ! refl) (and_then ! (get ! refl) (no_more !))) (λ r is ir er l₃.
          lands_as ! refl refl (EN.typed 𝓛 r ir).0 $
          assigns_out ! (rest KY.ty KQ.ty fb fs fd fk ff fe) Post (of_opd ! (get ! refl)) (from ! (stop !)) (set_at ! 19 refl (EN.typed 𝓛 r ir).0) $
          sets ! (of_opd ! (get ! refl)) refl (EN.typed 𝓛 r ir).0 $ move ! (2 ∷ []) $ gives_up ! C b o ws.0 $ rewrite ! 0 (λ (n : ℕ). ‵ (gave_at C κ₀ b o γ n ws.0)) l refl $
          returns ! (look_at ! 0 refl) $ free_all ! refl $
          keep ! (0 ∷ 3 ∷ 5 ∷ 4 ∷ 2 ∷ 1 ∷ []) $
          by ! (exits r ws.0 is (Z.does ys m ln li a v d k z ws.0 r is ea ev ed yes_is ek e er) l l₃ ir))))))))
          (λ h.
          let ir : Is N (K.refusal.part d) (EN.val (K.refusal.part d) ∷ []) = K.refusal.owed d id in
          assigns_out ! (rest KY.ty KQ.ty fb fs fd fk ff fe) Post (of_opd ! (has_at ! K.refusal d refl refl)) (from ! (stop !)) (set_at ! 19 refl (EN.typed 𝓛 (K.refusal.part d) ir).0) $
          sets ! (of_opd ! (get ! refl)) refl (EN.typed 𝓛 (K.refusal.part d) ir).0 $ gives_up ! C b o ys $
          returns ! (look_at ! 0 refl) $ free_all ! refl $
          move ! (3 ∷ []) $ gives_up ! u8 b₃ o₃ li $ keep ! (1 ∷ 2 ∷ 5 ∷ 3 ∷ 4 ∷ 0 ∷ []) $
          by ! (exits (K.refusal.part d) ys li (Z.refuses ys m ln li a v d ea ev ed (failed (K.holds.part d) h)) refl refl ir))))))

    pub sweeping_meets : Meets 𝓛 (ended Y Q).signature (WpFn 𝓤 H 𝓣.C 𝓣.Λ (function KY.ty KQ.ty fb fs fd fk ff fe)) (closing 𝓛 (ended Y Q) (clauses Y Q Z 𝓤))
    sweeping_meets =
        meets_by 𝓛 (ended Y Q) (stayed Y Q) (Goes-gave_slice 𝓛 4 0 tt (plain (λ _. C)), (Goes-dropped 𝓛 4 (shr_slice_of (1 ∷ []) tt (plain (λ _. u8))) yes (λ κs z f. refl), (Goes-dropped 𝓛 4 (shr_slice_of (2 ∷ []) tt (plain (λ _. u16))) yes (λ κs z f. refl), (Goes-gave_slice 𝓛 4 3 tt (plain (λ _. u8)), tt))))
        (clauses Y Q Z 𝓤) (function KY.ty KQ.ty fb fs fd fk ff fe) 𝓣
        (λ κs. (mut_slice_vals, (shr_slice_vals, (shr_slice_vals, (mut_slice_vals, tt)))))
        (λ κs. (mut_slice_Tells (named 0) κs.0 C, (shr_slice_Tells (named 1) κs.1.0 u8, (shr_slice_Tells (named 2) κs.1.1.0 u16, (mut_slice_Tells (named 3) κs.1.1.1.0 u8, tt)))))
        (λ κs qs bounds a g are. via 𝓤 _ (fst∗ 𝓤 _ (emp 𝓤)) (walk κs.0 κs.1.0 κs.1.1.0 κs.1.1.1.0 qs.0 qs.1.0 qs.1.1.0 qs.1.1.1.0 a.0.ref_ptr.0 a.0.ref_ptr.1 a.1.0.ref_ptr.0 a.1.0.ref_ptr.1 a.1.1.0.ref_ptr.0 a.1.1.0.ref_ptr.1 a.1.1.1.0.ref_ptr.0 a.1.1.1.0.ref_ptr.1 a.0.ghost_name a.1.1.1.0.ghost_name a.0.now a.1.0.now a.1.1.0.now a.1.1.1.0.now are.0.0.1 are.1.0.0.1 are.1.1.0.0.1 are.1.1.1.0.0.1))
