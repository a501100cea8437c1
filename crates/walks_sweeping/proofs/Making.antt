-- ONE WALK FOR EVERY CALL THAT MAKES A TABLE FRESH WHERE A TEST HOLDS. A function of this form, whatever the functions that it calls are and the
-- plain types that `Served.antt`'s `Tested` names:
--     pub fn call(t: &mut [Channel], mem: &[u8], lens: &[u16], lines: &mut [u8], s: &[X]) -> Answer
--     {
--         let a = begin(lines);
--         let v = survey(s, lens, a);
--         let d = judge(v, t.len(), s.len(), mem.len(), lens.len());
--         if d.holds {
--             let n = fill(t, s);
--             let r = conclude(n, lines);
--             r
--         } else {
--             d.refusal
--         }
--     }
-- where begin has the lines as a `&[u8]`, and conclude as a `&mut [u8]`. `Says` has what each of them ensures, as relations, and that the call's own follows. Only fill (an instance of `Afresh.antt`) may have a
-- `requires`, a single one.
--     making_meets   its arguments: the types (`Tested`), the kinds of X and of what the survey carries, what is said (`Says`; `Testing.antt`
--                    makes it of equations), the names of begin, survey, judge, fill and conclude; then the model, the tables, and that each of
--                    them meets its contract
-- Assumes nothing.
use types.Logic.{Logic}
use Rattle.walks.proofs.Walk.{◌≡◌, refl, Bool, true, false, List, [], ◌∷◌, ℕ, length, Ura, full_share, named, imm, mut, w8, w16, w64, Ty, ty_int, ty_bool, ty_ref, Val, SProp, ent, emp, via, fst∗, Lft, GName, Share, Fml, ftrue, flft, WpFn, Tables, ‵, raw, ◌⊛◌, ⋆, ◌$◌, ◌∵◌, !, qed, by, use0, use1, move, keep, drop, group, split, join, fsplit, fjoin, feq_l, suffices, frame, done, agg, stop, from, of_opd, and_then, no_more, first, branches, returns, enter, fm_of, owns, Is, pointee, u8, u16, usize, slice_val, slice_ty, MutSlice, ShrSlice, Room, mut_slice_Tells, shr_slice_Tells, plain, shr_slice_of, nothing, owned, heard, on_entry, triple_of, Contract, Triple, says, Stays, stay_dropped, gave_slice, walk_of, Goes-dropped, Goes-gave_slice, ends_at, yes, Fn, Body, erased, local, value_local, place, field, deref, copy, rv_opd, addr_of, aggregate, seq, assign, cond, call, return, id⊢, fact, RattleType, mut_slice_of, shr_slice_copy, Clauses, Ended, closing, Meets, shr_slice_vals, mut_slice_vals, alloc_all, pass_all, free_all, look_at, set_at, get, sets, lands_as, rewrite, Callee}
use Rattle.walks.proofs.Tab.{uint_elem, xs_at, mut_at, shr_at, fld_at, gives_up, assigns_out, calls_plain, meets_by, xs_in, gave_at, ptr_at}
use Rattle.walks.proofs.Lend.{lends_on, comes_on}
use Rattle.walks.proofs.Guard.{held, failed}
use Rattle.walks.proofs.Plain.{Kind, of, has_at, letters, uint}
use Rattle.walks.proofs.Served.{Tested, need, needed}
use Rattle.walks.proofs.ByValue.{ByValue, always, Takes, calls_by}
use Rattle.walks.proofs.Surveyed.{Survey, surveys_shr}
use Rattle.walks.proofs.Lines.{Looks, Puts, looks_at, puts_to}

module _ (K : Tested) where
  open letters K.channel use {type as C}
  open letters K.answer use {type as N, elem as EN}
  open letters K.verdict use {type as J, elem as EJ}

  -- what the functions ensure, and what follows of it
  pub record Says (X Y : RattleType) : Type 1 where
    -- begin: by the lines, what is carried at first
    pub Begins : List ℕ → Y.Denot → Type 0
    -- survey: by s, lens and what is carried at first, what is carried at last
    pub Surveys : List X.Denot → List ℕ → Y.Denot → Y.Denot → Type 0
    -- judge: by what is carried and the lengths of the table, s, mem and lens, the verdict
    pub Judges : Y.Denot → ℕ → ℕ → ℕ → ℕ → J.Denot → Type 0
    -- fill: whether it has a `requires`, and what that asks of the table and s; and by these, a number, and the table then
    pub asks : Bool
    pub Asks : List C.Denot → List X.Denot → Type 0
    pub Fills : List C.Denot → List X.Denot → ℕ → List C.Denot → Type 0
    -- conclude: by that number and the lines, the answer, and the lines then
    pub Concludes : ℕ → List ℕ → N.Denot → List ℕ → Type 0
    -- the call: by the table, mem, lens, lines and s, the answer, and the table and the lines then
    pub Calls : List C.Denot → List ℕ → List ℕ → List ℕ → List X.Denot → N.Denot → List C.Denot → List ℕ → Type 0
    -- fill may be called
    pub may : (ys : List C.Denot) (m l li : List ℕ) (xs : List X.Denot) (a v : Y.Denot) (d : J.Denot) → Begins li a → Surveys xs l a v → Judges v (length ys) (length xs) (length m) (length l) d → K.holds.part d ≡ true → Asks ys xs
    -- the call's own, where the test holds, and where it does not
    pub does : (ys : List C.Denot) (m l li : List ℕ) (xs : List X.Denot) (a v : Y.Denot) (d : J.Denot) (n : ℕ) (zs : List C.Denot) (r : N.Denot) (li' : List ℕ) → Begins li a → Surveys xs l a v → Judges v (length ys) (length xs) (length m) (length l) d → K.holds.part d ≡ true → Fills ys xs n zs → Concludes n li r li' → Calls ys m l li xs r zs li'
    pub refuses : (ys : List C.Denot) (m l li : List ℕ) (xs : List X.Denot) (a v : Y.Denot) (d : J.Denot) → Begins li a → Surveys xs l a v → Judges v (length ys) (length xs) (length m) (length l) d → K.holds.part d ≡ false → Calls ys m l li xs (K.refusal.part d) ys li

  -- ---- the MIR
  module _ (X : RattleType) (τ : Ty) (fb fs fd ff fe : Callee) where
    abbrev rest : Body
    rest = seq (assign (place 0 []) (rv_opd (copy (place 18 [])))) return

    abbrev pub function : Fn
    function = record {
      lifetimes = 5;
      outlives = [];
      ty_params = [];
      givens = 0;
      params = 5;
      locals = local K.answer.ty value_local ∷ local (slice_ty (ty_ref (named 0) mut (pointee C.written))) value_local ∷ local (slice_ty (ty_ref (named 1) imm (ty_int w8))) value_local ∷ local (slice_ty (ty_ref (named 2) imm (ty_int w16))) value_local ∷ local (slice_ty (ty_ref (named 3) mut (ty_int w8))) value_local ∷ local (slice_ty (ty_ref (named 4) imm (pointee X.written))) value_local ∷ local τ value_local ∷ local τ value_local ∷ local K.verdict.ty value_local ∷ local (ty_int w64) value_local ∷ local K.answer.ty value_local ∷ local (ty_ref erased imm (ty_int w8)) value_local ∷ local (slice_ty (ty_ref erased imm (ty_int w8))) value_local ∷ local (ty_int w64) value_local ∷ local (ty_int w64) value_local ∷ local (ty_int w64) value_local ∷ local (ty_int w64) value_local ∷ local ty_bool value_local ∷ local K.answer.ty value_local ∷ local (ty_ref erased mut (pointee C.written)) value_local ∷ local (slice_ty (ty_ref erased mut (pointee C.written))) value_local ∷ local (ty_ref erased mut (ty_int w8)) value_local ∷ local (slice_ty (ty_ref erased mut (ty_int w8))) value_local ∷ [];
      body = seq (assign (place 11 []) (addr_of (place 4 (field 0 ∷ deref (ty_int w8) ∷ []))))
          (seq (assign (place 12 []) (aggregate ((copy (place 11 [])) ∷ (copy (place 4 (field 1 ∷ []))) ∷ [])))
          (seq (call fb ((copy (place 12 [])) ∷ []) (place 6 []))
          (seq (call fs ((copy (place 5 [])) ∷ (copy (place 3 [])) ∷ (copy (place 6 [])) ∷ []) (place 7 []))
          (seq (assign (place 13 []) (rv_opd (copy (place 1 (field 1 ∷ [])))))
          (seq (assign (place 14 []) (rv_opd (copy (place 5 (field 1 ∷ [])))))
          (seq (assign (place 15 []) (rv_opd (copy (place 2 (field 1 ∷ [])))))
          (seq (assign (place 16 []) (rv_opd (copy (place 3 (field 1 ∷ [])))))
          (seq (call fd ((copy (place 7 [])) ∷ (copy (place 13 [])) ∷ (copy (place 14 [])) ∷ (copy (place 15 [])) ∷ (copy (place 16 [])) ∷ []) (place 8 []))
          (seq (assign (place 17 []) (rv_opd (copy (place 8 (field K.holds.index ∷ [])))))
          (seq (cond (copy (place 17 []))
          (seq (assign (place 19 []) (addr_of (place 1 (field 0 ∷ deref K.channel.ty ∷ []))))
          (seq (assign (place 20 []) (aggregate ((copy (place 19 [])) ∷ (copy (place 1 (field 1 ∷ []))) ∷ [])))
          (seq (call ff ((copy (place 20 [])) ∷ (copy (place 5 [])) ∷ []) (place 9 []))
          (seq (assign (place 21 []) (addr_of (place 4 (field 0 ∷ deref (ty_int w8) ∷ []))))
          (seq (assign (place 22 []) (aggregate ((copy (place 21 [])) ∷ (copy (place 4 (field 1 ∷ []))) ∷ [])))
          (seq (call fe ((copy (place 9 [])) ∷ (copy (place 22 [])) ∷ []) (place 10 []))
          (assign (place 18 []) (rv_opd (copy (place 10 []))))))))))
          (assign (place 18 []) (rv_opd (copy (place 8 (field K.refusal.index ∷ []))))))
          rest))))))))));
    }

  -- ---- the contracts
  module _ (X Y : RattleType) where
    abbrev pub ended : Ended
    ended = record { signature = record { lifetimes = 5; outlives = []; params = mut_slice_of (0 ∷ []) tt (plain (λ _. C)) ∷ shr_slice_of (1 ∷ []) tt (plain (λ _. u8)) ∷ shr_slice_of (2 ∷ []) tt (plain (λ _. u16)) ∷ mut_slice_of (3 ∷ []) tt (plain (λ _. u8)) ∷ shr_slice_of (4 ∷ []) tt (plain (λ _. X)) ∷ []; result = plain (λ _. N) }; kept = (yes, (yes, (yes, (yes, (yes, tt))))) }

    abbrev stayed : Stays ended.signature.params ended.kept
    stayed = (gave_slice (0 ∷ []) tt (plain (λ _. C)), (stay_dropped (shr_slice_of (1 ∷ []) tt (plain (λ _. u8))) yes, (stay_dropped (shr_slice_of (2 ∷ []) tt (plain (λ _. u16))) yes, (gave_slice (3 ∷ []) tt (plain (λ _. u8)), (stay_dropped (shr_slice_of (4 ∷ []) tt (plain (λ _. X))) yes, tt)))))

    abbrev fills : Ended
    fills = record { signature = record { lifetimes = 2; outlives = []; params = mut_slice_of (0 ∷ []) tt (plain (λ _. C)) ∷ shr_slice_of (1 ∷ []) tt (plain (λ _. X)) ∷ []; result = plain (λ _. usize) }; kept = (yes, (yes, tt)) }

    module _ (Z : Says X Y) {M : Type 1} (𝓤 : Ura M) where
      abbrev pub clauses : Clauses 𝓤 ended
      clauses κs a = record { ghost = Unit {0}; requires = λ _. emp 𝓤; ensures = λ _ r e. fact 𝓤 (Z.Calls a.0.now a.1.0.now a.1.1.0.now a.1.1.1.0.now a.1.1.1.1.0.now r e.0.now e.1.1.1.0.now) }

      abbrev fill_says : Clauses 𝓤 fills
      fill_says κs a = record { ghost = Unit {0}; requires = λ _. need 𝓤 Z.asks (Z.Asks a.0.now a.1.0.now); ensures = λ _ r e. fact 𝓤 (Z.Fills a.0.now a.1.0.now r e.0.now) }

      module _ (𝓛 : Logic 𝓤) where
        abbrev pub Fill : Contract 𝓤
        Fill = triple_of 𝓛 fills.signature (closing 𝓛 fills fill_says)

  -- judge takes plain data alone; begin and conclude have the lines too
  module _ (KX KY : Kind) (Z : Says (of KX) (of KY)) where
    abbrev judges : ByValue
    judges = always (KY ∷ uint w64 ∷ uint w64 ∷ uint w64 ∷ uint w64 ∷ []) K.verdict (λ a r. Z.Judges a.0 a.1.0 a.1.1.0 a.1.1.1.0 a.1.1.1.1.0 r)

  -- ---- the walk
  module _ (KX KY : Kind) (Z : Says (of KX) (of KY)) (fb fs fd ff fe : Callee) {M : Type 1} {𝓤 : Ura M} (𝓛 : Logic 𝓤) (𝓣 : Tables 𝓤 𝓛.H)
      (k-begin : Triple 𝓤 (𝓣.C fb) (Looks KY Z.Begins 𝓤 𝓛)) (k-survey : Triple 𝓤 (𝓣.C fs) (Survey (of KX) KY Z.Surveys 𝓤 𝓛)) (k-judge : Triple 𝓤 (𝓣.C fd) (Takes (judges KX KY Z) 𝓤 𝓛)) (k-fill : Triple 𝓤 (𝓣.C ff) (Fill (of KX) (of KY) Z 𝓤 𝓛)) (k-conclude : Triple 𝓤 (𝓣.C fe) (Puts (uint w64) K.answer Z.Concludes 𝓤 𝓛)) where
    open 𝓛 use {H}
    open letters KX use {type as X, elem as EX}
    open letters KY use {type as Y, elem as EY}

    module _ (κ₀ κ₁ κ₂ κ₃ κ₄ : Lft) (q₀ q₁ q₂ q₃ q₄ : Share) (b o b₁ o₁ b₂ o₂ b₃ o₃ b₄ o₄ : ℕ) (γ γ₃ : GName) (ys : List C.Denot) (m ln li : List ℕ) (xs : List X.Denot) (room : Room C (length ys)) (room₁ : Room u8 (length m)) (room₂ : Room u16 (length ln)) (room₃ : Room u8 (length li)) (room₄ : Room X (length xs)) where
      abbrev s : Val
      s = slice_val (b, o) (length ys)

      abbrev s₁ : Val
      s₁ = slice_val (b₁, o₁) (length m)

      abbrev s₂ : Val
      s₂ = slice_val (b₂, o₂) (length ln)

      abbrev s₃ : Val
      s₃ = slice_val (b₃, o₃) (length li)

      abbrev s₄ : Val
      s₄ = slice_val (b₄, o₄) (length xs)

      abbrev y : (walk_of 𝓛 (ended X Y) (stayed X Y) (clauses X Y Z 𝓤)).Ghost
      y = (((κ₀, (κ₁, (κ₂, (κ₃, (κ₄, tt))))), (q₀, (q₁, (q₂, (q₃, (q₄, tt))))), tt, (xs_at C b o γ ys, (xs_in u8 b₁ o₁ m, (xs_in u16 b₂ o₂ ln, (xs_at u8 b₃ o₃ γ₃ li, (xs_in X b₄ o₄ xs, tt))))), (s ∷ [], (s₁ ∷ [], (s₂ ∷ [], (s₃ ∷ [], (s₄ ∷ [], tt)))))), tt)

      abbrev Post : Val → SProp 𝓤
      Post = (walk_of 𝓛 (ended X Y) (stayed X Y) (clauses X Y Z 𝓤)).post y

      exits : (r : N.Denot) (zs : List C.Denot) (is : List ℕ) → Z.Calls ys m ln li xs r zs is → length zs ≡ length ys → length is ≡ length li → Is N r (EN.val r ∷ []) → ent 𝓤 (⋆ 𝓛 (‵ (gave_at C κ₀ b o γ (length ys) zs) ∷ ‵ (flft κ₀ q₀) ∷ ‵ (flft κ₁ q₁) ∷ ‵ (flft κ₂ q₂) ∷ ‵ (flft κ₃ q₃) ∷ ‵ (flft κ₄ q₄) ∷ ‵ (gave_at u8 κ₃ b₃ o₃ γ₃ (length li) is) ∷ [])) (Post (EN.val r))
      exits r zs is e l l₃ ir = qed 𝓛 (‵ (gave_at C κ₀ b o γ (length ys) zs) ∷ ‵ (flft κ₀ q₀) ∷ ‵ (flft κ₁ q₁) ∷ ‵ (flft κ₂ q₂) ∷ ‵ (flft κ₃ q₃) ∷ ‵ (flft κ₄ q₄) ∷ ‵ (gave_at u8 κ₃ b₃ o₃ γ₃ (length li) is) ∷ []) ∵ suffices ! _ (ends_at 𝓛 (ended X Y) (stayed X Y) (clauses X Y Z 𝓤) y (EN.val r) r (zs, (tt, (tt, (is, (tt, tt))))) (l, (tt, (tt, (l₃, (tt, tt)))))) $ says ! e $ nothing ! $ move ! (6 ∷ 0 ∷ []) $ join ! $ move ! (5 ∷ 0 ∷ []) $ join ! $ move ! (4 ∷ 0 ∷ []) $ join ! $ move ! (3 ∷ 0 ∷ []) $ join ! $ move ! (2 ∷ 0 ∷ []) $ join ! $ frame ! $ nothing ! $ nothing ! $ fjoin ! $ move ! (2 ∷ 0 ∷ []) $ fjoin ! $ nothing ! $ fjoin ! $ nothing ! $ fjoin ! $ move ! (1 ∷ 0 ∷ []) $ fjoin ! $ frame ! $ owned ! N (Is N) (EN.makes 𝓛) r _ ir $ done !

      abbrev O₄ : Fml
      O₄ = shr_at X κ₄ b₄ o₄ xs

      module _ (ν : ℕ) (δ : GName) where
        abbrev Own : Fml
        Own = mut_at C (ν ∷ []) b o δ ys

        abbrev to_fill : (Fill X Y Z 𝓤 𝓛).Ghost
        to_fill = (((ν ∷ [], (κ₄, tt)), (full_share, (q₄, tt)), tt, (xs_at C b o δ ys, (xs_in X b₄ o₄ xs, tt)), (s ∷ [], (s₄ ∷ [], tt))), tt)

        asks_fill : Z.Asks ys xs → ent 𝓤 (⋆ 𝓛 (‵ Own ∷ ‵ (flft (ν ∷ []) full_share) ∷ ‵ O₄ ∷ ‵ (flft κ₄ q₄) ∷ [])) ((Fill X Y Z 𝓤 𝓛).pre to_fill)
        asks_fill ask = qed 𝓛 (‵ Own ∷ ‵ (flft (ν ∷ []) full_share) ∷ ‵ O₄ ∷ ‵ (flft κ₄ q₄) ∷ []) ∵ use0 𝓛 (raw (need 𝓤 Z.asks (Z.Asks ys xs))) (needed 𝓤 Z.asks (Z.Asks ys xs) ask) $ nothing ! $ move ! (4 ∷ 0 ∷ []) $ fjoin ! $ move ! (2 ∷ 0 ∷ []) $ fjoin ! $ nothing ! $ move ! (4 ∷ 0 ∷ []) $ join ! $ move ! (3 ∷ 0 ∷ []) $ join ! $ join ! $ frame ! $ done !

      walk : ent 𝓤 (on_entry 𝓛 (ended X Y).signature y.0.0 y.0.1 y.0.3 y.0.4) (WpFn 𝓤 H 𝓣.C 𝓣.Λ (function X KY.ty fb fs fd ff fe) (s ∷ s₁ ∷ s₂ ∷ s₃ ∷ s₄ ∷ []) Post)
      walk =
          qed 𝓛 ((‵ (flft κ₀ q₀) ⊛ ‵ (flft κ₁ q₁) ⊛ ‵ (flft κ₂ q₂) ⊛ ‵ (flft κ₃ q₃) ⊛ ‵ (flft κ₄ q₄) ⊛ ‵ ftrue) ∷ ‵ (owns (MutSlice (named 0) κ₀ C ∷ ShrSlice (named 1) κ₁ u8 ∷ ShrSlice (named 2) κ₂ u16 ∷ MutSlice (named 3) κ₃ u8 ∷ ShrSlice (named 4) κ₄ X ∷ []) y.0.3 y.0.4) ∷ []) ∵
          move ! (1 ∷ []) $ fsplit ! $ move ! (1 ∷ []) $ fsplit ! $ drop ! $ fsplit ! $ move ! (1 ∷ []) $ fsplit ! $ move ! (1 ∷ []) $ fsplit ! $ move ! (1 ∷ []) $ drop ! $ move ! (4 ∷ []) $ split ! $ move ! (1 ∷ []) $ split ! $ move ! (1 ∷ []) $ split ! $ move ! (1 ∷ []) $ split ! $ move ! (1 ∷ []) $ split ! $ move ! (1 ∷ []) $ drop ! $ move ! (6 ∷ 1 ∷ 5 ∷ 0 ∷ 7 ∷ 2 ∷ 8 ∷ 4 ∷ 3 ∷ []) $
          enter ! 𝓣.C 𝓣.Λ (function X KY.ty fb fs fd ff fe) (s ∷ s₁ ∷ s₂ ∷ s₃ ∷ s₄ ∷ []) _ $
          alloc_all ! (λ l. pass_all ! refl ((tt, (tt, (record { fits = room.0 }, tt))), ((tt, (tt, (record { fits = room₁.0 }, tt))), ((tt, (tt, (record { fits = room₂.0 }, tt))), ((tt, (tt, (record { fits = room₃.0 }, tt))), ((tt, (tt, (record { fits = room₄.0 }, tt))), tt))))) $
          -- [what lines, s, lens and t own, each with its token; the token of mem; then the locals, the last first]
          sets ! (ptr_at ! refl refl) refl (tt, tt) $
          sets ! (agg ! (and_then ! (get ! refl) (and_then ! (fld_at ! 1 refl refl refl) (no_more !)))) refl (tt, (tt, (record { fits = room₃.0 }, tt))) $
          looks_at ! (fm_of 𝓤 H 𝓛.laws 𝓣) KY Z.Begins k-begin b₃ o₃ li (λ _ _. and_then ! (get ! refl) (no_more !)) (λ a ia ea.
          lands_as ! refl refl (EY.typed 𝓛 a ia).0 $
          move ! (2 ∷ []) $ use1 𝓛 (‵ O₄ ⊛ ‵ O₄) ((shr_slice_copy 𝓛 (named 4) κ₄ X EX.row_laws).twice (xs_in X b₄ o₄ xs) (s₄ ∷ [])) $ split ! $ move ! (0 ∷ 4 ∷ 5 ∷ 6 ∷ []) $ surveys_shr ! (fm_of 𝓤 H 𝓛.laws 𝓣) X KY Z.Surveys k-survey b₄ o₄ b₂ o₂ xs ln a ia (λ _. and_then ! (get ! refl) (and_then ! (get ! refl) (and_then ! (get ! refl) (no_more !)))) (λ v iv ev.
          -- [the tokens of s and lens; s; what lines and t own, each with its token; the token of mem]
          lands_as ! refl refl (EY.typed 𝓛 v iv).0 $
          sets ! (of_opd ! (fld_at ! 1 refl refl refl)) refl (tt, record { fits = room.0 }) $
          sets ! (of_opd ! (fld_at ! 1 refl refl refl)) refl (tt, record { fits = room₄.0 }) $
          sets ! (of_opd ! (fld_at ! 1 refl refl refl)) refl (tt, record { fits = room₁.0 }) $
          sets ! (of_opd ! (fld_at ! 1 refl refl refl)) refl (tt, record { fits = room₂.0 }) $
          calls_by ! (fm_of 𝓤 H 𝓛.laws 𝓣) (judges KX KY Z) k-judge (v, (length ys, (length xs, (length m, (length ln, tt))))) (iv, ((refl, room.0), ((refl, room₄.0), ((refl, room₁.0), ((refl, room₂.0), tt))))) tt (λ _. and_then ! (get ! refl) (and_then ! (get ! refl) (and_then ! (get ! refl) (and_then ! (get ! refl) (and_then ! (get ! refl) (no_more !)))))) (λ d id ed.
          lands_as ! refl refl (EJ.typed 𝓛 d id).0 $
          sets ! (of_opd ! (has_at ! K.holds d refl refl)) refl (tt, tt) $
          first ! $ branches ! (get ! refl)
          (λ h.
          let yes_is : K.holds.part d ≡ true = held (K.holds.part d) h in
          sets ! (ptr_at ! refl refl) refl (tt, tt) $
          sets ! (agg ! (and_then ! (get ! refl) (and_then ! (fld_at ! 1 refl refl refl) (no_more !)))) refl (tt, (tt, (record { fits = room.0 }, tt))) $
          move ! (5 ∷ 6 ∷ []) $ lends_on ! tt C b o ys (s ∷ []) (λ ν' δ' p. move ! (0 ∷ 1 ∷ 5 ∷ 3 ∷ []) $ group ! 4 $ use1 𝓛 (raw ((Fill X Y Z 𝓤 𝓛).pre (to_fill ν' δ'))) (asks_fill ν' δ' (Z.may ys m ln li xs a v d ea ev ed yes_is)) $
          calls_plain ! (fm_of 𝓤 H 𝓛.laws 𝓣) (fills X Y) (fill_says X Y Z 𝓤) k-fill (to_fill ν' δ') (uint_elem w64) (and_then ! (get ! refl) (and_then ! (get ! refl) (no_more !))) (λ z ws iz.
          move ! (2 ∷ []) $ heard ! (Z.Fills ys xs z ws.0) (λ e. lands_as ! refl refl (tt, record { fits = iz.1 }) $ use1 𝓛 (‵ (flft (ν' ∷ []) full_share) ⊛ ‵ (flft κ₄ q₄) ⊛ ‵ ftrue) (id⊢ 𝓤 _) $ split ! $ move ! (1 ∷ []) $ split ! $ move ! (3 ∷ []) $ fsplit ! $ fsplit ! $ fsplit ! $ move ! (1 ∷ []) $ feq_l ! (λ l. move ! (1 ∷ []) $ drop ! $ move ! (3 ∷ []) $ drop ! $ move ! (1 ∷ []) $ drop ! $ move ! (2 ∷ 0 ∷ 3 ∷ []) $ comes_on ! tt C b o ys ws.0 (s ∷ []) p l $
          -- [what t owns, with its token; the tokens of s and lens; what lines owns, with its token; the token of mem]
          sets ! (ptr_at ! refl refl) refl (tt, tt) $
          sets ! (agg ! (and_then ! (get ! refl) (and_then ! (fld_at ! 1 refl refl refl) (no_more !)))) refl (tt, (tt, (record { fits = room₃.0 }, tt))) $
          move ! (4 ∷ 5 ∷ []) $ puts_to ! (fm_of 𝓤 H 𝓛.laws 𝓣) (uint w64) K.answer Z.Concludes k-conclude b₃ o₃ z li iz (λ _. and_then ! (get ! refl) (and_then ! (get ! refl) (no_more !))) (λ r is ir er l₃.
          lands_as ! refl refl (EN.typed 𝓛 r ir).0 $
          assigns_out ! (rest X KY.ty fb fs fd ff fe) Post (of_opd ! (get ! refl)) (from ! (stop !)) (set_at ! 18 refl (EN.typed 𝓛 r ir).0) $
          sets ! (of_opd ! (get ! refl)) refl (EN.typed 𝓛 r ir).0 $ move ! (2 ∷ []) $ gives_up ! C b o ws.0 $ rewrite ! 0 (λ (n : ℕ). ‵ (gave_at C κ₀ b o γ n ws.0)) l refl $
          returns ! (look_at ! 0 refl) $ free_all ! refl $
          keep ! (0 ∷ 3 ∷ 6 ∷ 5 ∷ 2 ∷ 4 ∷ 1 ∷ []) $
          by ! (exits r ws.0 is (Z.does ys m ln li xs a v d z ws.0 r is ea ev ed yes_is e er) l l₃ ir)))))))
          (λ h.
          let ir : Is N (K.refusal.part d) (EN.val (K.refusal.part d) ∷ []) = K.refusal.owed d id in
          move ! (5 ∷ 6 ∷ []) $
          assigns_out ! (rest X KY.ty fb fs fd ff fe) Post (of_opd ! (has_at ! K.refusal d refl refl)) (from ! (stop !)) (set_at ! 18 refl (EN.typed 𝓛 (K.refusal.part d) ir).0) $
          sets ! (of_opd ! (get ! refl)) refl (EN.typed 𝓛 (K.refusal.part d) ir).0 $ gives_up ! C b o ys $
          returns ! (look_at ! 0 refl) $ free_all ! refl $
          move ! (5 ∷ []) $ gives_up ! u8 b₃ o₃ li $ keep ! (1 ∷ 2 ∷ 7 ∷ 4 ∷ 6 ∷ 3 ∷ 0 ∷ []) $
          by ! (exits (K.refusal.part d) ys li (Z.refuses ys m ln li xs a v d ea ev ed (failed (K.holds.part d) h)) refl refl ir))))))

    pub making_meets : Meets 𝓛 (ended X Y).signature (WpFn 𝓤 H 𝓣.C 𝓣.Λ (function X KY.ty fb fs fd ff fe)) (closing 𝓛 (ended X Y) (clauses X Y Z 𝓤))
    making_meets =
        meets_by 𝓛 (ended X Y) (stayed X Y) (Goes-gave_slice 𝓛 5 0 tt (plain (λ _. C)), (Goes-dropped 𝓛 5 (shr_slice_of (1 ∷ []) tt (plain (λ _. u8))) yes (λ κs z f. refl), (Goes-dropped 𝓛 5 (shr_slice_of (2 ∷ []) tt (plain (λ _. u16))) yes (λ κs z f. refl), (Goes-gave_slice 𝓛 5 3 tt (plain (λ _. u8)), (Goes-dropped 𝓛 5 (shr_slice_of (4 ∷ []) tt (plain (λ _. X))) yes (λ κs z f. refl), tt)))))
        (clauses X Y Z 𝓤) (function X KY.ty fb fs fd ff fe) 𝓣
        (λ κs. (mut_slice_vals, (shr_slice_vals, (shr_slice_vals, (mut_slice_vals, (shr_slice_vals, tt))))))
        (λ κs. (mut_slice_Tells (named 0) κs.0 C, (shr_slice_Tells (named 1) κs.1.0 u8, (shr_slice_Tells (named 2) κs.1.1.0 u16, (mut_slice_Tells (named 3) κs.1.1.1.0 u8, (shr_slice_Tells (named 4) κs.1.1.1.1.0 X, tt))))))
        (λ κs qs bounds a g are. via 𝓤 _ (fst∗ 𝓤 _ (emp 𝓤)) (walk κs.0 κs.1.0 κs.1.1.0 κs.1.1.1.0 κs.1.1.1.1.0 qs.0 qs.1.0 qs.1.1.0 qs.1.1.1.0 qs.1.1.1.1.0 a.0.ref_ptr.0 a.0.ref_ptr.1 a.1.0.ref_ptr.0 a.1.0.ref_ptr.1 a.1.1.0.ref_ptr.0 a.1.1.0.ref_ptr.1 a.1.1.1.0.ref_ptr.0 a.1.1.1.0.ref_ptr.1 a.1.1.1.1.0.ref_ptr.0 a.1.1.1.1.0.ref_ptr.1 a.0.ghost_name a.1.1.1.0.ghost_name a.0.now a.1.0.now a.1.1.0.now a.1.1.1.0.now a.1.1.1.1.0.now are.0.0.1 are.1.0.0.1 are.1.1.0.0.1 are.1.1.1.0.0.1 are.1.1.1.1.0.0.1))
