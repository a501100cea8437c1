-- ONE WALK FOR EVERY SWEEP OF A TABLE. A function of this form, whatever the function `f` is, the plain type C of the records, the plain type Y
-- of what is carried, and the struct S that f makes of the two:
--     pub fn f_all(t: &mut [C], start: Y) -> Y
--         requires { Every blank Asks t.old }
--         ensures { (result ≡ sweep_a stored carried F t.old start) × (t.new ≡ sweep_t stored carried F t.old start) }
--     {
--         let mut a = start;
--         let mut i = 0;
--         while i < t.len() {
--             let s = f(t[i], a);
--             t[i] = s.stored;
--             a = s.carried;
--             i = i + 1;
--         }
--         a
--     }
-- where `f(c: C, a: Y) -> S` requires `Asks c` and ensures `result ≡ F c a`; or neither has a `requires`.
--     sweep_meets  its arguments: the kinds of C, Y and S, the two fields of S, any value of C, `tt`; `true Asks (λ z c. absurd z)`, or `false (λ
--                  c. Unit {0}) (λ z c. tt)` where there is no `requires`; F, and f's name; then the model, the tables, and that f meets its
--                  contract
-- The invariant: after i turns the table is `tab i`, and what is carried is `acc i`.
-- Assumes nothing.
use types.Logic.{Logic}
use Rattle.walks.proofs.Walk.{◌≡◌, refl, sym, ap, ◌∙◌, Bool, not, List, [], ◌∷◌, ℕ, zero, suc, ◌+◌, ◌*◌, ◌^◌, ◌<◌, ◌≤◌, arith, T, ltb, ltb→lt, nltb→le, lit<, length, get_or, set, Ura, named, mut, w64, Ty, ty_ptr, ty_int, ty_bool, ty_ref, Val, vint, SProp, ent, Lft, GName, Share, ftrue, flft, Env, WpFn, Wp, Tables, after_block, after_seq, after_turn, at_return, Item, Sq, runs, any_q, at_ret, ‵, ◌⊛◌, ⋆, ◌$◌, ◌∵◌, !, qed, by, move, drop, split, join, rewrite, fsplit, fjoin, suffices, frame, done, look_raw, store_raw, stop, load, lit, of_opd, bin, and_then, no_more, assigns, first, blocks, loops, again, Below, exec, returns, enter, fm_of, owns, Is, pointee, slice_val, slice_ty, MutSlice, Room, mut_slice_Tells, plain, nothing, owned, on_entry, Triple, says, Stays, stay_dropped, gave_slice, walk_of, Goes-dropped, Goes-gave_slice, ends_at, yes, Fn, Body, local, value_local, place, field, deref, copy, int, rv_opd, op2, lt, mul, add, offset, unsigned, seq, assign, block, loop, skip, exit, cond, call, return, fact, mem, mut_slice_of, Clauses, Ended, closing, Meets, mut_slice_vals, alloc_all, pass_all, free_all, look_at, get, through, sets, lands_as, env, holding, forget_but, sets_last, Callee}
use mathlib.Core.Path.{subst}
use native.Mathlib.Nat.{not-suc-le-zero, le_of_suc-le-suc}
use native.Mathlib.Numerals.{add-one}
use types.Kit as Kit
use types.ByLocal.{is as same_as}
use denote.Laws.{shows}
use denote.Steps.{facts}
use Rattle.walks.specs.Sweep.{sweep_t, sweep_a, Every}
use Rattle.walks.proofs.Tab.{xs_at, fld_at, elem_ptr, opens_at, backs_at, closes_at, gives_up, tests, left_of_lem, left_wf, meets_by, in_room, gave_at}
use Rattle.walks.proofs.Plain.{Kind, of, Has, has_at, letters}
use Rattle.walks.proofs.Served.{need, heeded}
use Rattle.walks.proofs.ByValue.{ByValue, Takes, calls_by}

module _ (KC KY KS : Kind) (St : Has KS KC) (Ca : Has KS KY) (blank : KC.row.Denot) (fits : T (ltb (mem (of KC)).size (2 ^ 64)))
    (asked : Bool) (Asks : KC.row.Denot → Type 0) (free : T (not asked) → (c : KC.row.Denot) → Asks c) where
  open letters KC use {type as C, elem as EC}
  open letters KY use {type as Y, elem as EY}
  open letters KS use {type as S, elem as ES}

  abbrev slice : Ty
  slice = slice_ty (ty_ref (named 0) mut (pointee C.written))

  -- ---- the MIR, for a callee f
  module _ (f : Callee) where
    abbrev turn : Body
    turn = seq (assign (place 6 []) (rv_opd (copy (place 1 (field 1 ∷ [])))))
        (seq (assign (place 7 []) (op2 (lt unsigned) (copy (place 4 [])) (copy (place 6 []))))
        (seq (cond (copy (place 7 [])) skip (exit 1))
        (seq (assign (place 6 []) (op2 (mul unsigned) (copy (place 4 [])) (int w64 (mem C).size)))
        (seq (assign (place 8 []) (op2 offset (copy (place 1 (field 0 ∷ []))) (copy (place 6 []))))
        (seq (assign (place 9 []) (rv_opd (copy (place 8 (deref KC.ty ∷ [])))))
        (seq (call f (copy (place 9 []) ∷ copy (place 3 []) ∷ []) (place 5 []))
        (seq (assign (place 10 []) (rv_opd (copy (place 5 (field St.index ∷ [])))))
        (seq (assign (place 6 []) (op2 (mul unsigned) (copy (place 4 [])) (int w64 (mem C).size)))
        (seq (assign (place 11 []) (op2 offset (copy (place 1 (field 0 ∷ []))) (copy (place 6 []))))
        (seq (assign (place 11 (deref KC.ty ∷ [])) (rv_opd (copy (place 10 []))))
        (seq (assign (place 3 []) (rv_opd (copy (place 5 (field Ca.index ∷ [])))))
        (assign (place 4 []) (op2 (add unsigned) (copy (place 4 [])) (int w64 1))))))))))))))

    abbrev rest : Body
    rest = seq (assign (place 0 []) (rv_opd (copy (place 3 [])))) return

    abbrev pub function : Fn
    function = record {
      lifetimes = 1;
      outlives = [];
      ty_params = [];
      givens = 0;
      params = 2;
      locals = local KY.ty value_local ∷ local slice value_local ∷ local KY.ty value_local ∷ local KY.ty value_local ∷ local (ty_int w64) value_local ∷ local KS.ty value_local
          ∷ local (ty_int w64) value_local ∷ local ty_bool value_local ∷ local ty_ptr value_local ∷ local KC.ty value_local ∷ local KC.ty value_local ∷ local ty_ptr value_local ∷ [];
      body = seq (assign (place 3 []) (rv_opd (copy (place 2 [])))) (seq (assign (place 4 []) (rv_opd (int w64 0))) (seq (block (loop turn)) rest));
    }

  -- ---- the contracts
  abbrev pub ended : Ended
  ended = record { signature = record { lifetimes = 1; outlives = []; params = mut_slice_of (0 ∷ []) tt (plain (λ _. C)) ∷ plain (λ _. Y) ∷ []; result = plain (λ _. Y) }; kept = (yes, (yes, tt)) }

  abbrev stayed : Stays ended.signature.params ended.kept
  stayed = (gave_slice (0 ∷ []) tt (plain (λ _. C)), (stay_dropped (plain (λ _. Y)) yes, tt))

  module _ (F : C.Denot → Y.Denot → S.Denot) where
    -- f takes plain data alone
    abbrev callee : ByValue
    callee = record { takes = KC ∷ KY ∷ []; gives = KS; asked = asked; Asks = λ a. Asks a.0; Ensures = λ a r. r ≡ F a.0 a.1.0 }

    module _ {M : Type 1} (𝓤 : Ura M) where
      abbrev pub clauses : Clauses 𝓤 ended
      clauses κs a = record { ghost = Unit {0}; requires = λ _. need 𝓤 asked (Every blank Asks a.0.now); ensures = λ _ r e. fact 𝓤 ((r ≡ sweep_a St.part Ca.part F a.0.now a.1.0) × (e.0.now ≡ sweep_t St.part Ca.part F a.0.now a.1.0)) }

    -- ---- the table and what is carried, after i turns
    tab : ℕ → List C.Denot → Y.Denot → List C.Denot
    tab zero ys a = ys
    tab (suc i) [] a = []
    tab (suc i) (c ∷ cs) a = St.part (F c a) ∷ tab i cs (Ca.part (F c a))

    acc : ℕ → List C.Denot → Y.Denot → Y.Denot
    acc zero ys a = a
    acc (suc i) [] a = a
    acc (suc i) (c ∷ cs) a = acc i cs (Ca.part (F c a))

    -- the turns before i have not touched the i-th
    untouched : (i : ℕ) (ys : List C.Denot) (a : Y.Denot) → get_or (tab i ys a) i blank ≡ get_or ys i blank
    unfolding tab
    untouched zero ys a = refl
    untouched (suc i) [] a = refl
    untouched (suc i) (c ∷ cs) a = untouched i cs (Ca.part (F c a))

    as_long : (i : ℕ) (ys : List C.Denot) (a : Y.Denot) → length (tab i ys a) ≡ length ys
    unfolding tab
    as_long zero ys a = refl
    as_long (suc i) [] a = refl
    as_long (suc i) (c ∷ cs) a = ap suc (as_long i cs (Ca.part (F c a)))

    next_tab : (i : ℕ) (ys : List C.Denot) (a : Y.Denot) → i < length ys → set (tab i ys a) i (St.part (F (get_or ys i blank) (acc i ys a))) ≡ tab (suc i) ys a
    unfolding tab acc
    next_tab i [] a l = absurd (not-suc-le-zero l)
    next_tab zero (c ∷ cs) a l = refl
    next_tab (suc i) (c ∷ cs) a l = ap (λ (zs : List C.Denot). St.part (F c a) ∷ zs) (next_tab i cs (Ca.part (F c a)) (le_of_suc-le-suc l))

    next_acc : (i : ℕ) (ys : List C.Denot) (a : Y.Denot) → i < length ys → Ca.part (F (get_or ys i blank) (acc i ys a)) ≡ acc (suc i) ys a
    unfolding acc
    next_acc i [] a l = absurd (not-suc-le-zero l)
    next_acc zero (c ∷ cs) a l = refl
    next_acc (suc i) (c ∷ cs) a l = next_acc i cs (Ca.part (F c a)) (le_of_suc-le-suc l)

    all_tab : (i : ℕ) (ys : List C.Denot) (a : Y.Denot) → length ys ≤ i → tab i ys a ≡ sweep_t St.part Ca.part F ys a
    unfolding sweep_t tab
    all_tab zero [] a l = refl
    all_tab zero (c ∷ cs) a l = absurd (not-suc-le-zero l)
    all_tab (suc i) [] a l = refl
    all_tab (suc i) (c ∷ cs) a l = ap (λ (zs : List C.Denot). St.part (F c a) ∷ zs) (all_tab i cs (Ca.part (F c a)) (le_of_suc-le-suc l))

    all_acc : (i : ℕ) (ys : List C.Denot) (a : Y.Denot) → length ys ≤ i → acc i ys a ≡ sweep_a St.part Ca.part F ys a
    unfolding sweep_a acc
    all_acc zero [] a l = refl
    all_acc zero (c ∷ cs) a l = absurd (not-suc-le-zero l)
    all_acc (suc i) [] a l = refl
    all_acc (suc i) (c ∷ cs) a l = all_acc i cs (Ca.part (F c a)) (le_of_suc-le-suc l)

  -- ---- the walk
  module _ (F : C.Denot → Y.Denot → S.Denot) (f : Callee) {M : Type 1} {𝓤 : Ura M} (𝓛 : Logic 𝓤) (𝓣 : Tables 𝓤 𝓛.H) (known : Triple 𝓤 (𝓣.C f) (Takes (callee F) 𝓤 𝓛)) where
    open 𝓛 use {H}

    module _ (κ : Lft) (q : Share) (b o : ℕ) (γ : GName) (ys : List C.Denot) (a : Y.Denot) (room : Room C (length ys)) (a-is : Is Y a (EY.val a ∷ [])) (every : Every blank Asks ys) where
      abbrev s : List Val
      s = slice_val (b, o) (length ys) ∷ []

      abbrev y : (walk_of 𝓛 ended stayed (clauses F 𝓤)).Ghost
      y = (((κ, tt), (q, tt), tt, (xs_at C b o γ ys, (a, tt)), (s, (EY.val a ∷ [], tt))), tt)

      abbrev Post : Val → SProp 𝓤
      Post = (walk_of 𝓛 ended stayed (clauses F 𝓤)).post y

      exits : (r : Y.Denot) (zs : List C.Denot) → (r ≡ sweep_a St.part Ca.part F ys a) × (zs ≡ sweep_t St.part Ca.part F ys a) → length zs ≡ length ys → Is Y r (EY.val r ∷ []) → ent 𝓤 (⋆ 𝓛 (‵ (gave_at C κ b o γ (length ys) zs) ∷ ‵ (flft κ q) ∷ [])) (Post (EY.val r))
      exits r zs e l is =
          qed 𝓛 (‵ (gave_at C κ b o γ (length ys) zs) ∷ ‵ (flft κ q) ∷ []) ∵
          suffices ! _ (ends_at 𝓛 ended stayed (clauses F 𝓤) y (EY.val r) r (zs, (tt, tt)) (l, (tt, tt))) $ says ! e $
          nothing ! $ move ! (2 ∷ 0 ∷ []) $ join ! $ frame ! $ nothing ! $ nothing ! $ fjoin ! $ move ! (1 ∷ 0 ∷ []) $ fjoin ! $ frame ! $ owned ! Y (Is Y) (EY.makes 𝓛) r _ is $ done !

      module _ (l : ℕ → ℕ) where
        abbrev E : Env 𝓤 H
        E = env (function f).locals l

        -- the invariant: the slice, the token, and that what is carried is of its type; then the locals
        abbrev Inv : ℕ → List (Item 𝓤)
        Inv i = ‵ ((MutSlice (named 0) κ C).own_val (xs_at C b o γ (tab F i ys a)) s) ∷ ‵ (flft κ q) ∷ ‵ (Y.own_val (acc F i ys a) (EY.val (acc F i ys a) ∷ []))
            ∷ holding 𝓛 E ((1, slice_val (b, o) (length ys)) ∷ (2, EY.val a) ∷ (3, EY.val (acc F i ys a)) ∷ (4, vint w64 i) ∷ [])

        -- where the loop is left, the rest of the body runs
        abbrev Left : Kit.Post 𝓤 H
        Left = any_q (after_block 𝓤 H (after_seq 𝓤 H (Wp 𝓤 H 𝓣.C 𝓣.Λ E (rest f) (at_return 𝓤 H E Post)) (at_return 𝓤 H E Post)))

        turns : (i : ℕ) → Sq 𝓛 (Inv i) (runs 𝓣.C 𝓣.Λ E (turn f) (any_q (after_turn 𝓤 H (Below 𝓛 (left_of_lem (length ys)) Inv i) (Kit.post 𝓤 H Left))))
        unfolding after_turn
        turns i =
            let zs : List C.Denot = tab F i ys a in
            let k : Y.Denot = acc F i ys a in
            let c : C.Denot = get_or zs i blank in
            move ! (2 ∷ []) $ facts ! Y (Is Y) (shows 𝓛 Y) k _ (λ ik.
            -- [what t owns; the token; the locals]
            sets ! (of_opd ! (fld_at ! 1 refl refl refl)) refl (tt, record { fits = room.0 }) $
            sets ! (bin ! (get ! refl) (get ! refl) tt) refl (tt, tt) $
            tests ! (get ! refl)
            (λ h.
            let l : i < length ys = ltb→lt i (length ys) h in
            let l' : i < length zs = subst (λ (m : ℕ). i < m) (sym (as_long F i ys a)) l in
            let small : i * (mem C).size < 2 ^ 64 = in_room C i (length ys) l room in
            let next : i + 1 < 2 ^ 64 = omega (arith, room.0) in
            sets ! (bin ! (get ! refl) (lit ! fits) (record { fits = small })) refl (tt, record { fits = small }) $
            sets ! (elem_ptr ! (mem C).size o i (fld_at ! 0 refl refl refl) (get ! refl)) refl (tt, tt) $
            opens_at ! tt EC b o zs i blank l' (λ p is.
            sets ! (of_opd ! (load ! (through ! refl (stop !)) (look_raw ! 0 refl))) refl (EC.typed 𝓛 c is).0 $
            backs_at ! tt EC b o zs s i blank l' p is $
            calls_by ! (fm_of 𝓤 H 𝓛.laws 𝓣) (callee F) known (c, (k, tt)) (is, (ik, tt)) (subst Asks (sym (untouched F i ys a)) (every i l)) (λ _. and_then ! (get ! refl) (and_then ! (get ! refl) (no_more !))) (λ r ir e.
            let ic : Is C (St.part r) (EC.val (St.part r) ∷ []) = St.owed r ir in
            let ir' : Is Y (Ca.part r) (EY.val (Ca.part r) ∷ []) = Ca.owed r ir in
            let e' : r ≡ F (get_or ys i blank) k = e ∙ ap (λ (d : C.Denot). F d k) (untouched F i ys a) in
            let to_tab : set zs i (St.part r) ≡ tab F (i + 1) ys a = ap (λ (d : S.Denot). set zs i (St.part d)) e' ∙ next_tab F i ys a l ∙ ap (λ (m : ℕ). tab F m ys a) (sym (add-one i)) in
            let to_acc : Ca.part r ≡ acc F (i + 1) ys a = ap (λ (d : S.Denot). Ca.part d) e' ∙ next_acc F i ys a l ∙ ap (λ (m : ℕ). acc F m ys a) (sym (add-one i)) in
            let is₁ : Is Y (acc F (i + 1) ys a) (EY.val (acc F (i + 1) ys a) ∷ []) = subst (λ (d : Y.Denot). Is Y d (EY.val d ∷ [])) to_acc ir' in
            lands_as ! refl refl (ES.typed 𝓛 r ir).0 $
            sets ! (of_opd ! (has_at ! St r refl refl)) refl (EC.typed 𝓛 (St.part r) ic).0 $
            sets ! (bin ! (get ! refl) (lit ! fits) (record { fits = small })) refl (tt, record { fits = small }) $
            sets ! (elem_ptr ! (mem C).size o i (fld_at ! 0 refl refl refl) (get ! refl)) refl (tt, tt) $
            opens_at ! tt EC b o zs i blank l' (λ p' _.
            assigns ! (of_opd ! (get ! refl)) (through ! refl (stop !)) (store_raw ! 0 refl (EC.typed 𝓛 (St.part r) ic).0) $
            closes_at ! tt EC b o zs s i (St.part r) l' p' ic $
            sets ! (same_as ! (of_opd ! (has_at ! Ca r refl refl)) (ap (λ (d : Y.Denot). EY.val d) to_acc)) refl (EY.typed 𝓛 (acc F (i + 1) ys a) is₁).0 $
            sets_last ! (bin ! (get ! refl) (lit ! tt) (record { fits = next })) refl (tt, record { fits = next }) $
            rewrite ! 0 (λ (ws : List C.Denot). ‵ ((MutSlice (named 0) κ C).own_val (xs_at C b o γ ws) s)) to_tab refl $
            owned ! Y (Is Y) (EY.makes 𝓛) (acc F (i + 1) ys a) _ is₁ $ move ! (1 ∷ 2 ∷ 0 ∷ []) $
            forget_but ! E (1 ∷ 2 ∷ 3 ∷ 4 ∷ []) refl $ again ! (left_of_lem (length ys)) Inv i (i + 1) (omega (arith, l))))))
            (λ h.
            exec ! 𝓣.C 𝓣.Λ E (rest f) (at_ret E Post) $
            sets ! (of_opd ! (get ! refl)) refl (EY.typed 𝓛 k ik).0 $ gives_up ! C b o zs $ rewrite ! 0 (λ (m : ℕ). ‵ (gave_at C κ b o γ m zs)) (as_long F i ys a) refl $
            returns ! (look_at ! 0 refl) $ free_all ! refl $
            by ! (exits k zs (all_acc F i ys a (nltb→le i (length ys) h), all_tab F i ys a (nltb→le i (length ys) h)) (as_long F i ys a) ik)))

      walk : ent 𝓤 (on_entry 𝓛 ended.signature (κ, tt) (q, tt) y.0.3 y.0.4) (WpFn 𝓤 H 𝓣.C 𝓣.Λ (function f) (slice_val (b, o) (length ys) ∷ EY.val a ∷ []) Post)
      unfolding tab acc
      walk =
          qed 𝓛 ((‵ (flft κ q) ⊛ ‵ ftrue) ∷ ‵ (owns (MutSlice (named 0) κ C ∷ Y ∷ []) y.0.3 y.0.4) ∷ []) ∵
          move ! (1 ∷ []) $ fsplit ! $ move ! (1 ∷ []) $ drop ! $ move ! (1 ∷ []) $ split ! $ move ! (1 ∷ []) $ drop ! $ move ! (1 ∷ 0 ∷ []) $
          enter ! 𝓣.C 𝓣.Λ (function f) (slice_val (b, o) (length ys) ∷ EY.val a ∷ []) _ $
          alloc_all ! (λ l. pass_all ! refl ((tt, (tt, (record { fits = room.0 }, tt))), ((EY.typed 𝓛 a a-is).0, tt)) $
          sets ! (of_opd ! (get ! refl)) refl (EY.typed 𝓛 a a-is).0 $
          sets ! (of_opd ! (lit ! tt)) refl (tt, record { fits = lit< tt }) $
          owned ! Y (Is Y) (EY.makes 𝓛) a _ a-is $ move ! (1 ∷ 2 ∷ 0 ∷ []) $
          first ! $ blocks ! $ loops ! 𝓣 (left_of_lem (length ys)) (left_wf (length ys)) (Inv l) (turns l) 0)

    pub sweep_meets : Meets 𝓛 ended.signature (WpFn 𝓤 H 𝓣.C 𝓣.Λ (function f)) (closing 𝓛 ended (clauses F 𝓤))
    sweep_meets =
        meets_by 𝓛 ended stayed (Goes-gave_slice 𝓛 1 0 tt (plain (λ _. C)), (Goes-dropped 𝓛 1 (plain (λ _. Y)) yes (λ κs z f. refl), tt)) (clauses F 𝓤) (function f) 𝓣
        (λ κs. (mut_slice_vals, ((λ z. EY.val z ∷ []), tt))) (λ κs. (mut_slice_Tells (named 0) κs.0 C, (EY.tells, tt)))
        (λ κs qs bounds x g are. heeded 𝓤 asked (Every blank Asks x.0.now) _ _ (λ z i l. free z (get_or x.0.now i blank)) (walk κs.0 qs.0 x.0.ref_ptr.0 x.0.ref_ptr.1 x.0.ghost_name x.0.now x.1.0 are.0.0.1 are.1.0))
