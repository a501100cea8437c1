-- ONE WALK FOR EVERY TABLE THAT IS MADE FRESH FROM ANOTHER. A function of this form, whatever the function `f` is, and the plain types R and X:
--     pub fn fill(t: &mut [R], s: &[X]) -> usize
--         requires { length t.old ≡ length s.now }
--         ensures { (result ≡ length s.now) × (t.new ≡ map F s.now) }
--     {
--         let mut j = 0;
--         while j < t.len() {
--             let c = f(s[j]);
--             t[j] = c;
--             j = j + 1;
--         }
--         t.len()
--     }
-- where `f(x: X) -> R` has no `requires` and ensures `result ≡ F x`.
--     fill_meets   its arguments: the kind of R, any value of R, `tt`, the kind of X, any value of X, `tt`, F, and f's name; then the model, the
--                  tables, and that f meets its contract
-- The invariant: after i turns the first i of t are fresh (`tab i`).
-- Assumes nothing.
use types.Logic.{Logic}
use Rattle.walks.proofs.Walk.{◌≡◌, refl, sym, ap, ◌∙◌, List, [], ◌∷◌, ℕ, zero, suc, ◌+◌, ◌*◌, ◌^◌, ◌<◌, ◌≤◌, arith, T, ltb, ltb→lt, nltb→le, lit<, length, get_or, set, Ura, named, imm, mut, w64, Ty, ty_ptr, ty_int, ty_bool, ty_ref, Val, vint, SProp, ent, Lft, GName, Share, Fml, ftrue, flft, Env, WpFn, Wp, Tables, after_block, after_seq, after_turn, at_return, Item, Sq, runs, any_q, at_ret, ‵, ◌⊛◌, ⋆, ◌$◌, ◌∵◌, !, qed, by, move, keep, drop, split, join, rewrite, fsplit, fjoin, suffices, frame, done, look_raw, store_raw, stop, load, lit, of_opd, bin, and_then, no_more, assigns, first, blocks, loops, again, Below, exec, returns, enter, fm_of, owns, Is, pointee, uint_Makes, usize, slice_val, slice_ty, MutSlice, ShrSlice, Room, mut_slice_Tells, shr_slice_Tells, plain, shr_slice_of, nothing, owned, on_entry, Triple, says, needs, Stays, stay_dropped, gave_slice, walk_of, Goes-dropped, Goes-gave_slice, ends_at, yes, Fn, Body, local, value_local, place, field, deref, copy, int, rv_opd, op2, lt, mul, add, offset, unsigned, seq, assign, block, loop, skip, exit, cond, call, return, fact, RattleType, mem, mut_slice_of, Clauses, Ended, closing, Meets, shr_slice_vals, mut_slice_vals, alloc_all, pass_all, free_all, look_at, get, through, sets, lands_as, env, holding, forget_but, sets_last, Callee}
use mathlib.Core.Path.{subst}
use mathlib.Core.List.{map}
use native.Mathlib.Nat.{not-suc-le-zero, le_of_suc-le-suc}
use native.Mathlib.Numerals.{add-one}
use types.Kit as Kit
use Rattle.walks.proofs.Plain.{Kind, of, letters}
use Rattle.walks.proofs.Tab.{plainly, xs_at, fld_at, elem_ptr, peeks_at, shuts_at, opens_at, closes_at, gives_up, tests, left_of_lem, left_wf, meets_by, in_room, xs_in, gave_at}
use Rattle.walks.proofs.ByValue.{ByValue, always, Takes, calls_by}

-- ---- the MIR
module _ (R X : RattleType) (τr τx : Ty) (f : Callee) where
  abbrev slice : Ty
  slice = slice_ty (ty_ref (named 0) mut (pointee R.written))

  abbrev slice₁ : Ty
  slice₁ = slice_ty (ty_ref (named 1) imm (pointee X.written))

  abbrev turn : Body
  turn = seq (assign (place 5 []) (rv_opd (copy (place 1 (field 1 ∷ [])))))
      (seq (assign (place 6 []) (op2 (lt unsigned) (copy (place 3 [])) (copy (place 5 []))))
      (seq (cond (copy (place 6 [])) skip (exit 1))
      (seq (assign (place 5 []) (op2 (mul unsigned) (copy (place 3 [])) (int w64 (mem (plainly X τx)).size)))
      (seq (assign (place 7 []) (op2 offset (copy (place 2 (field 0 ∷ []))) (copy (place 5 []))))
      (seq (assign (place 8 []) (rv_opd (copy (place 7 (deref τx ∷ [])))))
      (seq (call f (copy (place 8 []) ∷ []) (place 4 []))
      (seq (assign (place 5 []) (op2 (mul unsigned) (copy (place 3 [])) (int w64 (mem (plainly R τr)).size)))
      (seq (assign (place 9 []) (op2 offset (copy (place 1 (field 0 ∷ []))) (copy (place 5 []))))
      (seq (assign (place 9 (deref τr ∷ [])) (rv_opd (copy (place 4 []))))
      (assign (place 3 []) (op2 (add unsigned) (copy (place 3 [])) (int w64 1))))))))))))

  abbrev rest : Body
  rest = seq (assign (place 0 []) (rv_opd (copy (place 1 (field 1 ∷ []))))) return

  abbrev pub function : Fn
  function = record {
    lifetimes = 2;
    outlives = [];
    ty_params = [];
    givens = 0;
    params = 2;
    locals = local (ty_int w64) value_local ∷ local slice value_local ∷ local slice₁ value_local ∷ local (ty_int w64) value_local ∷ local τr value_local ∷ local (ty_int w64) value_local ∷ local ty_bool value_local ∷ local ty_ptr value_local ∷ local τx value_local ∷ local ty_ptr value_local ∷ [];
    body = seq (assign (place 3 []) (rv_opd (int w64 0))) (seq (block (loop turn)) rest);
  }

-- ---- the contracts
module _ (R X : RattleType) where
  abbrev pub ended : Ended
  ended = record { signature = record { lifetimes = 2; outlives = []; params = mut_slice_of (0 ∷ []) tt (plain (λ _. R)) ∷ shr_slice_of (1 ∷ []) tt (plain (λ _. X)) ∷ []; result = plain (λ _. usize) }; kept = (yes, (yes, tt)) }

  abbrev stayed : Stays ended.signature.params ended.kept
  stayed = (gave_slice (0 ∷ []) tt (plain (λ _. R)), (stay_dropped (shr_slice_of (1 ∷ []) tt (plain (λ _. X))) yes, tt))

  module _ (F : X.Denot → R.Denot) {M : Type 1} (𝓤 : Ura M) where
    abbrev pub clauses : Clauses 𝓤 ended
    clauses κs a = record { ghost = Unit {0}; requires = λ _. fact 𝓤 (length a.0.now ≡ length a.1.0.now); ensures = λ _ r e. fact 𝓤 ((r ≡ length a.1.0.now) × (e.0.now ≡ map F a.1.0.now)) }

-- f takes plain data alone
module _ (KR KX : Kind) (F : KX.row.Denot → KR.row.Denot) where
  abbrev callee : ByValue
  callee = always (KX ∷ []) KR (λ a r. r ≡ F a.0)

-- ---- the table after i turns
module _ {R X : Type 0} (F : X → R) where
  tab : ℕ → List R → List X → List R
  tab zero ys xs = ys
  tab (suc i) [] xs = []
  tab (suc i) (y ∷ ys) [] = y ∷ ys
  tab (suc i) (y ∷ ys) (x ∷ xs) = F x ∷ tab i ys xs

  no_turn : (ys : List R) (xs : List X) → ys ≡ tab 0 ys xs
  unfolding tab
  no_turn ys xs = refl

  as_long : (i : ℕ) (ys : List R) (xs : List X) → length (tab i ys xs) ≡ length ys
  unfolding tab
  as_long zero ys xs = refl
  as_long (suc i) [] xs = refl
  as_long (suc i) (y ∷ ys) [] = refl
  as_long (suc i) (y ∷ ys) (x ∷ xs) = ap suc (as_long i ys xs)

  next_tab : (d : X) (i : ℕ) (ys : List R) (xs : List X) → i < length ys → i < length xs → set (tab i ys xs) i (F (get_or xs i d)) ≡ tab (suc i) ys xs
  unfolding tab
  next_tab d i [] xs l k = absurd (not-suc-le-zero l)
  next_tab d i (y ∷ ys) [] l k = absurd (not-suc-le-zero k)
  next_tab d zero (y ∷ ys) (x ∷ xs) l k = refl
  next_tab d (suc i) (y ∷ ys) (x ∷ xs) l k = ap (λ (zs : List R). F x ∷ zs) (next_tab d i ys xs (le_of_suc-le-suc l) (le_of_suc-le-suc k))

  all_tab : (i : ℕ) (ys : List R) (xs : List X) → length ys ≤ i → length ys ≡ length xs → tab i ys xs ≡ map F xs
  unfolding tab
  all_tab zero [] [] l e = refl
  all_tab zero [] (x ∷ xs) l e = let z : ◌≡◌ {A = ℕ} 0 1 = cc in absurd (omega arith)
  all_tab zero (y ∷ ys) xs l e = absurd (not-suc-le-zero l)
  all_tab (suc i) [] [] l e = refl
  all_tab (suc i) [] (x ∷ xs) l e = let z : ◌≡◌ {A = ℕ} 0 1 = cc in absurd (omega arith)
  all_tab (suc i) (y ∷ ys) [] l e = let z : ◌≡◌ {A = ℕ} 0 1 = cc in absurd (omega arith)
  all_tab (suc i) (y ∷ ys) (x ∷ xs) l e = ap (λ (zs : List R). F x ∷ zs) (all_tab i ys xs (le_of_suc-le-suc l) (cc))

-- ---- the walk
module _ (KR : Kind) (dr : KR.row.Denot) (fits-r : T (ltb (mem (of KR)).size (2 ^ 64))) (KX : Kind) (dx : KX.row.Denot) (fits-x : T (ltb (mem (of KX)).size (2 ^ 64))) (F : KX.row.Denot → KR.row.Denot) (f : Callee)
    {M : Type 1} {𝓤 : Ura M} (𝓛 : Logic 𝓤) (𝓣 : Tables 𝓤 𝓛.H) (known : Triple 𝓤 (𝓣.C f) (Takes (callee KR KX F) 𝓤 𝓛)) where
  open 𝓛 use {H}
  open letters KR use {type as R, elem as ER}
  open letters KX use {type as X, elem as EX}

  module _ (κ κ₁ : Lft) (q q₁ : Share) (b o b₁ o₁ : ℕ) (γ : GName) (ys : List R.Denot) (xs : List X.Denot) (room : Room R (length ys)) (room₁ : Room X (length xs)) where
    abbrev s : List Val
    s = slice_val (b, o) (length ys) ∷ []

    abbrev s₁ : List Val
    s₁ = slice_val (b₁, o₁) (length xs) ∷ []

    abbrev y : (walk_of 𝓛 (ended R X) (stayed R X) (clauses R X F 𝓤)).Ghost
    y = (((κ, (κ₁, tt)), (q, (q₁, tt)), tt, (xs_at R b o γ ys, (xs_in X b₁ o₁ xs, tt)), (s, (s₁, tt))), tt)

    abbrev Post : Val → SProp 𝓤
    Post = (walk_of 𝓛 (ended R X) (stayed R X) (clauses R X F 𝓤)).post y

    abbrev Own₁ : Fml
    Own₁ = (ShrSlice (named 1) κ₁ X).own_val (xs_in X b₁ o₁ xs) s₁

    exits : (r : ℕ) (zs : List R.Denot) → (r ≡ length xs) × (zs ≡ map F xs) → length zs ≡ length ys → r < 2 ^ 64 → ent 𝓤 (⋆ 𝓛 (‵ (gave_at R κ b o γ (length ys) zs) ∷ ‵ (flft κ q) ∷ ‵ (flft κ₁ q₁) ∷ [])) (Post (vint w64 r))
    exits r zs e l fits =
        qed 𝓛 (‵ (gave_at R κ b o γ (length ys) zs) ∷ ‵ (flft κ q) ∷ ‵ (flft κ₁ q₁) ∷ []) ∵
        suffices ! _ (ends_at 𝓛 (ended R X) (stayed R X) (clauses R X F 𝓤) y (vint w64 r) r (zs, (tt, tt)) (l, (tt, tt))) $ says ! e $
        nothing ! $ move ! (3 ∷ 0 ∷ []) $ join ! $ move ! (2 ∷ 0 ∷ []) $ join ! $ frame ! $ nothing ! $ nothing ! $ fjoin ! $ move ! (1 ∷ 0 ∷ []) $ fjoin ! $ frame ! $ owned ! usize (Is usize) (uint_Makes 𝓛 w64) r _ (refl, fits) $ done !

    module _ (same : length ys ≡ length xs) where
      module _ (l : ℕ → ℕ) where
        abbrev E : Env 𝓤 H
        E = env (function R X KR.ty KX.ty f).locals l

        -- the invariant: the slices and the tokens; then the locals
        abbrev Inv : ℕ → List (Item 𝓤)
        Inv i = ‵ ((MutSlice (named 0) κ R).own_val (xs_at R b o γ (tab F i ys xs)) s) ∷ ‵ (flft κ q) ∷ ‵ Own₁ ∷ ‵ (flft κ₁ q₁)
            ∷ holding 𝓛 E ((1, slice_val (b, o) (length ys)) ∷ (2, slice_val (b₁, o₁) (length xs)) ∷ (3, vint w64 i) ∷ [])

        -- where the loop is left, the rest of the body runs
        abbrev Left : Kit.Post 𝓤 H
        Left = any_q (after_block 𝓤 H (after_seq 𝓤 H (Wp 𝓤 H 𝓣.C 𝓣.Λ E (rest R X KR.ty KX.ty f) (at_return 𝓤 H E Post)) (at_return 𝓤 H E Post)))

        turns : (i : ℕ) → Sq 𝓛 (Inv i) (runs 𝓣.C 𝓣.Λ E (turn R X KR.ty KX.ty f) (any_q (after_turn 𝓤 H (Below 𝓛 (left_of_lem (length ys)) Inv i) (Kit.post 𝓤 H Left))))
        unfolding after_turn
        turns i =
            let zs : List R.Denot = tab F i ys xs in
            let x : X.Denot = get_or xs i dx in
            -- [what t owns; its token; what s owns; its token; the locals]
            sets ! (of_opd ! (fld_at ! 1 refl refl refl)) refl (tt, record { fits = room.0 }) $
            sets ! (bin ! (get ! refl) (get ! refl) tt) refl (tt, tt) $
            tests ! (get ! refl)
            (λ h.
            let l : i < length ys = ltb→lt i (length ys) h in
            let l₁' : i < length xs = subst (λ (m : ℕ). i < m) same l in
            let l' : i < length zs = subst (λ (m : ℕ). i < m) (sym (as_long F i ys xs)) l in
            let small : i * (mem R).size < 2 ^ 64 = in_room R i (length ys) l room in
            let small₁ : i * (mem X).size < 2 ^ 64 = in_room X i (length xs) l₁' room₁ in
            let next : i + 1 < 2 ^ 64 = omega (arith, room.0) in
            sets ! (bin ! (get ! refl) (lit ! fits-x) (record { fits = small₁ })) refl (tt, record { fits = small₁ }) $
            sets ! (elem_ptr ! (mem X).size o₁ i (fld_at ! 0 refl refl refl) (get ! refl)) refl (tt, tt) $
            move ! (2 ∷ 3 ∷ []) $ peeks_at ! tt EX b₁ o₁ xs i dx l₁' (λ q' p ix.
            sets ! (of_opd ! (load ! (through ! refl (stop !)) (look_raw ! 0 refl))) refl (EX.typed 𝓛 x ix).0 $
            shuts_at ! tt EX b₁ o₁ xs s₁ q' i dx l₁' p $ move ! (2 ∷ 3 ∷ []) $
            calls_by ! (fm_of 𝓤 H 𝓛.laws 𝓣) (callee KR KX F) known (x, tt) (ix, tt) tt (λ _. and_then ! (get ! refl) (no_more !)) (λ r ir e.
            let to_tab : set zs i r ≡ tab F (i + 1) ys xs = ap (λ (d : R.Denot). set zs i d) e ∙ next_tab F dx i ys xs l l₁' ∙ ap (λ (m : ℕ). tab F m ys xs) (sym (add-one i)) in
            lands_as ! refl refl (ER.typed 𝓛 r ir).0 $
            sets ! (bin ! (get ! refl) (lit ! fits-r) (record { fits = small })) refl (tt, record { fits = small }) $
            sets ! (elem_ptr ! (mem R).size o i (fld_at ! 0 refl refl refl) (get ! refl)) refl (tt, tt) $
            opens_at ! tt ER b o zs i dr l' (λ p' _.
            assigns ! (of_opd ! (get ! refl)) (through ! refl (stop !)) (store_raw ! 0 refl (ER.typed 𝓛 r ir).0) $
            closes_at ! tt ER b o zs s i r l' p' ir $
            sets_last ! (bin ! (get ! refl) (lit ! tt) (record { fits = next })) refl (tt, record { fits = next }) $
            rewrite ! 0 (λ (ws' : List R.Denot). ‵ ((MutSlice (named 0) κ R).own_val (xs_at R b o γ ws') s)) to_tab refl $
            forget_but ! E (1 ∷ 2 ∷ 3 ∷ []) refl $ again ! (left_of_lem (length ys)) Inv i (i + 1) (omega (arith, l))))))
            (λ h.
            let k : length ys ≤ i = nltb→le i (length ys) h in
            exec ! 𝓣.C 𝓣.Λ E (rest R X KR.ty KX.ty f) (at_ret E Post) $
            sets ! (of_opd ! (fld_at ! 1 refl refl refl)) refl (tt, record { fits = room.0 }) $ gives_up ! R b o zs $ rewrite ! 0 (λ (m : ℕ). ‵ (gave_at R κ b o γ m zs)) (as_long F i ys xs) refl $
            returns ! (look_at ! 0 refl) $ free_all ! refl $
            keep ! (0 ∷ 1 ∷ 3 ∷ []) $ by ! (exits (length ys) zs (same, all_tab F i ys xs k same) (as_long F i ys xs) room.0))

      walk : ent 𝓤 (on_entry 𝓛 (ended R X).signature y.0.0 y.0.1 y.0.3 y.0.4) (WpFn 𝓤 H 𝓣.C 𝓣.Λ (function R X KR.ty KX.ty f) (slice_val (b, o) (length ys) ∷ slice_val (b₁, o₁) (length xs) ∷ []) Post)
      walk =
          qed 𝓛 ((‵ (flft κ q) ⊛ ‵ (flft κ₁ q₁) ⊛ ‵ ftrue) ∷ ‵ (owns (MutSlice (named 0) κ R ∷ ShrSlice (named 1) κ₁ X ∷ []) y.0.3 y.0.4) ∷ []) ∵
          move ! (1 ∷ []) $ fsplit ! $ move ! (1 ∷ []) $ fsplit ! $ move ! (1 ∷ []) $ drop ! $
          move ! (2 ∷ []) $ split ! $ move ! (1 ∷ []) $ split ! $ move ! (1 ∷ []) $ drop ! $ move ! (3 ∷ 1 ∷ 2 ∷ 0 ∷ []) $
          enter ! 𝓣.C 𝓣.Λ (function R X KR.ty KX.ty f) (slice_val (b, o) (length ys) ∷ slice_val (b₁, o₁) (length xs) ∷ []) _ $
          alloc_all ! (λ l. pass_all ! refl ((tt, (tt, (record { fits = room.0 }, tt))), ((tt, (tt, (record { fits = room₁.0 }, tt))), tt)) $
          sets ! (of_opd ! (lit ! tt)) refl (tt, record { fits = lit< tt }) $
          rewrite ! 0 (λ (zs : List R.Denot). ‵ ((MutSlice (named 0) κ R).own_val (xs_at R b o γ zs) s)) (no_turn F ys xs) refl $
          first ! $ blocks ! $ loops ! 𝓣 (left_of_lem (length ys)) (left_wf (length ys)) (Inv l) (turns l) 0)

  pub fill_meets : Meets 𝓛 (ended R X).signature (WpFn 𝓤 H 𝓣.C 𝓣.Λ (function R X KR.ty KX.ty f)) (closing 𝓛 (ended R X) (clauses R X F 𝓤))
  fill_meets =
      meets_by 𝓛 (ended R X) (stayed R X) (Goes-gave_slice 𝓛 2 0 tt (plain (λ _. R)), (Goes-dropped 𝓛 2 (shr_slice_of (1 ∷ []) tt (plain (λ _. X))) yes (λ κs z f. refl), tt)) (clauses R X F 𝓤) (function R X KR.ty KX.ty f) 𝓣
      (λ κs. (mut_slice_vals, (shr_slice_vals, tt))) (λ κs. (mut_slice_Tells (named 0) κs.0 R, (shr_slice_Tells (named 1) κs.1.0 X, tt)))
      (λ κs qs bounds a g are. needs 𝓤 _ _ (walk κs.0 κs.1.0 qs.0 qs.1.0 a.0.ref_ptr.0 a.0.ref_ptr.1 a.1.0.ref_ptr.0 a.1.0.ref_ptr.1 a.0.ghost_name a.0.now a.1.0.now are.0.0.1 are.1.0.0.1))
