-- ONE WALK FOR EVERY FOLD OVER THE FIRST RECORDS OF A LENT TABLE. A function of this form, whatever the functions `most` and `f` are, the plain
-- type R of the records, the type B of the elements of the slice that is lent along, and the plain type Y of what is carried:
--     pub fn f_all(t: &[R], along: &[B], start: Y) -> Y
--         ensures { result ≡ F t.now along.now start }
--     {
--         let n = most(t.len());
--         let mut a = start;
--         let mut j = 0;
--         while j < n {
--             let b = f(a, t[j], along, j);
--             a = b;
--             j = j + 1;
--         }
--         a
--     }
-- where `most(k: usize) -> usize` is covered, and `f(a: Y, c: R, along: &[B], j: usize) -> Y` has no `requires` and ensures
-- `result ≡ S a c along.now j`. The fold of S over the first n records is what F says (`fold_from S along 0 start (take n t) ≡ F t along start`),
-- as where nothing that comes behind them counts.
--     fold_meets   its arguments: the kind of R, any value of R, `tt`, B and its laws, the kind of Y, S, F; what `most` ensures of its argument and result (a
--                  relation), that the result is then at most the argument, and that the fold over so many is what F says; the names of most
--                  and f; then the model, the tables, and that each of the two meets its contract
-- The invariant: after i turns what is carried is `acc i`, over the first n.
-- Assumes nothing.
use types.Logic.{Logic, sem}
use Rattle.walks.proofs.Walk.{◌≡◌, refl, sym, ap, ◌∙◌, List, [], ◌∷◌, ℕ, zero, suc, ◌+◌, ◌*◌, ◌^◌, ◌<◌, ◌≤◌, arith, T, ltb, ltb→lt, nltb→le, lit<, length, get_or, Ura, named, imm, w64, Ty, ty_ptr, ty_int, ty_bool, ty_ref, Val, vint, SProp, ent, emp, via, fst∗, Lft, Share, Fml, ftrue, flft, Env, WpFn, Wp, Tables, after_block, after_seq, after_turn, at_return, Item, Sq, runs, any_q, at_ret, ‵, raw, ◌⊛◌, ⋆, ◌$◌, ◌∵◌, !, qed, by, use1, move, keep, drop, split, join, fsplit, fjoin, suffices, frame, done, look_raw, stop, load, lit, of_opd, bin, and_then, no_more, first, blocks, loops, again, Below, exec, returns, enter, fm_of, owns, Is, pointee, uint_Makes, usize, slice_val, slice_ty, ShrSlice, Room, shr_slice_Tells, plain, shr_slice_of, nothing, owned, heard, on_entry, triple_of, Contract, Triple, says, Stays, stay_dropped, walk_of, Goes-dropped, ends_at, yes, Fn, Body, local, value_local, place, field, deref, copy, int, rv_opd, op2, lt, mul, add, offset, unsigned, seq, assign, block, loop, skip, exit, cond, call, return, sep, id⊢, sem, use2, fact, RattleType, mem, shr_slice_copy, Clauses, Ended, closing, Meets, shr_slice_vals, alloc_all, pass_all, free_all, look_at, get, through, sets, lands_as, env, holding, forget_but, sets_last, Callee as Name}
use mathlib.Core.Path.{subst}
use lib.ListN.{take}
use lib.Seq.{length-take-le, get_or-take}
use native.Mathlib.Nat.{not-suc-le-zero, le_of_suc-le-suc}
use native.Mathlib.Numerals.{add-one}
use types.Kit as Kit
use types.ByLocal.{is as same_as}
use denote.RattleType.{RowLaws}
use denote.Laws.{shows}
use denote.Steps.{facts}
use Rattle.walks.specs.Fold.{fold_from}
use Rattle.walks.proofs.Plain.{Kind, of, letters, uint}
use Rattle.walks.proofs.ByValue.{ByValue, always, Takes, calls_by}
use Rattle.walks.proofs.Tab.{plainly, fld_at, elem_ptr, peeks_at, shuts_at, tests, left_of_lem, left_wf, calls_plain, meets_by, in_room, xs_in}

-- ---- the MIR
module _ (R B : RattleType) (τr τ : Ty) (g f : Name) where
  abbrev pub slice : Ty
  slice = slice_ty (ty_ref (named 0) imm (pointee R.written))

  abbrev pub slice₁ : Ty
  slice₁ = slice_ty (ty_ref (named 1) imm (pointee B.written))

  abbrev turn : Body
  turn = seq (assign (place 9 []) (op2 (lt unsigned) (copy (place 6 [])) (copy (place 4 []))))
      (seq (cond (copy (place 9 [])) skip (exit 1))
      (seq (assign (place 10 []) (op2 (mul unsigned) (copy (place 6 [])) (int w64 (mem (plainly R τr)).size)))
      (seq (assign (place 11 []) (op2 offset (copy (place 1 (field 0 ∷ []))) (copy (place 10 []))))
      (seq (assign (place 12 []) (rv_opd (copy (place 11 (deref τr ∷ [])))))
      (seq (call f (copy (place 5 []) ∷ copy (place 12 []) ∷ copy (place 2 []) ∷ copy (place 6 []) ∷ []) (place 7 []))
      (seq (assign (place 5 []) (rv_opd (copy (place 7 []))))
      (assign (place 6 []) (op2 (add unsigned) (copy (place 6 [])) (int w64 1)))))))))

  abbrev rest : Body
  rest = seq (assign (place 0 []) (rv_opd (copy (place 5 [])))) return

  abbrev pub function : Fn
  function = record {
    lifetimes = 2;
    outlives = [];
    ty_params = [];
    givens = 0;
    params = 3;
    locals = local τ value_local ∷ local slice value_local ∷ local slice₁ value_local ∷ local τ value_local ∷ local (ty_int w64) value_local ∷ local τ value_local ∷ local (ty_int w64) value_local ∷ local τ value_local
        ∷ local (ty_int w64) value_local ∷ local ty_bool value_local ∷ local (ty_int w64) value_local ∷ local ty_ptr value_local ∷ local τr value_local ∷ [];
    body = seq (assign (place 8 []) (rv_opd (copy (place 1 (field 1 ∷ [])))))
        (seq (call g (copy (place 8 []) ∷ []) (place 4 []))
        (seq (assign (place 5 []) (rv_opd (copy (place 3 []))))
        (seq (assign (place 6 []) (rv_opd (int w64 0)))
        (seq (block (loop turn))
        rest))));
  }

-- ---- the contracts
module _ (R B Y : RattleType) where
  abbrev pub ended : Ended
  ended = record { signature = record { lifetimes = 2; outlives = []; params = shr_slice_of (0 ∷ []) tt (plain (λ _. R)) ∷ shr_slice_of (1 ∷ []) tt (plain (λ _. B)) ∷ plain (λ _. Y) ∷ []; result = plain (λ _. Y) }; kept = (yes, (yes, (yes, tt))) }

  abbrev pub callee : Ended
  callee = record { signature = record { lifetimes = 1; outlives = []; params = plain (λ _. Y) ∷ plain (λ _. R) ∷ shr_slice_of (0 ∷ []) tt (plain (λ _. B)) ∷ plain (λ _. usize) ∷ []; result = plain (λ _. Y) }; kept = (yes, (yes, (yes, (yes, tt)))) }

  abbrev stayed : Stays ended.signature.params ended.kept
  stayed = (stay_dropped (shr_slice_of (0 ∷ []) tt (plain (λ _. R))) yes, (stay_dropped (shr_slice_of (1 ∷ []) tt (plain (λ _. B))) yes, (stay_dropped (plain (λ _. Y)) yes, tt)))

  module _ (F : List R.Denot → List B.Denot → Y.Denot → Y.Denot) {M : Type 1} (𝓤 : Ura M) where
    abbrev pub clauses : Clauses 𝓤 ended
    clauses κs a = record { ghost = Unit {0}; requires = λ _. emp 𝓤; ensures = λ _ r e. fact 𝓤 (r ≡ F a.0.now a.1.0.now a.1.1.0) }

  module _ (S : Y.Denot → R.Denot → List B.Denot → ℕ → Y.Denot) {M : Type 1} (𝓤 : Ura M) where
    abbrev pub called : Clauses 𝓤 callee
    called κs a = record { ghost = Unit {0}; requires = λ _. emp 𝓤; ensures = λ _ r _. fact 𝓤 (r ≡ S a.0 a.1.0 a.1.1.0.now a.1.1.1.0) }

    abbrev pub Callee : (𝓛 : Logic 𝓤) → Contract 𝓤
    Callee 𝓛 = triple_of 𝓛 callee.signature (closing 𝓛 callee called)

-- of the bound: by its argument, its result
abbrev pub bounding : (ℕ → ℕ → Type 0) → ByValue
bounding Bounds = always (uint w64 ∷ []) (uint w64) (λ a r. Bounds a.0 r)

-- ---- what is carried, after i turns
module _ {Y X B : Type 0} (S : Y → X → List B → ℕ → Y) (es : List B) where
  acc : ℕ → ℕ → Y → List X → Y
  acc zero j v ys = v
  acc (suc i) j v [] = v
  acc (suc i) j v (x ∷ xs) = acc i (suc j) (S v x es j) xs

  next_acc : (d : X) (i j k : ℕ) (v : Y) (ys : List X) → i < length ys → k ≡ i + j → S (acc i j v ys) (get_or ys i d) es k ≡ acc (suc i) j v ys
  unfolding acc
  next_acc d i j k v [] l e = absurd (not-suc-le-zero l)
  next_acc d zero j k v (x ∷ xs) l e = let e' : k ≡ j = omega arith in ap (λ (n : ℕ). S v x es n) e'
  next_acc d (suc i) j k v (x ∷ xs) l e = next_acc d i (suc j) k (S v x es j) xs (le_of_suc-le-suc l) (omega arith)

  all_acc : (i j : ℕ) (v : Y) (ys : List X) → length ys ≤ i → acc i j v ys ≡ fold_from S es j v ys
  unfolding fold_from acc
  all_acc zero j v [] l = refl
  all_acc zero j v (x ∷ xs) l = absurd (not-suc-le-zero l)
  all_acc (suc i) j v [] l = refl
  all_acc (suc i) j v (x ∷ xs) l = all_acc i (suc j) (S v x es j) xs (le_of_suc-le-suc l)

-- ---- the walk
module _ (KR : Kind) (d : KR.row.Denot) (fits : T (ltb (mem (of KR)).size (2 ^ 64))) (B : RattleType) (LB : RowLaws B) (KY : Kind) (S : KY.row.Denot → KR.row.Denot → List B.Denot → ℕ → KY.row.Denot)
    (F : List KR.row.Denot → List B.Denot → KY.row.Denot → KY.row.Denot) (Bounds : ℕ → ℕ → Type 0) (within : (n k : ℕ) → Bounds n k → k ≤ n)
    (agree : (ys : List KR.row.Denot) (es : List B.Denot) (a : KY.row.Denot) (k : ℕ) → Bounds (length ys) k → fold_from S es 0 a (take k ys) ≡ F ys es a) (g f : Name)
    {M : Type 1} {𝓤 : Ura M} (𝓛 : Logic 𝓤) (𝓣 : Tables 𝓤 𝓛.H) (k-most : Triple 𝓤 (𝓣.C g) (Takes (bounding Bounds) 𝓤 𝓛)) (known : Triple 𝓤 (𝓣.C f) (Callee (of KR) B (of KY) S 𝓤 𝓛)) where
  open 𝓛 use {H, A}
  open letters KR use {type as R, elem as ER}
  open letters KY use {type as Y, elem as EY}

  module _ (κ κ₁ : Lft) (q q₁ : Share) (b o b₁ o₁ : ℕ) (ys : List R.Denot) (es : List B.Denot) (a : Y.Denot) (room : Room R (length ys)) (room₁ : Room B (length es)) (a-is : Is Y a (EY.val a ∷ [])) where
    abbrev s : List Val
    s = slice_val (b, o) (length ys) ∷ []

    abbrev s₁ : List Val
    s₁ = slice_val (b₁, o₁) (length es) ∷ []

    abbrev y : (walk_of 𝓛 (ended R B Y) (stayed R B Y) (clauses R B Y F 𝓤)).Ghost
    y = (((κ, (κ₁, tt)), (q, (q₁, tt)), tt, (xs_in R b o ys, (xs_in B b₁ o₁ es, (a, tt))), (s, (s₁, (EY.val a ∷ [], tt)))), tt)

    abbrev Post : Val → SProp 𝓤
    Post = (walk_of 𝓛 (ended R B Y) (stayed R B Y) (clauses R B Y F 𝓤)).post y

    abbrev Own : Fml
    Own = (ShrSlice (named 0) κ R).own_val (xs_in R b o ys) s

    abbrev Own₁ : Fml
    Own₁ = (ShrSlice (named 1) κ₁ B).own_val (xs_in B b₁ o₁ es) s₁

    exits : (r : Y.Denot) → r ≡ F ys es a → Is Y r (EY.val r ∷ []) → ent 𝓤 (⋆ 𝓛 (‵ (flft κ q) ∷ ‵ (flft κ₁ q₁) ∷ [])) (Post (EY.val r))
    exits r e is =
        qed 𝓛 (‵ (flft κ q) ∷ ‵ (flft κ₁ q₁) ∷ []) ∵
        suffices ! _ (ends_at 𝓛 (ended R B Y) (stayed R B Y) (clauses R B Y F 𝓤) y (EY.val r) r (tt, (tt, (tt, tt))) (tt, (tt, (tt, tt)))) $ says ! e $
        nothing ! $ move ! (2 ∷ 0 ∷ []) $ join ! $ move ! (1 ∷ 0 ∷ []) $ join ! $ frame ! $ nothing ! $ nothing ! $ fjoin ! $ nothing ! $ fjoin ! $ nothing ! $ fjoin ! $ frame ! $ owned ! Y (Is Y) (EY.makes 𝓛) r _ is $ done !

    -- what f is passed
    abbrev to : Y.Denot → R.Denot → ℕ → (Callee R B Y S 𝓤 𝓛).Ghost
    to v c j = (((κ₁, tt), (q₁, tt), tt, (v, (c, (xs_in B b₁ o₁ es, (j, tt)))), (EY.val v ∷ [], (ER.val c ∷ [], (s₁, (vint w64 j ∷ [], tt))))), tt)

    asks : (v : Y.Denot) (c : R.Denot) (j : ℕ) → Is Y v (EY.val v ∷ []) → Is R c (ER.val c ∷ []) → j < 2 ^ 64 → ent 𝓤 (sep 𝓤 (sem 𝓛 Own₁) (A.lft κ₁ q₁)) ((Callee R B Y S 𝓤 𝓛).pre (to v c j))
    asks v c j iv ic j-fits = qed 𝓛 (‵ Own₁ ∷ ‵ (flft κ₁ q₁) ∷ []) ∵
        nothing ! $ owned ! usize (Is usize) (uint_Makes 𝓛 w64) j _ (refl, j-fits) $ fjoin ! $ move ! (1 ∷ 0 ∷ []) $ fjoin ! $ owned ! R (Is R) (ER.makes 𝓛) c _ ic $ fjoin ! $ owned ! Y (Is Y) (EY.makes 𝓛) v _ iv $ fjoin ! $
        nothing ! $ move ! (2 ∷ 0 ∷ []) $ join ! $ join ! $ frame ! $ done !

    -- n is k
    module _ (k : ℕ) (bounds : Bounds (length ys) k) (l : ℕ → ℕ) where
      abbrev E : Env 𝓤 H
      E = env (function R B KR.ty KY.ty g f).locals l

      -- what is carried after i turns
      abbrev so_far : ℕ → Y.Denot
      so_far i = acc S es i 0 a (take k ys)

      -- the invariant: the two slices with their tokens, and that what is carried is of its type; then the locals
      abbrev Inv : ℕ → List (Item 𝓤)
      Inv i = ‵ Own ∷ ‵ (flft κ q) ∷ ‵ Own₁ ∷ ‵ (flft κ₁ q₁) ∷ ‵ (Y.own_val (so_far i) (EY.val (so_far i) ∷ []))
          ∷ holding 𝓛 E ((1, slice_val (b, o) (length ys)) ∷ (2, slice_val (b₁, o₁) (length es)) ∷ (3, EY.val a) ∷ (4, vint w64 k) ∷ (5, EY.val (so_far i)) ∷ (6, vint w64 i) ∷ (8, vint w64 (length ys)) ∷ [])

      -- where the loop is left, the rest of the body runs
      abbrev Left : Kit.Post 𝓤 H
      Left = any_q (after_block 𝓤 H (after_seq 𝓤 H (Wp 𝓤 H 𝓣.C 𝓣.Λ E (rest R B KR.ty KY.ty g f) (at_return 𝓤 H E Post)) (at_return 𝓤 H E Post)))

      turns : (i : ℕ) → Sq 𝓛 (Inv i) (runs 𝓣.C 𝓣.Λ E (turn R B KR.ty KY.ty g f) (any_q (after_turn 𝓤 H (Below 𝓛 (left_of_lem k) Inv i) (Kit.post 𝓤 H Left))))
      unfolding after_turn
      turns i =
          let v : Y.Denot = so_far i in
          let c : R.Denot = get_or ys i d in
          let few : k ≤ length ys = within (length ys) k bounds in
          let all : length (take k ys) ≡ k = length-take-le k ys few in
          move ! (4 ∷ []) $ facts ! Y (Is Y) (shows 𝓛 Y) v _ (λ iv.
          -- [what t owns; its token; what the other owns; its token; the locals]
          sets ! (bin ! (get ! refl) (get ! refl) tt) refl (tt, tt) $
          tests ! (get ! refl)
          (λ h.
          let under : i < k = ltb→lt i k h in
          let l : i < length ys = omega (arith, under, few) in
          let small : i * (mem R).size < 2 ^ 64 = in_room R i (length ys) l room in
          let next : i + 1 < 2 ^ 64 = omega (arith, l, room.0) in
          sets ! (bin ! (get ! refl) (lit ! fits) (record { fits = small })) refl (tt, record { fits = small }) $
          sets ! (elem_ptr ! (mem R).size o i (fld_at ! 0 refl refl refl) (get ! refl)) refl (tt, tt) $
          peeks_at ! tt ER b o ys i d l (λ q' p is.
          sets ! (of_opd ! (load ! (through ! refl (stop !)) (look_raw ! 0 refl))) refl (ER.typed 𝓛 c is).0 $
          shuts_at ! tt ER b o ys s q' i d l p $
          move ! (2 ∷ []) $ use1 𝓛 (‵ Own₁ ⊛ ‵ Own₁) ((shr_slice_copy 𝓛 (named 1) κ₁ B LB).twice (xs_in B b₁ o₁ es) s₁) $ split ! $ move ! (0 ∷ 4 ∷ []) $
          use2 𝓛 (raw ((Callee R B Y S 𝓤 𝓛).pre (to v c i))) (asks v c i iv is (omega (arith, l, room.0))) $
          calls_plain ! (fm_of 𝓤 H 𝓛.laws 𝓣) (callee R B Y) (called R B Y S 𝓤) known (to v c i) EY (and_then ! (get ! refl) (and_then ! (get ! refl) (and_then ! (get ! refl) (and_then ! (get ! refl) (no_more !))))) (λ r ws ir.
          move ! (2 ∷ []) $ heard ! (r ≡ S v c es i) (λ e.
          use1 𝓛 (‵ (flft κ₁ q₁) ⊛ ‵ ftrue) (id⊢ 𝓤 _) $ split ! $ move ! (4 ∷ 5 ∷ 3 ∷ 0 ∷ []) $ move ! (4 ∷ []) $ drop ! $ move ! (4 ∷ []) $ drop ! $
          let to_acc : r ≡ so_far (i + 1) = e ∙ ap (λ (x : R.Denot). S v x es i) (sym (get_or-take k ys i d under)) ∙ next_acc S es d i 0 i a (take k ys) (omega (arith, under, all)) (omega arith) ∙ ap so_far (sym (add-one i)) in
          let is₁ : Is Y (so_far (i + 1)) (EY.val (so_far (i + 1)) ∷ []) = subst (λ (z : Y.Denot). Is Y z (EY.val z ∷ [])) to_acc ir in
          lands_as ! refl refl (EY.typed 𝓛 r ir).0 $
          sets ! (same_as ! (of_opd ! (get ! refl)) (ap (λ (z : Y.Denot). EY.val z) to_acc)) refl (EY.typed 𝓛 (so_far (i + 1)) is₁).0 $
          sets_last ! (bin ! (get ! refl) (lit ! tt) (record { fits = next })) refl (tt, record { fits = next }) $
          owned ! Y (Is Y) (EY.makes 𝓛) (so_far (i + 1)) _ is₁ $ move ! (1 ∷ 2 ∷ 3 ∷ 4 ∷ 0 ∷ []) $
          forget_but ! E (1 ∷ 2 ∷ 3 ∷ 4 ∷ 5 ∷ 6 ∷ 8 ∷ []) refl $ again ! (left_of_lem k) Inv i (i + 1) (omega (arith, under))))))
          (λ h.
          exec ! 𝓣.C 𝓣.Λ E (rest R B KR.ty KY.ty g f) (at_ret E Post) $
          sets ! (of_opd ! (get ! refl)) refl (EY.typed 𝓛 v iv).0 $
          returns ! (look_at ! 0 refl) $ free_all ! refl $
          let over : k ≤ i = nltb→le i k h in
          keep ! (1 ∷ 3 ∷ []) $ by ! (exits v (all_acc S es i 0 a (take k ys) (omega (arith, over, all)) ∙ agree ys es a k bounds) iv)))

    walk : ent 𝓤 (on_entry 𝓛 (ended R B Y).signature y.0.0 y.0.1 y.0.3 y.0.4) (WpFn 𝓤 H 𝓣.C 𝓣.Λ (function R B KR.ty KY.ty g f) (slice_val (b, o) (length ys) ∷ slice_val (b₁, o₁) (length es) ∷ EY.val a ∷ []) Post)
    unfolding acc
    walk =
        qed 𝓛 ((‵ (flft κ q) ⊛ ‵ (flft κ₁ q₁) ⊛ ‵ ftrue) ∷ ‵ (owns (ShrSlice (named 0) κ R ∷ ShrSlice (named 1) κ₁ B ∷ Y ∷ []) y.0.3 y.0.4) ∷ []) ∵
        move ! (1 ∷ []) $ fsplit ! $ move ! (1 ∷ []) $ fsplit ! $ move ! (1 ∷ []) $ drop ! $
        -- [what the other owns; what t owns; the tokens]
        move ! (2 ∷ []) $ split ! $ move ! (1 ∷ []) $ split ! $ move ! (1 ∷ []) $ drop ! $ move ! (3 ∷ 1 ∷ 2 ∷ 0 ∷ []) $
        enter ! 𝓣.C 𝓣.Λ (function R B KR.ty KY.ty g f) (slice_val (b, o) (length ys) ∷ slice_val (b₁, o₁) (length es) ∷ EY.val a ∷ []) _ $
        alloc_all ! (λ l. pass_all ! refl ((tt, (tt, (record { fits = room.0 }, tt))), ((tt, (tt, (record { fits = room₁.0 }, tt))), ((EY.typed 𝓛 a a-is).0, tt))) $
        sets ! (of_opd ! (fld_at ! 1 refl refl refl)) refl (tt, record { fits = room.0 }) $
        calls_by ! (fm_of 𝓤 H 𝓛.laws 𝓣) (bounding Bounds) k-most (length ys, tt) ((refl, room.0), tt) tt (λ x. and_then ! (get ! refl) (no_more !)) (λ k ik bounds. lands_as ! refl refl (tt, record { fits = ik.1 }) $
        sets ! (of_opd ! (get ! refl)) refl (EY.typed 𝓛 a a-is).0 $
        sets ! (of_opd ! (lit ! tt)) refl (tt, record { fits = lit< tt }) $
        owned ! Y (Is Y) (EY.makes 𝓛) a _ a-is $ move ! (1 ∷ 2 ∷ 3 ∷ 4 ∷ 0 ∷ []) $
        first ! $ blocks ! $ loops ! 𝓣 (left_of_lem k) (left_wf k) (Inv k bounds l) (turns k bounds l) 0))

  pub fold_meets : Meets 𝓛 (ended R B Y).signature (WpFn 𝓤 H 𝓣.C 𝓣.Λ (function R B KR.ty KY.ty g f)) (closing 𝓛 (ended R B Y) (clauses R B Y F 𝓤))
  fold_meets =
      meets_by 𝓛 (ended R B Y) (stayed R B Y) (Goes-dropped 𝓛 2 (shr_slice_of (0 ∷ []) tt (plain (λ _. R))) yes (λ κs z f. refl), (Goes-dropped 𝓛 2 (shr_slice_of (1 ∷ []) tt (plain (λ _. B))) yes (λ κs z f. refl), (Goes-dropped 𝓛 2 (plain (λ _. Y)) yes (λ κs z f. refl), tt)))
      (clauses R B Y F 𝓤) (function R B KR.ty KY.ty g f) 𝓣
      (λ κs. (shr_slice_vals, (shr_slice_vals, ((λ z. EY.val z ∷ []), tt)))) (λ κs. (shr_slice_Tells (named 0) κs.0 R, (shr_slice_Tells (named 1) κs.1.0 B, (EY.tells, tt))))
      (λ κs qs bounds x g are. via 𝓤 _ (fst∗ 𝓤 _ (emp 𝓤)) (walk κs.0 κs.1.0 qs.0 qs.1.0 x.0.ref_ptr.0 x.0.ref_ptr.1 x.1.0.ref_ptr.0 x.1.0.ref_ptr.1 x.0.now x.1.0.now x.1.1.0 are.0.0.1 are.1.0.0.1 are.1.1.0))
