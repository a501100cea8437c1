-- ONE WALK FOR EVERY CALL THAT SERVES ONE RECORD OF A TABLE, FILES AND REPLIES. A function of this form, whatever the four functions that it
-- calls are and the plain types that `Served.antt` names, with P the plain type of its argument and Y that of what is carried over the table:
--     pub fn call(t: &mut [Channel], mem: &mut [u8], lens: &mut [u16], lines: &mut [u8], n: P, x: &[u8], out: &mut [u8]) -> Answer
--     {
--         let a = begin(lines, n, x, out.len());
--         let v = survey(t, lens, a);
--         let d = decide(v, t.len(), mem.len(), lens.len());
--         if d.at < t.len() {
--             let s = step(t[d.at], d, n, mem, lens, lines, x, out);
--             t[d.at] = s.channel;
--             s.answer
--         } else {
--             d.answer
--         }
--     }
-- where begin has the lines as a `&[u8]`. `Says` has what each of them ensures, as relations, and that the call's own follows. Only the step may have a `requires`, a single one.
--     call_meets   its arguments: the types (`Served`), the kinds of P and Y, what is said (`Says`; `Serving.antt` makes it of equations), the
--                  names of begin, survey, decide and the step; then the model, the tables, and that each of them meets its contract
-- Assumes nothing.
use types.Logic.{Logic}
use Rattle.walks.proofs.Walk.{◌≡◌, refl, Bool, List, [], ◌∷◌, ℕ, ◌*◌, ◌^◌, ◌<◌, ◌≤◌, ltb→lt, nltb→le, length, get_or, set, length-set, Ura, full_share, named, imm, mut, w8, w16, w64, Ty, ty_ptr, ty_int, ty_bool, ty_ref, Val, vint, SProp, ent, emp, via, fst∗, Lft, GName, Share, Fml, flft, WpFn, Tables, ‵, raw, ◌⊛◌, ⋆, ◌$◌, ◌∵◌, !, qed, by, use0, use1, move, keep, drop, group, split, join, fsplit, fjoin, suffices, frame, done, agg, look_raw, store_raw, stop, from, load, lit, of_opd, bin, and_then, no_more, assigns, first, branches, returns, enter, fm_of, owns, Is, pointee, uint_Makes, u8, u16, usize, slice_val, slice_ty, MutSlice, ShrSlice, Room, mut_slice_Tells, shr_slice_Tells, plain, shr_slice_of, nothing, owned, heard, on_entry, Lasts, lasts, triple_of, Contract, Triple, says, Stays, stay_dropped, gave_slice, walk_of, Goes-dropped, Goes-gave_slice, ends_at, yes, Fn, Body, erased, local, value_local, place, field, deref, copy, int, rv_opd, op2, lt, mul, offset, unsigned, addr_of, aggregate, seq, assign, cond, call, return, id⊢, fact, RattleType, mem, mut_slice_of, shr_slice_copy, Clauses, Ended, closing, Meets, Callee, shr_slice_vals, mut_slice_vals, alloc_all, pass_all, free_all, look_at, set_at, get, through, sets, lands_as, ftrue, arith, rewrite}
use Rattle.walks.proofs.Tab.{uint_elem, xs_at, xs_in, mut_at, shr_at, gave_at, fld_at, ptr_at, elem_ptr, opens_at, backs_at, closes_at, gives_up, gave_up, assigns_out, calls_plain, meets_by, in_room}
use denote.Plain.{uint_row_laws}
use Rattle.walks.proofs.Lend.{shares_on, unshares}
use Rattle.walks.proofs.Plain.{Kind, of, has_at, letters}
use Rattle.walks.proofs.Served.{Served, need, needed}
use Rattle.walks.proofs.ByValue.{ByValue, Takes, calls_by}
use Rattle.walks.proofs.Surveyed.{Survey, deciding, surveys_both}

module _ (K : Served) where
  open letters K.channel use {type as C, elem as EC}
  open letters K.answer use {type as N, elem as EN}
  open letters K.decision use {type as D, elem as ED}
  open letters K.outcome use {type as S, elem as ES}

  -- what the functions ensure, and what follows of it
  pub record Says (P Y : RattleType) : Type 1 where
    -- begin: by the lines, the argument, x and the length of out, what is carried at first
    pub Begins : List ℕ → P.Denot → List ℕ → ℕ → Y.Denot → Type 0
    -- survey: by the table, lens and what is carried at first, what is carried at last
    pub Surveys : List C.Denot → List ℕ → Y.Denot → Y.Denot → Type 0
    -- decide: by what is carried and the lengths of the table, mem and lens, the decision
    pub Decides : Y.Denot → ℕ → ℕ → ℕ → D.Denot → Type 0
    -- step: whether it has a `requires`, and what that asks of the record, the decision and the argument, mem, lens, lines, x, out; and by
    -- these, the outcome, and mem, lens, lines, out then
    pub asks : Bool
    pub Asks : C.Denot → D.Denot → P.Denot → List ℕ → List ℕ → List ℕ → List ℕ → List ℕ → Type 0
    pub Steps : C.Denot → D.Denot → P.Denot → List ℕ → List ℕ → List ℕ → List ℕ → List ℕ → S.Denot → List ℕ → List ℕ → List ℕ → List ℕ → Type 0
    -- the call: by the table, mem, lens, lines, the argument, x, out, the answer, and the table, mem, lens, lines, out then
    pub Calls : List C.Denot → List ℕ → List ℕ → List ℕ → P.Denot → List ℕ → List ℕ → N.Denot → List C.Denot → List ℕ → List ℕ → List ℕ → List ℕ → Type 0
    -- the step may be called
    pub may : (ys : List C.Denot) (m l li : List ℕ) (n : P.Denot) (x o : List ℕ) (a v : Y.Denot) (d : D.Denot) → Begins li n x (length o) a → Surveys ys l a v → Decides v (length ys) (length m) (length l) d
        → K.at.part d < length ys → Asks (get_or ys (K.at.part d) K.blank) d n m l li x o
    -- the call's own, where the decision is an index of the table, and where it is none
    pub serves : (ys : List C.Denot) (m l li : List ℕ) (n : P.Denot) (x o : List ℕ) (a v : Y.Denot) (d : D.Denot) (r : S.Denot) (m' l' li' o' : List ℕ) → Begins li n x (length o) a → Surveys ys l a v → Decides v (length ys) (length m) (length l) d
        → K.at.part d < length ys → Steps (get_or ys (K.at.part d) K.blank) d n m l li x o r m' l' li' o' → Calls ys m l li n x o (K.said.part r) (set ys (K.at.part d) (K.stored.part r)) m' l' li' o'
    pub refuses : (ys : List C.Denot) (m l li : List ℕ) (n : P.Denot) (x o : List ℕ) (a v : Y.Denot) (d : D.Denot) → Begins li n x (length o) a → Surveys ys l a v → Decides v (length ys) (length m) (length l) d
        → length ys ≤ K.at.part d → Calls ys m l li n x o (K.unserved.part d) ys m l li o

  -- ---- the MIR
  module _ (τp τ : Ty) (fb fs fd ff : Callee) where
    abbrev rest : Body
    rest = seq (assign (place 0 []) (rv_opd (copy (place 22 [])))) return

    abbrev pub function : Fn
    function = record {
      lifetimes = 6;
      outlives = [];
      ty_params = [];
      givens = 0;
      params = 7;
      locals = local K.answer.ty value_local ∷ local (slice_ty (ty_ref (named 0) mut (pointee C.written))) value_local ∷ local (slice_ty (ty_ref (named 1) mut (ty_int w8))) value_local ∷ local (slice_ty (ty_ref (named 2) mut (ty_int w16))) value_local ∷ local (slice_ty (ty_ref (named 3) mut (ty_int w8))) value_local ∷ local τp value_local ∷ local (slice_ty (ty_ref (named 4) imm (ty_int w8))) value_local ∷ local (slice_ty (ty_ref (named 5) mut (ty_int w8))) value_local ∷ local τ value_local ∷ local τ value_local ∷ local K.decision.ty value_local ∷ local K.outcome.ty value_local ∷ local (ty_ref erased imm (ty_int w8)) value_local ∷ local (slice_ty (ty_ref erased imm (ty_int w8))) value_local ∷ local (ty_int w64) value_local ∷ local (ty_ref erased imm (pointee C.written)) value_local ∷ local (slice_ty (ty_ref erased imm (pointee C.written))) value_local ∷ local (ty_ref erased imm (ty_int w16)) value_local ∷ local (slice_ty (ty_ref erased imm (ty_int w16))) value_local ∷ local (ty_int w64) value_local ∷ local (ty_int w64) value_local ∷ local ty_bool value_local ∷ local K.answer.ty value_local ∷ local (ty_int w64) value_local ∷ local (ty_int w64) value_local ∷ local ty_ptr value_local ∷ local K.channel.ty value_local ∷ local (ty_ref erased mut (ty_int w8)) value_local ∷ local (slice_ty (ty_ref erased mut (ty_int w8))) value_local ∷ local (ty_ref erased mut (ty_int w16)) value_local ∷ local (slice_ty (ty_ref erased mut (ty_int w16))) value_local ∷ local (ty_ref erased mut (ty_int w8)) value_local ∷ local (slice_ty (ty_ref erased mut (ty_int w8))) value_local ∷ local (ty_ref erased mut (ty_int w8)) value_local ∷ local (slice_ty (ty_ref erased mut (ty_int w8))) value_local ∷ local K.channel.ty value_local ∷ local (ty_int w64) value_local ∷ local ty_ptr value_local ∷ [];
      body = seq (assign (place 12 []) (addr_of (place 4 (field 0 ∷ deref (ty_int w8) ∷ []))))
          (seq (assign (place 13 []) (aggregate ((copy (place 12 [])) ∷ (copy (place 4 (field 1 ∷ []))) ∷ [])))
          (seq (assign (place 14 []) (rv_opd (copy (place 7 (field 1 ∷ [])))))
          (seq (call fb ((copy (place 13 [])) ∷ (copy (place 5 [])) ∷ (copy (place 6 [])) ∷ (copy (place 14 [])) ∷ []) (place 8 []))
          (seq (assign (place 15 []) (addr_of (place 1 (field 0 ∷ deref K.channel.ty ∷ []))))
          (seq (assign (place 16 []) (aggregate ((copy (place 15 [])) ∷ (copy (place 1 (field 1 ∷ []))) ∷ [])))
          (seq (assign (place 17 []) (addr_of (place 3 (field 0 ∷ deref (ty_int w16) ∷ []))))
          (seq (assign (place 18 []) (aggregate ((copy (place 17 [])) ∷ (copy (place 3 (field 1 ∷ []))) ∷ [])))
          (seq (call fs ((copy (place 16 [])) ∷ (copy (place 18 [])) ∷ (copy (place 8 [])) ∷ []) (place 9 []))
          (seq (assign (place 14 []) (rv_opd (copy (place 1 (field 1 ∷ [])))))
          (seq (assign (place 19 []) (rv_opd (copy (place 2 (field 1 ∷ [])))))
          (seq (assign (place 20 []) (rv_opd (copy (place 3 (field 1 ∷ [])))))
          (seq (call fd ((copy (place 9 [])) ∷ (copy (place 14 [])) ∷ (copy (place 19 [])) ∷ (copy (place 20 [])) ∷ []) (place 10 []))
          (seq (assign (place 14 []) (rv_opd (copy (place 1 (field 1 ∷ [])))))
          (seq (assign (place 21 []) (op2 (lt unsigned) (copy (place 10 (field K.at.index ∷ []))) (copy (place 14 []))))
          (seq (cond (copy (place 21 []))
          (seq (assign (place 23 []) (rv_opd (copy (place 10 (field K.at.index ∷ [])))))
          (seq (assign (place 24 []) (op2 (mul unsigned) (copy (place 23 [])) (int w64 (mem C).size)))
          (seq (assign (place 25 []) (op2 offset (copy (place 1 (field 0 ∷ []))) (copy (place 24 []))))
          (seq (assign (place 26 []) (rv_opd (copy (place 25 (deref K.channel.ty ∷ [])))))
          (seq (assign (place 27 []) (addr_of (place 2 (field 0 ∷ deref (ty_int w8) ∷ []))))
          (seq (assign (place 28 []) (aggregate ((copy (place 27 [])) ∷ (copy (place 2 (field 1 ∷ []))) ∷ [])))
          (seq (assign (place 29 []) (addr_of (place 3 (field 0 ∷ deref (ty_int w16) ∷ []))))
          (seq (assign (place 30 []) (aggregate ((copy (place 29 [])) ∷ (copy (place 3 (field 1 ∷ []))) ∷ [])))
          (seq (assign (place 31 []) (addr_of (place 4 (field 0 ∷ deref (ty_int w8) ∷ []))))
          (seq (assign (place 32 []) (aggregate ((copy (place 31 [])) ∷ (copy (place 4 (field 1 ∷ []))) ∷ [])))
          (seq (assign (place 33 []) (addr_of (place 7 (field 0 ∷ deref (ty_int w8) ∷ []))))
          (seq (assign (place 34 []) (aggregate ((copy (place 33 [])) ∷ (copy (place 7 (field 1 ∷ []))) ∷ [])))
          (seq (call ff ((copy (place 26 [])) ∷ (copy (place 10 [])) ∷ (copy (place 5 [])) ∷ (copy (place 28 [])) ∷ (copy (place 30 [])) ∷ (copy (place 32 [])) ∷ (copy (place 6 [])) ∷ (copy (place 34 [])) ∷ []) (place 11 []))
          (seq (assign (place 35 []) (rv_opd (copy (place 11 (field K.stored.index ∷ [])))))
          (seq (assign (place 36 []) (rv_opd (copy (place 10 (field K.at.index ∷ [])))))
          (seq (assign (place 24 []) (op2 (mul unsigned) (copy (place 36 [])) (int w64 (mem C).size)))
          (seq (assign (place 37 []) (op2 offset (copy (place 1 (field 0 ∷ []))) (copy (place 24 []))))
          (seq (assign (place 37 (deref K.channel.ty ∷ [])) (rv_opd (copy (place 35 []))))
          (assign (place 22 []) (rv_opd (copy (place 11 (field K.said.index ∷ [])))))))))))))))))))))))
          (assign (place 22 []) (rv_opd (copy (place 10 (field K.unserved.index ∷ []))))))
          rest)))))))))))))));
    }

  -- ---- the contracts, for an argument of the type P, and what is carried of the type Y
  module _ (P Y : RattleType) where
    abbrev pub ended : Ended
    ended = record {
      signature = record { lifetimes = 6; outlives = []; params = mut_slice_of (0 ∷ []) tt (plain (λ _. C)) ∷ mut_slice_of (1 ∷ []) tt (plain (λ _. u8)) ∷ mut_slice_of (2 ∷ []) tt (plain (λ _. u16)) ∷ mut_slice_of (3 ∷ []) tt (plain (λ _. u8)) ∷ plain (λ _. P) ∷ shr_slice_of (4 ∷ []) tt (plain (λ _. u8)) ∷ mut_slice_of (5 ∷ []) tt (plain (λ _. u8)) ∷ []; result = plain (λ _. N) };
      kept = (yes, (yes, (yes, (yes, (yes, (yes, (yes, tt)))))));
    }

    abbrev stayed : Stays ended.signature.params ended.kept
    stayed = (gave_slice (0 ∷ []) tt (plain (λ _. C)), (gave_slice (1 ∷ []) tt (plain (λ _. u8)), (gave_slice (2 ∷ []) tt (plain (λ _. u16)), (gave_slice (3 ∷ []) tt (plain (λ _. u8)), (stay_dropped (plain (λ _. P)) yes, (stay_dropped (shr_slice_of (4 ∷ []) tt (plain (λ _. u8))) yes, (gave_slice (5 ∷ []) tt (plain (λ _. u8)), tt)))))))

    abbrev begins : Ended
    begins = record { signature = record { lifetimes = 2; outlives = []; params = shr_slice_of (0 ∷ []) tt (plain (λ _. u8)) ∷ plain (λ _. P) ∷ shr_slice_of (1 ∷ []) tt (plain (λ _. u8)) ∷ plain (λ _. usize) ∷ []; result = plain (λ _. Y) }; kept = (yes, (yes, (yes, (yes, tt)))) }

    abbrev steps : Ended
    steps = record {
      signature = record { lifetimes = 5; outlives = []; params = plain (λ _. C) ∷ plain (λ _. D) ∷ plain (λ _. P) ∷ mut_slice_of (0 ∷ []) tt (plain (λ _. u8)) ∷ mut_slice_of (1 ∷ []) tt (plain (λ _. u16)) ∷ mut_slice_of (2 ∷ []) tt (plain (λ _. u8)) ∷ shr_slice_of (3 ∷ []) tt (plain (λ _. u8)) ∷ mut_slice_of (4 ∷ []) tt (plain (λ _. u8)) ∷ []; result = plain (λ _. S) };
      kept = (yes, (yes, (yes, (yes, (yes, (yes, (yes, (yes, tt))))))));
    }

    module _ (Z : Says P Y) {M : Type 1} (𝓤 : Ura M) where
      abbrev pub clauses : Clauses 𝓤 ended
      clauses κs a = record { ghost = Unit {0}; requires = λ _. emp 𝓤; ensures = λ _ r e. fact 𝓤 (Z.Calls a.0.now a.1.0.now a.1.1.0.now a.1.1.1.0.now a.1.1.1.1.0 a.1.1.1.1.1.0.now a.1.1.1.1.1.1.0.now r e.0.now e.1.0.now e.1.1.0.now e.1.1.1.0.now e.1.1.1.1.1.1.0.now) }

      abbrev begin_says : Clauses 𝓤 begins
      begin_says κs a = record { ghost = Unit {0}; requires = λ _. emp 𝓤; ensures = λ _ r e. fact 𝓤 (Z.Begins a.0.now a.1.0 a.1.1.0.now a.1.1.1.0 r) }

      abbrev step_says : Clauses 𝓤 steps
      step_says κs a = record { ghost = Unit {0}; requires = λ _. need 𝓤 Z.asks (Z.Asks a.0 a.1.0 a.1.1.0 a.1.1.1.0.now a.1.1.1.1.0.now a.1.1.1.1.1.0.now a.1.1.1.1.1.1.0.now a.1.1.1.1.1.1.1.0.now); ensures = λ _ r e. fact 𝓤 (Z.Steps a.0 a.1.0 a.1.1.0 a.1.1.1.0.now a.1.1.1.1.0.now a.1.1.1.1.1.0.now a.1.1.1.1.1.1.0.now a.1.1.1.1.1.1.1.0.now r e.1.1.1.0.now e.1.1.1.1.0.now e.1.1.1.1.1.0.now e.1.1.1.1.1.1.1.0.now) }

      module _ (𝓛 : Logic 𝓤) where
        abbrev pub Begin : Contract 𝓤
        Begin = triple_of 𝓛 begins.signature (closing 𝓛 begins begin_says)

        abbrev pub Step : Contract 𝓤
        Step = triple_of 𝓛 steps.signature (closing 𝓛 steps step_says)

  -- decide takes plain data alone
  module _ (KP KY : Kind) (Z : Says (of KP) (of KY)) where
    abbrev decides : ByValue
    decides = deciding KY K.decision Z.Decides

  -- ---- the walk
  module _ (KP KY : Kind) (Z : Says (of KP) (of KY)) (fb fs fd ff : Callee) {M : Type 1} {𝓤 : Ura M} (𝓛 : Logic 𝓤) (𝓣 : Tables 𝓤 𝓛.H)
      (begin : Triple 𝓤 (𝓣.C fb) (Begin (of KP) (of KY) Z 𝓤 𝓛)) (survey : Triple 𝓤 (𝓣.C fs) (Survey C KY Z.Surveys 𝓤 𝓛))
      (decide : Triple 𝓤 (𝓣.C fd) (Takes (decides KP KY Z) 𝓤 𝓛)) (stepped : Triple 𝓤 (𝓣.C ff) (Step (of KP) (of KY) Z 𝓤 𝓛)) where
    open 𝓛 use {H}
    open letters KP use {type as P, elem as EP}
    open letters KY use {type as Y, elem as EY}

    module _ (κ₀ κ₁ κ₂ κ₃ κ₄ κ₅ : Lft) (q₀ q₁ q₂ q₃ q₄ q₅ : Share) (b o b₁ o₁ b₂ o₂ b₃ o₃ b₄ o₄ b₅ o₅ : ℕ) (γ γ₁ γ₂ γ₃ γ₅ : GName) (ys : List C.Denot) (m ln li : List ℕ) (n : P.Denot) (pk ot : List ℕ) (n-is : Is P n (EP.val n ∷ [])) where
      -- the machine values of the slices
      abbrev s : Val
      s = slice_val (b, o) (length ys)

      abbrev s₁ : Val
      s₁ = slice_val (b₁, o₁) (length m)

      abbrev s₂ : Val
      s₂ = slice_val (b₂, o₂) (length ln)

      abbrev s₃ : Val
      s₃ = slice_val (b₃, o₃) (length li)

      abbrev s₄ : Val
      s₄ = slice_val (b₄, o₄) (length pk)

      abbrev s₅ : Val
      s₅ = slice_val (b₅, o₅) (length ot)

      abbrev y : (walk_of 𝓛 (ended P Y) (stayed P Y) (clauses P Y Z 𝓤)).Ghost
      y = (((κ₀, (κ₁, (κ₂, (κ₃, (κ₄, (κ₅, tt)))))), (q₀, (q₁, (q₂, (q₃, (q₄, (q₅, tt)))))), tt, (xs_at C b o γ ys, (xs_at u8 b₁ o₁ γ₁ m, (xs_at u16 b₂ o₂ γ₂ ln, (xs_at u8 b₃ o₃ γ₃ li, (n, (xs_in u8 b₄ o₄ pk, (xs_at u8 b₅ o₅ γ₅ ot, tt))))))), (s ∷ [], (s₁ ∷ [], (s₂ ∷ [], (s₃ ∷ [], (EP.val n ∷ [], (s₄ ∷ [], (s₅ ∷ [], tt)))))))), tt)

      abbrev Post : Val → SProp 𝓤
      Post = (walk_of 𝓛 (ended P Y) (stayed P Y) (clauses P Y Z 𝓤)).post y

      -- what is had at exit, at the last lists
      exits : (r : N.Denot) (zs : List C.Denot) (ms ls is os : List ℕ) → Z.Calls ys m ln li n pk ot r zs ms ls is os → length zs ≡ length ys → length ms ≡ length m → length ls ≡ length ln → length is ≡ length li → length os ≡ length ot → Is N r (EN.val r ∷ [])
          → ent 𝓤 (⋆ 𝓛 (‵ (flft κ₀ q₀) ∷ (‵ (flft κ₁ q₁) ⊛ ‵ (flft κ₂ q₂) ⊛ ‵ (flft κ₃ q₃) ⊛ ‵ (flft κ₄ q₄) ⊛ ‵ (flft κ₅ q₅) ⊛ ‵ ftrue) ∷ ‵ (gave_at C κ₀ b o γ (length ys) zs) ∷ ‵ (gave_at u8 κ₁ b₁ o₁ γ₁ (length m) ms) ∷ ‵ (gave_at u16 κ₂ b₂ o₂ γ₂ (length ln) ls) ∷ ‵ (gave_at u8 κ₃ b₃ o₃ γ₃ (length li) is) ∷ ‵ (gave_at u8 κ₅ b₅ o₅ γ₅ (length ot) os) ∷ [])) (Post (EN.val r))
      exits r zs ms ls is os e e₀ e₁ e₂ e₃ e₅ ir =
          qed 𝓛 (‵ (flft κ₀ q₀) ∷ (‵ (flft κ₁ q₁) ⊛ ‵ (flft κ₂ q₂) ⊛ ‵ (flft κ₃ q₃) ⊛ ‵ (flft κ₄ q₄) ⊛ ‵ (flft κ₅ q₅) ⊛ ‵ ftrue) ∷ ‵ (gave_at C κ₀ b o γ (length ys) zs) ∷ ‵ (gave_at u8 κ₁ b₁ o₁ γ₁ (length m) ms) ∷ ‵ (gave_at u16 κ₂ b₂ o₂ γ₂ (length ln) ls) ∷ ‵ (gave_at u8 κ₃ b₃ o₃ γ₃ (length li) is) ∷ ‵ (gave_at u8 κ₅ b₅ o₅ γ₅ (length ot) os) ∷ []) ∵
          suffices ! _ (ends_at 𝓛 (ended P Y) (stayed P Y) (clauses P Y Z 𝓤) y (EN.val r) r (zs, (ms, (ls, (is, (tt, (tt, (os, tt))))))) (e₀, (e₁, (e₂, (e₃, (tt, (tt, (e₅, tt)))))))) $ says ! e $ join ! $ frame ! $ nothing ! $ move ! (5 ∷ 0 ∷ []) $ fjoin ! $ nothing ! $ fjoin ! $ nothing ! $ fjoin ! $ move ! (4 ∷ 0 ∷ []) $ fjoin ! $ move ! (3 ∷ 0 ∷ []) $ fjoin ! $ move ! (2 ∷ 0 ∷ []) $ fjoin ! $ move ! (1 ∷ 0 ∷ []) $ fjoin ! $ frame ! $ owned ! N (Is N) (EN.makes 𝓛) r _ ir $ done !

      -- what the slices own
      abbrev O₁ : Fml
      O₁ = mut_at u8 κ₁ b₁ o₁ γ₁ m

      abbrev O₂ : Fml
      O₂ = mut_at u16 κ₂ b₂ o₂ γ₂ ln

      abbrev O₃ : Fml
      O₃ = mut_at u8 κ₃ b₃ o₃ γ₃ li

      abbrev O₄ : Fml
      O₄ = shr_at u8 κ₄ b₄ o₄ pk

      abbrev O₅ : Fml
      O₅ = mut_at u8 κ₅ b₅ o₅ γ₅ ot

      -- what begin and the step are passed; begin has the lines for a lifetime ν
      module _ (ν : ℕ) where
        abbrev Seen : Fml
        Seen = shr_at u8 (ν ∷ []) b₃ o₃ li

        abbrev to_begin : (Begin P Y Z 𝓤 𝓛).Ghost
        to_begin = (((ν ∷ [], (κ₄, tt)), (full_share, (q₄, tt)), tt, (xs_in u8 b₃ o₃ li, (n, (xs_in u8 b₄ o₄ pk, (length ot, tt)))), (s₃ ∷ [], (EP.val n ∷ [], (s₄ ∷ [], (vint w64 (length ot) ∷ [], tt))))), tt)

        asks_begin : length ot < 2 ^ 64 → ent 𝓤 (⋆ 𝓛 (‵ Seen ∷ ‵ (flft (ν ∷ []) full_share) ∷ ‵ O₄ ∷ ‵ (flft κ₄ q₄) ∷ [])) ((Begin P Y Z 𝓤 𝓛).pre to_begin)
        asks_begin fits = qed 𝓛 (‵ Seen ∷ ‵ (flft (ν ∷ []) full_share) ∷ ‵ O₄ ∷ ‵ (flft κ₄ q₄) ∷ []) ∵ nothing ! $ owned ! usize (Is usize) (uint_Makes 𝓛 w64) (length ot) _ (refl, fits) $ fjoin ! $ move ! (3 ∷ 0 ∷ []) $ fjoin ! $ owned ! P (Is P) (EP.makes 𝓛) n _ n-is $ fjoin ! $ move ! (1 ∷ 0 ∷ []) $ fjoin ! $ nothing ! $ move ! (3 ∷ 0 ∷ []) $ join ! $ move ! (2 ∷ 0 ∷ []) $ join ! $ join ! $ frame ! $ done !

      abbrev to : C.Denot → D.Denot → (Step P Y Z 𝓤 𝓛).Ghost
      to c d = (((κ₁, (κ₂, (κ₃, (κ₄, (κ₅, tt))))), (q₁, (q₂, (q₃, (q₄, (q₅, tt))))), tt, (c, (d, (n, (xs_at u8 b₁ o₁ γ₁ m, (xs_at u16 b₂ o₂ γ₂ ln, (xs_at u8 b₃ o₃ γ₃ li, (xs_in u8 b₄ o₄ pk, (xs_at u8 b₅ o₅ γ₅ ot, tt)))))))), (EC.val c ∷ [], (ED.val d ∷ [], (EP.val n ∷ [], (s₁ ∷ [], (s₂ ∷ [], (s₃ ∷ [], (s₄ ∷ [], (s₅ ∷ [], tt))))))))), tt)

      asks : (c : C.Denot) (d : D.Denot) → Is C c (EC.val c ∷ []) → Is D d (ED.val d ∷ []) → Z.Asks c d n m ln li pk ot → ent 𝓤 (⋆ 𝓛 (‵ O₁ ∷ ‵ (flft κ₁ q₁) ∷ ‵ O₂ ∷ ‵ (flft κ₂ q₂) ∷ ‵ O₃ ∷ ‵ (flft κ₃ q₃) ∷ ‵ O₄ ∷ ‵ (flft κ₄ q₄) ∷ ‵ O₅ ∷ ‵ (flft κ₅ q₅) ∷ [])) ((Step P Y Z 𝓤 𝓛).pre (to c d))
      asks c d ic id ask = qed 𝓛 (‵ O₁ ∷ ‵ (flft κ₁ q₁) ∷ ‵ O₂ ∷ ‵ (flft κ₂ q₂) ∷ ‵ O₃ ∷ ‵ (flft κ₃ q₃) ∷ ‵ O₄ ∷ ‵ (flft κ₄ q₄) ∷ ‵ O₅ ∷ ‵ (flft κ₅ q₅) ∷ []) ∵ use0 𝓛 (raw (need 𝓤 Z.asks (Z.Asks c d n m ln li pk ot))) (needed 𝓤 Z.asks (Z.Asks c d n m ln li pk ot) ask) $ nothing ! $ move ! (10 ∷ 0 ∷ []) $ fjoin ! $ move ! (8 ∷ 0 ∷ []) $ fjoin ! $ move ! (6 ∷ 0 ∷ []) $ fjoin ! $ move ! (4 ∷ 0 ∷ []) $ fjoin ! $ move ! (2 ∷ 0 ∷ []) $ fjoin ! $ owned ! P (Is P) (EP.makes 𝓛) n _ n-is $ fjoin ! $ owned ! D (Is D) (ED.makes 𝓛) d _ id $ fjoin ! $ owned ! C (Is C) (EC.makes 𝓛) c _ ic $ fjoin ! $ nothing ! $ move ! (7 ∷ 0 ∷ []) $ join ! $ move ! (6 ∷ 0 ∷ []) $ join ! $ move ! (5 ∷ 0 ∷ []) $ join ! $ move ! (4 ∷ 0 ∷ []) $ join ! $ move ! (3 ∷ 0 ∷ []) $ join ! $ join ! $ frame ! $ done !

      -- at exit after the step: the last lists are those that it says
      module _ (c : C.Denot) (d : D.Denot) (ws : Lasts (steps P Y) (to c d).0.0 (to c d).0.3) where
        abbrev ms : List ℕ
        ms = ws.1.1.1.0

        abbrev ls : List ℕ
        ls = ws.1.1.1.1.0

        abbrev is : List ℕ
        is = ws.1.1.1.1.1.0

        abbrev os : List ℕ
        os = ws.1.1.1.1.1.1.1.0

        after : (r : N.Denot) (zs : List C.Denot) → Z.Calls ys m ln li n pk ot r zs ms ls is os → length zs ≡ length ys → Is N r (EN.val r ∷ []) → ent 𝓤 (⋆ 𝓛 (‵ (flft κ₀ q₀) ∷ (‵ (flft κ₁ q₁) ⊛ ‵ (flft κ₂ q₂) ⊛ ‵ (flft κ₃ q₃) ⊛ ‵ (flft κ₄ q₄) ⊛ ‵ (flft κ₅ q₅) ⊛ ‵ ftrue) ∷ ‵ (gave_at C κ₀ b o γ (length ys) zs) ∷ ‵ (lasts (steps P Y) (to c d).0.0 (to c d).0.3 ws) ∷ [])) (Post (EN.val r))
        after r zs e e₀ ir = qed 𝓛 (‵ (flft κ₀ q₀) ∷ (‵ (flft κ₁ q₁) ⊛ ‵ (flft κ₂ q₂) ⊛ ‵ (flft κ₃ q₃) ⊛ ‵ (flft κ₄ q₄) ⊛ ‵ (flft κ₅ q₅) ⊛ ‵ ftrue) ∷ ‵ (gave_at C κ₀ b o γ (length ys) zs) ∷ ‵ (lasts (steps P Y) (to c d).0.0 (to c d).0.3 ws) ∷ []) ∵ move ! (3 ∷ []) $ fsplit ! $ drop ! $ fsplit ! $ drop ! $ fsplit ! $ drop ! $ fsplit ! $ gave_up ! u8 (λ e₁. move ! (1 ∷ []) $ fsplit ! $ gave_up ! u16 (λ e₂. move ! (1 ∷ []) $ fsplit ! $ gave_up ! u8 (λ e₃. move ! (1 ∷ []) $ fsplit ! $ drop ! $ fsplit ! $ gave_up ! u8 (λ e₅. keep ! (5 ∷ 6 ∷ 7 ∷ 4 ∷ 3 ∷ 2 ∷ 0 ∷ []) $ by ! (exits r zs ms ls is os e e₀ e₁ e₂ e₃ e₅ ir)))))

      walk : Room C (length ys) → Room u8 (length m) → Room u16 (length ln) → Room u8 (length li) → Room u8 (length pk) → Room u8 (length ot)
          → ent 𝓤 (on_entry 𝓛 (ended P Y).signature y.0.0 y.0.1 y.0.3 y.0.4) (WpFn 𝓤 H 𝓣.C 𝓣.Λ (function KP.ty KY.ty fb fs fd ff) (s ∷ s₁ ∷ s₂ ∷ s₃ ∷ EP.val n ∷ s₄ ∷ s₅ ∷ []) Post)
      walk room room₁ room₂ room₃ room₄ room₅ =
          qed 𝓛 ((‵ (flft κ₀ q₀) ⊛ ‵ (flft κ₁ q₁) ⊛ ‵ (flft κ₂ q₂) ⊛ ‵ (flft κ₃ q₃) ⊛ ‵ (flft κ₄ q₄) ⊛ ‵ (flft κ₅ q₅) ⊛ ‵ ftrue) ∷ ‵ (owns (MutSlice (named 0) κ₀ C ∷ MutSlice (named 1) κ₁ u8 ∷ MutSlice (named 2) κ₂ u16 ∷ MutSlice (named 3) κ₃ u8 ∷ P ∷ ShrSlice (named 4) κ₄ u8 ∷ MutSlice (named 5) κ₅ u8 ∷ []) y.0.3 y.0.4) ∷ []) ∵
          -- what the parameters own, and the tokens, are taken apart
          move ! (1 ∷ []) $ fsplit ! $ move ! (1 ∷ []) $ fsplit ! $ move ! (1 ∷ []) $ fsplit ! $ move ! (1 ∷ []) $ fsplit ! $ move ! (1 ∷ []) $ fsplit ! $ drop ! $ fsplit ! $ move ! (1 ∷ []) $ fsplit ! $ move ! (1 ∷ []) $ drop ! $ move ! (6 ∷ []) $ split ! $ move ! (1 ∷ []) $ split ! $ move ! (1 ∷ []) $ split ! $ move ! (1 ∷ []) $ split ! $ move ! (1 ∷ []) $ split ! $ move ! (1 ∷ []) $ split ! $ move ! (1 ∷ []) $ drop ! $ move ! (11 ∷ 5 ∷ 10 ∷ 4 ∷ 9 ∷ 3 ∷ 8 ∷ 2 ∷ 7 ∷ 1 ∷ 6 ∷ 0 ∷ []) $
          enter ! 𝓣.C 𝓣.Λ (function KP.ty KY.ty fb fs fd ff) (s ∷ s₁ ∷ s₂ ∷ s₃ ∷ EP.val n ∷ s₄ ∷ s₅ ∷ []) _ $
          alloc_all ! (λ l. pass_all ! refl ((tt, (tt, (record { fits = room.0 }, tt))), ((tt, (tt, (record { fits = room₁.0 }, tt))), ((tt, (tt, (record { fits = room₂.0 }, tt))), ((tt, (tt, (record { fits = room₃.0 }, tt))), ((EP.typed 𝓛 n n-is).0, ((tt, (tt, (record { fits = room₄.0 }, tt))), ((tt, (tt, (record { fits = room₅.0 }, tt))), tt))))))) $
          -- [what t, mem, lens, lines, x, out own, each with its token; then the locals, the last first]
          sets ! (ptr_at ! refl refl) refl (tt, tt) $
          sets ! (agg ! (and_then ! (get ! refl) (and_then ! (fld_at ! 1 refl refl refl) (no_more !)))) refl (tt, (tt, (record { fits = room₃.0 }, tt))) $
          sets ! (of_opd ! (fld_at ! 1 refl refl refl)) refl (tt, record { fits = room₅.0 }) $
          -- the lines are lent as `&`, and x is copied
          move ! (6 ∷ 7 ∷ []) $ shares_on ! tt (uint_elem w8) b₃ o₃ li (s₃ ∷ []) (λ ν kept. move ! (9 ∷ []) $ use1 𝓛 (‵ O₄ ⊛ ‵ O₄) ((shr_slice_copy 𝓛 (named 4) κ₄ u8 (uint_row_laws w8)).twice (xs_in u8 b₄ o₄ pk) (s₄ ∷ [])) $ split ! $ move ! (2 ∷ 3 ∷ 0 ∷ 11 ∷ []) $ group ! 4 $ use1 𝓛 (raw ((Begin P Y Z 𝓤 𝓛).pre (to_begin ν))) (asks_begin ν room₅.0) $
          calls_plain ! (fm_of 𝓤 H 𝓛.laws 𝓣) (begins P Y) (begin_says P Y Z 𝓤) begin (to_begin ν) EY (and_then ! (get ! refl) (and_then ! (get ! refl) (and_then ! (get ! refl) (and_then ! (get ! refl) (no_more !))))) (λ a ws₁ ia.
          move ! (2 ∷ []) $ heard ! (Z.Begins li n pk (length ot) a) (λ ea. lands_as ! refl refl (EY.typed 𝓛 a ia).0 $ use1 𝓛 (‵ (flft (ν ∷ []) full_share) ⊛ ‵ (flft κ₄ q₄) ⊛ ‵ ftrue) (id⊢ 𝓤 _) $ split ! $ move ! (1 ∷ []) $ split ! $ move ! (1 ∷ []) $ drop ! $ move ! (2 ∷ []) $ drop ! $ move ! (1 ∷ 3 ∷ []) $ unshares ! tt u8 b₃ o₃ li (s₃ ∷ []) kept $
          -- the table and the lengths are lent as `&`
          sets ! (ptr_at ! refl refl) refl (tt, tt) $
          sets ! (agg ! (and_then ! (get ! refl) (and_then ! (fld_at ! 1 refl refl refl) (no_more !)))) refl (tt, (tt, (record { fits = room.0 }, tt))) $
          sets ! (ptr_at ! refl refl) refl (tt, tt) $
          sets ! (agg ! (and_then ! (get ! refl) (and_then ! (fld_at ! 1 refl refl refl) (no_more !)))) refl (tt, (tt, (record { fits = room₂.0 }, tt))) $
          move ! (4 ∷ 5 ∷ 8 ∷ 9 ∷ []) $ surveys_both ! (fm_of 𝓤 H 𝓛.laws 𝓣) EC KY Z.Surveys survey b o b₂ o₂ ys ln a ia (λ _ _ _. and_then ! (get ! refl) (and_then ! (get ! refl) (and_then ! (get ! refl) (no_more !)))) (λ v iv ev.
          lands_as ! refl refl (EY.typed 𝓛 v iv).0 $ move ! (0 ∷ 1 ∷ 8 ∷ 9 ∷ 2 ∷ 3 ∷ 4 ∷ 5 ∷ 7 ∷ 6 ∷ []) $
          sets ! (of_opd ! (fld_at ! 1 refl refl refl)) refl (tt, record { fits = room.0 }) $
          sets ! (of_opd ! (fld_at ! 1 refl refl refl)) refl (tt, record { fits = room₁.0 }) $
          sets ! (of_opd ! (fld_at ! 1 refl refl refl)) refl (tt, record { fits = room₂.0 }) $
          calls_by ! (fm_of 𝓤 H 𝓛.laws 𝓣) (decides KP KY Z) decide (v, (length ys, (length m, (length ln, tt)))) (iv, ((refl, room.0), ((refl, room₁.0), ((refl, room₂.0), tt)))) tt (λ _. and_then ! (get ! refl) (and_then ! (get ! refl) (and_then ! (get ! refl) (and_then ! (get ! refl) (no_more !))))) (λ d id ed.
          lands_as ! refl refl (ED.typed 𝓛 d id).0 $
          let i : ℕ = K.at.part d in
          sets ! (of_opd ! (fld_at ! 1 refl refl refl)) refl (tt, record { fits = room.0 }) $
          sets ! (bin ! (has_at ! K.at d refl refl) (get ! refl) tt) refl (tt, tt) $
          first ! $ branches ! (get ! refl)
          (λ h.
          let l : i < length ys = ltb→lt i (length ys) h in
          let fits : i < 2 ^ 64 = omega (arith, l, room.0) in
          let small : i * (mem C).size < 2 ^ 64 = in_room C i (length ys) l room in
          let c : C.Denot = get_or ys i K.blank in
          sets ! (of_opd ! (has_at ! K.at d refl refl)) refl (tt, record { fits = fits }) $
          sets ! (bin ! (get ! refl) (lit ! K.fits) (record { fits = small })) refl (tt, record { fits = small }) $
          sets ! (elem_ptr ! (mem C).size o i (fld_at ! 0 refl refl refl) (get ! refl)) refl (tt, tt) $
          opens_at ! tt EC b o ys i K.blank l (λ p ic.
          sets ! (of_opd ! (load ! (through ! refl (stop !)) (look_raw ! 0 refl))) refl (EC.typed 𝓛 c ic).0 $
          backs_at ! tt EC b o ys (s ∷ []) i K.blank l p ic $
          sets ! (ptr_at ! refl refl) refl (tt, tt) $
          sets ! (agg ! (and_then ! (get ! refl) (and_then ! (fld_at ! 1 refl refl refl) (no_more !)))) refl (tt, (tt, (record { fits = room₁.0 }, tt))) $
          sets ! (ptr_at ! refl refl) refl (tt, tt) $
          sets ! (agg ! (and_then ! (get ! refl) (and_then ! (fld_at ! 1 refl refl refl) (no_more !)))) refl (tt, (tt, (record { fits = room₂.0 }, tt))) $
          sets ! (ptr_at ! refl refl) refl (tt, tt) $
          sets ! (agg ! (and_then ! (get ! refl) (and_then ! (fld_at ! 1 refl refl refl) (no_more !)))) refl (tt, (tt, (record { fits = room₃.0 }, tt))) $
          sets ! (ptr_at ! refl refl) refl (tt, tt) $
          sets ! (agg ! (and_then ! (get ! refl) (and_then ! (fld_at ! 1 refl refl refl) (no_more !)))) refl (tt, (tt, (record { fits = room₅.0 }, tt))) $
          move ! (2 ∷ 3 ∷ 4 ∷ 5 ∷ 6 ∷ 7 ∷ 8 ∷ 9 ∷ 10 ∷ 11 ∷ []) $ group ! 10 $ use1 𝓛 (raw ((Step P Y Z 𝓤 𝓛).pre (to c d))) (asks c d ic id (Z.may ys m ln li n pk ot a v d ea ev ed l)) $
          calls_plain ! (fm_of 𝓤 H 𝓛.laws 𝓣) (steps P Y) (step_says P Y Z 𝓤) stepped (to c d) ES (and_then ! (get ! refl) (and_then ! (get ! refl) (and_then ! (get ! refl) (and_then ! (get ! refl) (and_then ! (get ! refl) (and_then ! (get ! refl) (and_then ! (get ! refl) (and_then ! (get ! refl) (no_more !))))))))) (λ r ws ir.
          move ! (2 ∷ []) $ heard ! (Z.Steps c d n m ln li pk ot r (ms c d ws) (ls c d ws) (is c d ws) (os c d ws)) (λ e. move ! (2 ∷ 3 ∷ []) $
          let ir₁ : Is C (K.stored.part r) (EC.val (K.stored.part r) ∷ []) = K.stored.owed r ir in
          let ir₀ : Is N (K.said.part r) (EN.val (K.said.part r) ∷ []) = K.said.owed r ir in
          lands_as ! refl refl (ES.typed 𝓛 r ir).0 $
          sets ! (of_opd ! (has_at ! K.stored r refl refl)) refl (EC.typed 𝓛 (K.stored.part r) ir₁).0 $
          sets ! (of_opd ! (has_at ! K.at d refl refl)) refl (tt, record { fits = fits }) $
          sets ! (bin ! (get ! refl) (lit ! K.fits) (record { fits = small })) refl (tt, record { fits = small }) $
          sets ! (elem_ptr ! (mem C).size o i (fld_at ! 0 refl refl refl) (get ! refl)) refl (tt, tt) $
          opens_at ! tt EC b o ys i K.blank l (λ p' _.
          assigns ! (of_opd ! (get ! refl)) (through ! refl (stop !)) (store_raw ! 0 refl (EC.typed 𝓛 (K.stored.part r) ir₁).0) $
          closes_at ! tt EC b o ys (s ∷ []) i (K.stored.part r) l p' ir₁ $
          assigns_out ! (rest KP.ty KY.ty fb fs fd ff) Post (of_opd ! (has_at ! K.said r refl refl)) (from ! (stop !)) (set_at ! 22 refl (EN.typed 𝓛 (K.said.part r) ir₀).0) $
          sets ! (of_opd ! (get ! refl)) refl (EN.typed 𝓛 (K.said.part r) ir₀).0 $ gives_up ! C b o (set ys i (K.stored.part r)) $ rewrite ! 0 (λ (k : ℕ). ‵ (gave_at C κ₀ b o γ k (set ys i (K.stored.part r)))) (length-set ys i (K.stored.part r)) refl $
          returns ! (look_at ! 0 refl) $ free_all ! refl $
          move ! (1 ∷ 2 ∷ 0 ∷ []) $
          by ! (after c d ws (K.said.part r) (set ys i (K.stored.part r)) (Z.serves ys m ln li n pk ot a v d r (ms c d ws) (ls c d ws) (is c d ws) (os c d ws) ea ev ed l e) (length-set ys i (K.stored.part r)) ir₀))))))
          (λ h.
          let ir₀ : Is N (K.unserved.part d) (EN.val (K.unserved.part d) ∷ []) = K.unserved.owed d id in
          assigns_out ! (rest KP.ty KY.ty fb fs fd ff) Post (of_opd ! (has_at ! K.unserved d refl refl)) (from ! (stop !)) (set_at ! 22 refl (EN.typed 𝓛 (K.unserved.part d) ir₀).0) $
          sets ! (of_opd ! (get ! refl)) refl (EN.typed 𝓛 (K.unserved.part d) ir₀).0 $ gives_up ! C b o ys $
          returns ! (look_at ! 0 refl) $ free_all ! refl $
          move ! (2 ∷ []) $ gives_up ! u8 b₁ o₁ m $ move ! (4 ∷ []) $ gives_up ! u16 b₂ o₂ ln $ move ! (6 ∷ []) $ gives_up ! u8 b₃ o₃ li $ move ! (10 ∷ []) $ gives_up ! u8 b₅ o₅ ot $ nothing ! $ move ! (12 ∷ 0 ∷ []) $ join ! $ move ! (11 ∷ 0 ∷ []) $ join ! $ move ! (9 ∷ 0 ∷ []) $ join ! $ move ! (8 ∷ 0 ∷ []) $ join ! $ move ! (7 ∷ 0 ∷ []) $ join ! $ keep ! (6 ∷ 0 ∷ 5 ∷ 4 ∷ 3 ∷ 2 ∷ 1 ∷ []) $
          by ! (exits (K.unserved.part d) ys m ln li ot (Z.refuses ys m ln li n pk ot a v d ea ev ed (nltb→le i (length ys) h)) refl refl refl refl refl ir₀))))))))

    pub call_meets : Meets 𝓛 (ended P Y).signature (WpFn 𝓤 H 𝓣.C 𝓣.Λ (function KP.ty KY.ty fb fs fd ff)) (closing 𝓛 (ended P Y) (clauses P Y Z 𝓤))
    call_meets =
        meets_by 𝓛 (ended P Y) (stayed P Y) (Goes-gave_slice 𝓛 6 0 tt (plain (λ _. C)), (Goes-gave_slice 𝓛 6 1 tt (plain (λ _. u8)), (Goes-gave_slice 𝓛 6 2 tt (plain (λ _. u16)), (Goes-gave_slice 𝓛 6 3 tt (plain (λ _. u8)), (Goes-dropped 𝓛 6 (plain (λ _. P)) yes (λ κs z f. refl), (Goes-dropped 𝓛 6 (shr_slice_of (4 ∷ []) tt (plain (λ _. u8))) yes (λ κs z f. refl), (Goes-gave_slice 𝓛 6 5 tt (plain (λ _. u8)), tt)))))))
        (clauses P Y Z 𝓤) (function KP.ty KY.ty fb fs fd ff) 𝓣
        (λ κs. (mut_slice_vals, (mut_slice_vals, (mut_slice_vals, (mut_slice_vals, ((λ z. EP.val z ∷ []), (shr_slice_vals, (mut_slice_vals, tt))))))))
        (λ κs. (mut_slice_Tells (named 0) κs.0 C, (mut_slice_Tells (named 1) κs.1.0 u8, (mut_slice_Tells (named 2) κs.1.1.0 u16, (mut_slice_Tells (named 3) κs.1.1.1.0 u8, (EP.tells, (shr_slice_Tells (named 4) κs.1.1.1.1.0 u8, (mut_slice_Tells (named 5) κs.1.1.1.1.1.0 u8, tt))))))))
        (λ κs qs bounds a g are. via 𝓤 _ (fst∗ 𝓤 _ (emp 𝓤)) (walk κs.0 κs.1.0 κs.1.1.0 κs.1.1.1.0 κs.1.1.1.1.0 κs.1.1.1.1.1.0 qs.0 qs.1.0 qs.1.1.0 qs.1.1.1.0 qs.1.1.1.1.0 qs.1.1.1.1.1.0 a.0.ref_ptr.0 a.0.ref_ptr.1 a.1.0.ref_ptr.0 a.1.0.ref_ptr.1 a.1.1.0.ref_ptr.0 a.1.1.0.ref_ptr.1 a.1.1.1.0.ref_ptr.0 a.1.1.1.0.ref_ptr.1 a.1.1.1.1.1.0.ref_ptr.0 a.1.1.1.1.1.0.ref_ptr.1 a.1.1.1.1.1.1.0.ref_ptr.0 a.1.1.1.1.1.1.0.ref_ptr.1 a.0.ghost_name a.1.0.ghost_name a.1.1.0.ghost_name a.1.1.1.0.ghost_name a.1.1.1.1.1.1.0.ghost_name a.0.now a.1.0.now a.1.1.0.now a.1.1.1.0.now a.1.1.1.1.0 a.1.1.1.1.1.0.now a.1.1.1.1.1.1.0.now are.1.1.1.1.0 are.0.0.1 are.1.0.0.1 are.1.1.0.0.1 are.1.1.1.0.0.1 are.1.1.1.1.1.0.0.1 are.1.1.1.1.1.1.0.0.1))
