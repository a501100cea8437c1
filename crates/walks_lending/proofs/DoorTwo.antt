-- ONE WALK FOR EVERY FUNCTION THAT CALLS A DOOR (`Door.antt`) WITH TWO PLAIN ARGUMENTS AND NO OCTETS. A function of this form, whatever the door
-- `perform`, the covered functions `ask` and `turn`, and the plain types:
--     pub fn asking(t: &mut [Channel], mem: &mut [u8], lens: &mut [u16], lines: &mut [u8], i: P, j: R) -> Said
--     {
--         let n = ask(i, j);
--         let x: [u8; 0] = [0; 0];
--         let mut out: [u8; 0] = [0; 0];
--         let a = perform(t, mem, lens, lines, n, &x, &mut out);
--         let r = turn(a);
--         r
--     }
-- where `perform` is the door, without a `requires`, `ask` ensures `result ≡ asked i j` and `turn` ensures `result ≡ turned a`. It ensures of `turned a` what
-- follows of what the door ensures of a at that request, with no octets in x and out, before and after.
--     door_two_meets       its arguments: the door; the kinds of the plain arguments; what this function ensures (a relation); `asked`; that what the
--                          door ensures gives it; the names of `ask`, `perform` and `turn`; then the model, the tables, and that each of the
--                          three meets its contract
-- Assumes nothing.
use Rattle.walks.proofs.Walk.{refl, List, [], ◌∷◌, ℕ, ltb→lt, Ura, named, imm, mut, w8, w16, w64, ty_int, ty_ref, WpFn, Tables, id⊢, raw, ◌$◌, ◌∵◌, !, qed, by, use0, drop, fjoin, nothing, agg, stop, from, lit, addr, of_opd, and_then, no_more, returns, enter, pointee, u8, slice_ty, Triple, alloc_all, pass_all, free_all, look_at, get, sets, lands_as, Callee}
use package.mir.Syntax.{Fn, Callee, ty_array, erased, local, value_local, memory_slot, place, field, deref, copy, int, rv_opd, addr_of, aggregate, seq, assign, call, return}
use mathlib.Core.Path.{subst}
use types.Logic.{Logic}
use contract.Lifetimes.{toks}
use denote.RattleType.{RattleType}
use denote.Triple.Clauses.{closing}
use denote.Triple.Spec.{Meets}
use Rattle.walks.proofs.Tab.{xs_at, fld_at, xs_in, ptr_at}
use Rattle.walks.proofs.Plain.{Kind, of}
use Rattle.walks_lending.proofs.Lending.{Part, by_value, lent, Relates, values, ensuring, Turn, Passed, turns, ends, lent_meets}
use Rattle.walks_lending.proofs.Door.{Door, first, through, Perform, Ask, asks, lends_none, shares_none, comes_none, apart, performs, gathers}

module _ (D : Door) (KP KR : Kind) where
  abbrev C : RattleType
  C = of D.channel

  -- what this function ensures: by its parameters, the result, and the table, mem, lens, lines then
  abbrev pub Wanted : Type 1
  Wanted = List C.Denot → List ℕ → List ℕ → List ℕ → (of KP).Denot → (of KR).Denot → (of D.result).Denot → List C.Denot → List ℕ → List ℕ → List ℕ → Type 0

  -- ---- the MIR
  module _ (fa fp ft : Callee) where
    abbrev pub function : Fn
    function = record {
      lifetimes = 4;
      outlives = [];
      ty_params = [];
      givens = 0;
      params = 6;
      locals = local D.result.ty value_local ∷ local (slice_ty (ty_ref (named 0) mut (pointee C.written))) value_local ∷ local (slice_ty (ty_ref (named 1) mut (ty_int w8))) value_local ∷ local (slice_ty (ty_ref (named 2) mut (ty_int w16))) value_local ∷ local (slice_ty (ty_ref (named 3) mut (ty_int w8))) value_local ∷ local KP.ty value_local ∷ local KR.ty value_local ∷ local D.request.ty value_local ∷ local (ty_array (ty_int w8) 0) memory_slot ∷ local (ty_array (ty_int w8) 0) memory_slot ∷ local D.answer.ty value_local ∷ local D.result.ty value_local ∷ local (ty_ref erased mut (pointee C.written)) value_local ∷ local (slice_ty (ty_ref erased mut (pointee C.written))) value_local ∷ local (ty_ref erased mut (ty_int w8)) value_local ∷ local (slice_ty (ty_ref erased mut (ty_int w8))) value_local ∷ local (ty_ref erased mut (ty_int w16)) value_local ∷ local (slice_ty (ty_ref erased mut (ty_int w16))) value_local ∷ local (ty_ref erased mut (ty_int w8)) value_local ∷ local (slice_ty (ty_ref erased mut (ty_int w8))) value_local ∷ local (ty_ref erased imm (ty_array (ty_int w8) 0)) value_local ∷ local (slice_ty (ty_ref erased imm (ty_int w8))) value_local ∷ local (ty_ref erased mut (ty_array (ty_int w8) 0)) value_local ∷ local (slice_ty (ty_ref erased mut (ty_int w8))) value_local ∷ [];
      body = seq (call fa ((copy (place 5 [])) ∷ (copy (place 6 [])) ∷ []) (place 7 []))
          (seq (assign (place 8 []) (aggregate []))
          (seq (assign (place 9 []) (aggregate []))
          (seq (assign (place 12 []) (addr_of (place 1 (field 0 ∷ deref D.channel.ty ∷ []))))
          (seq (assign (place 13 []) (aggregate ((copy (place 12 [])) ∷ (copy (place 1 (field 1 ∷ []))) ∷ [])))
          (seq (assign (place 14 []) (addr_of (place 2 (field 0 ∷ deref (ty_int w8) ∷ []))))
          (seq (assign (place 15 []) (aggregate ((copy (place 14 [])) ∷ (copy (place 2 (field 1 ∷ []))) ∷ [])))
          (seq (assign (place 16 []) (addr_of (place 3 (field 0 ∷ deref (ty_int w16) ∷ []))))
          (seq (assign (place 17 []) (aggregate ((copy (place 16 [])) ∷ (copy (place 3 (field 1 ∷ []))) ∷ [])))
          (seq (assign (place 18 []) (addr_of (place 4 (field 0 ∷ deref (ty_int w8) ∷ []))))
          (seq (assign (place 19 []) (aggregate ((copy (place 18 [])) ∷ (copy (place 4 (field 1 ∷ []))) ∷ [])))
          (seq (assign (place 20 []) (addr_of (place 8 [])))
          (seq (assign (place 21 []) (aggregate ((copy (place 20 [])) ∷ (int w64 0) ∷ [])))
          (seq (assign (place 22 []) (addr_of (place 9 [])))
          (seq (assign (place 23 []) (aggregate ((copy (place 22 [])) ∷ (int w64 0) ∷ [])))
          (seq (call fp ((copy (place 13 [])) ∷ (copy (place 15 [])) ∷ (copy (place 17 [])) ∷ (copy (place 19 [])) ∷ (copy (place 7 [])) ∷ (copy (place 21 [])) ∷ (copy (place 23 [])) ∷ []) (place 10 []))
          (seq (call ft ((copy (place 10 [])) ∷ []) (place 11 []))
          (seq (assign (place 0 []) (rv_opd (copy (place 11 []))))
          return)))))))))))))))));
    }

  -- ---- what is called, and what is ensured
  abbrev ps : List (Part 4)
  ps = by_value KP ∷ by_value KR ∷ []

  module _ (X : Wanted) where
    abbrev over : Relates (first D ps) (of D.result)
    over κs a r e = X a.0.now a.1.0.now a.1.1.0.now a.1.1.1.0.now a.1.1.1.1.0 a.1.1.1.1.1.0 r e.0.now e.1.0.now e.1.1.0.now e.1.1.1.0.now

    -- ---- the walk
    module _ (asked : (of KP).Denot → (of KR).Denot → (of D.request).Denot)
        (so : (ys : List C.Denot) (m ln li : List ℕ) (i : (of KP).Denot) (j : (of KR).Denot) (r : (of D.answer).Denot) (zs : List C.Denot) (ms ls is : List ℕ) → D.says ys m ln li (asked i j) [] [] r zs ms ls is [] → X ys m ln li i j (D.turned r) zs ms ls is)
        (fa fp ft : Callee) {M : Type 1} {𝓤 : Ura M} (𝓛 : Logic 𝓤) (𝓣 : Tables 𝓤 𝓛.H) (k-ask : Triple 𝓤 (𝓣.C fa) (Ask D 𝓛 (KP ∷ KR ∷ []) (λ v. asked v.0 v.1.0))) (k-perform : Triple 𝓤 (𝓣.C fp) (Perform D 𝓛)) (k-turn : Triple 𝓤 (𝓣.C ft) (Turn (through D ps over) 𝓤 𝓛)) where
      open 𝓛 use {H}

      pub door_two_meets : Meets 𝓛 (lent (first D ps) (of D.result)).signature (WpFn 𝓤 H 𝓣.C 𝓣.Λ (function fa fp ft)) (closing 𝓛 (lent (first D ps) (of D.result)) (ensuring (first D ps) 𝓤 (of D.result) over))
      door_two_meets = lent_meets (through D ps over) 𝓛 𝓣 (function fa fp ft) (λ κs qs a are.
          qed 𝓛 (Passed (through D ps over) 𝓤 𝓛 κs qs a ∷ []) ∵ enter ! 𝓣.C 𝓣.Λ (function fa fp ft) (values (first D ps) κs a) _ $
          alloc_all ! (λ l. pass_all ! refl ((tt, (tt, (record { fits = are.0.0.1.0 }, tt))), ((tt, (tt, (record { fits = are.1.0.0.1.0 }, tt))), ((tt, (tt, (record { fits = are.1.1.0.0.1.0 }, tt))), ((tt, (tt, (record { fits = are.1.1.1.0.0.1.0 }, tt))), ((KP.elem.typed 𝓛 a.1.1.1.1.0 are.1.1.1.1.0).0, ((KR.elem.typed 𝓛 a.1.1.1.1.1.0 are.1.1.1.1.1.0).0, tt)))))) $
          asks D ! 𝓣 (KP ∷ KR ∷ []) (λ v. asked v.0 v.1.0) k-ask (a.1.1.1.1.0, (a.1.1.1.1.1.0, tt)) (are.1.1.1.1.0, (are.1.1.1.1.1.0, tt)) (λ y. (and_then ! (get ! refl) (and_then ! (get ! refl) (no_more !)))) (λ iq. lands_as ! refl refl (D.request.elem.typed 𝓛 _ iq).0 $
          sets ! (agg ! (no_more !)) refl (tt, tt) $
          sets ! (agg ! (no_more !)) refl (tt, tt) $
          sets ! (ptr_at ! refl refl) refl (tt, tt) $
          sets ! (agg ! (and_then ! (get ! refl) (and_then ! (fld_at ! 1 refl refl refl) (no_more !)))) refl (tt, (tt, (record { fits = are.0.0.1.0 }, tt))) $
          sets ! (ptr_at ! refl refl) refl (tt, tt) $
          sets ! (agg ! (and_then ! (get ! refl) (and_then ! (fld_at ! 1 refl refl refl) (no_more !)))) refl (tt, (tt, (record { fits = are.1.0.0.1.0 }, tt))) $
          sets ! (ptr_at ! refl refl) refl (tt, tt) $
          sets ! (agg ! (and_then ! (get ! refl) (and_then ! (fld_at ! 1 refl refl refl) (no_more !)))) refl (tt, (tt, (record { fits = are.1.1.0.0.1.0 }, tt))) $
          sets ! (ptr_at ! refl refl) refl (tt, tt) $
          sets ! (agg ! (and_then ! (get ! refl) (and_then ! (fld_at ! 1 refl refl refl) (no_more !)))) refl (tt, (tt, (record { fits = are.1.1.1.0.0.1.0 }, tt))) $
          sets ! (addr ! (from ! (stop !))) refl (tt, tt) $ sets ! (agg ! (and_then ! (get ! refl) (and_then ! (lit ! tt) (no_more !)))) refl (tt, (tt, (record { fits = ltb→lt _ _ tt }, tt))) $
          sets ! (addr ! (from ! (stop !))) refl (tt, tt) $ sets ! (agg ! (and_then ! (get ! refl) (and_then ! (lit ! tt) (no_more !)))) refl (tt, (tt, (record { fits = ltb→lt _ _ tt }, tt))) $
          apart D ps over κs qs a ! $ drop ! $ drop ! $ lends_none ! tt (l 9) (λ μ δ. shares_none ! tt (l 8) (λ ν.
          performs D ps over κs qs a ! 𝓣 k-perform (asked a.1.1.1.1.0 a.1.1.1.1.1.0) iq (xs_in u8 (l 8) 0 []) (xs_at u8 (l 9) 0 δ []) (λ y. (and_then ! (get ! refl) (and_then ! (get ! refl) (and_then ! (get ! refl) (and_then ! (get ! refl) (and_then ! (get ! refl) (and_then ! (get ! refl) (and_then ! (get ! refl) (no_more !))))))))) (λ r ir zs ms ls is os h.
          drop ! $ drop ! $ comes_none ! os (λ e. nothing ! $ nothing ! $ fjoin ! $ nothing ! $ fjoin ! $ use0 𝓛 (raw (toks 𝓛 0 tt tt)) (id⊢ 𝓤 _) $
          gathers D ps over κs qs a ! r zs ms ls is (tt, (tt, tt)) (so a.0.now a.1.0.now a.1.1.0.now a.1.1.1.0.now a.1.1.1.1.0 a.1.1.1.1.1.0 r zs ms ls is (subst (λ (u : List ℕ). D.says a.0.now a.1.0.now a.1.1.0.now a.1.1.1.0.now (asked a.1.1.1.1.0 a.1.1.1.1.1.0) [] [] r zs ms ls is u) e h)) $
          lands_as ! refl refl (D.answer.elem.typed 𝓛 r ir).0 $
          turns (through D ps over) ! 𝓣 k-turn r ir (and_then ! (get ! refl) (no_more !)) (λ ib. lands_as ! refl refl (D.result.elem.typed 𝓛 (D.turned r) ib).0 $
          sets ! (of_opd ! (get ! refl)) refl (D.result.elem.typed 𝓛 (D.turned r) ib).0 $
          returns ! (look_at ! 0 refl) $ free_all ! refl $
          by ! (ends (through D ps over) 𝓛 κs qs a r ib)))))))))
