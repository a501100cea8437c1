-- ONE WALK FOR EVERY FUNCTION THAT LENDS ALL IT IS LENT ON, WHOLE, TO A CALL OF THE FORM OF `Making.antt`, AND TURNS THE ANSWER INTO ANOTHER PLAIN
-- VALUE. A function of this form, whatever the call `perform`, the covered function `turn`, and the plain types:
--     pub fn lent(t: &mut [Channel], mem: &[u8], lens: &[u16], lines: &mut [u8], s: &[Settings]) -> Said
--     {
--         let a = perform(t, mem, lens, lines, s);
--         let r = turn(a);
--         r
--     }
-- where `perform` has the parameters of `Making.antt`'s form, and no `requires`, and `turn` ensures `result ≡ turned a`. It ensures of
-- `turned a` what follows of what `perform` ensures of a.
--     lent_making_meets     its arguments: the kinds of the records, of the answer, of what is given, of the settings; `turned`; what `perform`
--                           ensures (a relation), what this function ensures (a relation), and that the one gives the other; the names of
--                           `perform` and `turn`; then the model, the tables, and that each of the two meets its contract
-- Assumes nothing.
use Rattle.walks.proofs.Walk.{refl, List, [], ◌∷◌, ℕ, Ura, named, imm, mut, w8, w16, ty_int, ty_ref, WpFn, Tables, ◌$◌, ◌∵◌, !, qed, by, agg, of_opd, and_then, no_more, returns, enter, pointee, u8, u16, slice_ty, Triple, alloc_all, pass_all, free_all, look_at, get, sets, lands_as, Callee}
use package.mir.Syntax.{Fn, Callee, erased, local, value_local, place, field, deref, copy, rv_opd, addr_of, aggregate, seq, assign, call, return}
use types.Logic.{Logic}
use denote.RattleType.{RattleType}
use denote.Triple.Clauses.{closing}
use denote.Triple.Spec.{Meets}
use Rattle.walks.proofs.Tab.{fld_at, ptr_at}
use Rattle.walks.proofs.Plain.{Kind, of}
use Rattle.walks_lending.proofs.Lending.{Part, mut_slice, shr_slice, lent, Relates, values, ensuring, Turned, Perform, Turn, Passed, performs, turns, ends, lent_meets}

module _ (KC KN KB : Kind) where
  abbrev C : RattleType
  C = of KC

  -- what is ensured, with a result of the type R: by the table, mem, lens, lines, s, the result, and the table and the lines then
  abbrev pub Ensured : RattleType → RattleType → Type 1
  Ensured S R = List C.Denot → List ℕ → List ℕ → List ℕ → List S.Denot → R.Denot → List C.Denot → List ℕ → Type 0

  -- ---- the MIR
  module _ (S : RattleType) (fp ft : Callee) where
    abbrev pub function : Fn
    function = record {
      lifetimes = 5;
      outlives = [];
      ty_params = [];
      givens = 0;
      params = 5;
      locals = local KB.ty value_local ∷ local (slice_ty (ty_ref (named 0) mut (pointee C.written))) value_local ∷ local (slice_ty (ty_ref (named 1) imm (ty_int w8))) value_local ∷ local (slice_ty (ty_ref (named 2) imm (ty_int w16))) value_local ∷ local (slice_ty (ty_ref (named 3) mut (ty_int w8))) value_local ∷ local (slice_ty (ty_ref (named 4) imm (pointee S.written))) value_local ∷ local KN.ty value_local ∷ local KB.ty value_local ∷ local (ty_ref erased mut (pointee C.written)) value_local ∷ local (slice_ty (ty_ref erased mut (pointee C.written))) value_local ∷ local (ty_ref erased mut (ty_int w8)) value_local ∷ local (slice_ty (ty_ref erased mut (ty_int w8))) value_local ∷ [];
      body = seq (assign (place 8 []) (addr_of (place 1 (field 0 ∷ deref KC.ty ∷ []))))
          (seq (assign (place 9 []) (aggregate ((copy (place 8 [])) ∷ (copy (place 1 (field 1 ∷ []))) ∷ [])))
          (seq (assign (place 10 []) (addr_of (place 4 (field 0 ∷ deref (ty_int w8) ∷ []))))
          (seq (assign (place 11 []) (aggregate ((copy (place 10 [])) ∷ (copy (place 4 (field 1 ∷ []))) ∷ [])))
          (seq (call fp ((copy (place 9 [])) ∷ (copy (place 2 [])) ∷ (copy (place 3 [])) ∷ (copy (place 11 [])) ∷ (copy (place 5 [])) ∷ []) (place 6 []))
          (seq (call ft ((copy (place 6 [])) ∷ []) (place 7 []))
          (seq (assign (place 0 []) (rv_opd (copy (place 7 []))))
          return))))));
    }

  -- ---- what is called, and what is ensured
  module _ (KS : Kind) where
    abbrev parts : List (Part 5)
    parts = mut_slice 0 tt C ∷ shr_slice 1 tt u8 ∷ shr_slice 2 tt u16 ∷ mut_slice 3 tt u8 ∷ shr_slice 4 tt (of KS) ∷ []

    abbrev over : (R : RattleType) → Ensured (of KS) R → Relates parts R
    over R Z κs a r e = Z a.0.now a.1.0.now a.1.1.0.now a.1.1.1.0.now a.1.1.1.1.0.now r e.0.now e.1.1.1.0.now

    module _ (turned : (of KN).Denot → (of KB).Denot) (Z : Ensured (of KS) (of KN)) (X : Ensured (of KS) (of KB))
        (so : (ys : List C.Denot) (m ln li : List ℕ) (xs : List (of KS).Denot) (a : (of KN).Denot) (zs : List C.Denot) (is : List ℕ) → Z ys m ln li xs a zs is → X ys m ln li xs (turned a) zs is) where
      abbrev how : Turned 5
      how = record { parts = parts; answer = KN; result = KB; turned = turned; before = over (of KN) Z; after = over (of KB) X; so = λ κs a r e. so a.0.now a.1.0.now a.1.1.0.now a.1.1.1.0.now a.1.1.1.1.0.now r e.0.now e.1.1.1.0.now }

      -- ---- the walk
      module _ (fp ft : Callee) {M : Type 1} {𝓤 : Ura M} (𝓛 : Logic 𝓤) (𝓣 : Tables 𝓤 𝓛.H) (k-perform : Triple 𝓤 (𝓣.C fp) (Perform how 𝓤 𝓛)) (k-turn : Triple 𝓤 (𝓣.C ft) (Turn how 𝓤 𝓛)) where
        open 𝓛 use {H}

        pub lent_making_meets : Meets 𝓛 (lent parts (of KB)).signature (WpFn 𝓤 H 𝓣.C 𝓣.Λ (function (of KS) fp ft)) (closing 𝓛 (lent parts (of KB)) (ensuring parts 𝓤 (of KB) (over (of KB) X)))
        lent_making_meets = lent_meets how 𝓛 𝓣 (function (of KS) fp ft) (λ κs qs a are.
            qed 𝓛 (Passed how 𝓤 𝓛 κs qs a ∷ []) ∵ enter ! 𝓣.C 𝓣.Λ (function (of KS) fp ft) (values parts κs a) _ $
            alloc_all ! (λ l. pass_all ! refl ((tt, (tt, (record { fits = are.0.0.1.0 }, tt))), ((tt, (tt, (record { fits = are.1.0.0.1.0 }, tt))), ((tt, (tt, (record { fits = are.1.1.0.0.1.0 }, tt))), ((tt, (tt, (record { fits = are.1.1.1.0.0.1.0 }, tt))), ((tt, (tt, (record { fits = are.1.1.1.1.0.0.1.0 }, tt))), tt))))) $
            sets ! (ptr_at ! refl refl) refl (tt, tt) $
            sets ! (agg ! (and_then ! (get ! refl) (and_then ! (fld_at ! 1 refl refl refl) (no_more !)))) refl (tt, (tt, (record { fits = are.0.0.1.0 }, tt))) $
            sets ! (ptr_at ! refl refl) refl (tt, tt) $
            sets ! (agg ! (and_then ! (get ! refl) (and_then ! (fld_at ! 1 refl refl refl) (no_more !)))) refl (tt, (tt, (record { fits = are.1.1.1.0.0.1.0 }, tt))) $
            performs how ! 𝓣 k-perform κs qs a (and_then ! (get ! refl) (and_then ! (get ! refl) (and_then ! (get ! refl) (and_then ! (get ! refl) (and_then ! (get ! refl) (no_more !)))))) (λ r ir. lands_as ! refl refl (KN.elem.typed 𝓛 r ir).0 $
            turns how ! 𝓣 k-turn r ir (and_then ! (get ! refl) (no_more !)) (λ ib. lands_as ! refl refl (KB.elem.typed 𝓛 (turned r) ib).0 $
            sets ! (of_opd ! (get ! refl)) refl (KB.elem.typed 𝓛 (turned r) ib).0 $
            returns ! (look_at ! 0 refl) $ free_all ! refl $
            by ! (ends how 𝓛 κs qs a r ib)))))
