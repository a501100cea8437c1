-- ONE WALK FOR EVERY CALL OF THE FORM OF `Call.antt` ON A TABLE THAT IS HELD BY VALUE. A function of this form, whatever the function `perform`
-- that it lends the table to and the plain types that `Held.antt` names, with P the plain type of its argument and N the number of records:
--     pub fn perform_in(t: [Channel; N], mem: &mut [u8], lens: &mut [u16], lines: &mut [u8], n: P, x: &[u8], out: &mut [u8]) -> Kept
--     {
--         let mut u = t;
--         let a = perform(&mut u, mem, lens, lines, n, x, out);
--         Kept { answer: a, table: u }
--     }
-- where `perform` has the parameters of `Call.antt`'s form, and no `requires`. It ensures of the answer and the table in what it gives back what
-- `perform` ensures of its answer and of the table that it leaves.
--     held_call_meets      its arguments: the types (`Held`), the kind of P, what `perform` ensures (a relation), the name of `perform`; then the
--                          model, the tables, and that `perform` meets its contract
-- Assumes nothing.
use types.Logic.{Logic}
use Rattle.walks.proofs.Walk.{refl, List, [], ◌∷◌, ℕ, ltb→lt, Ura, named, imm, mut, w8, w16, w64, Ty, ty_int, ty_ref, WpFn, Tables, ◌$◌, ◌∵◌, !, qed, by, move, agg, stop, from, lit, addr, of_opd, and_then, no_more, returns, enter, Is, pointee, u8, u16, slice_ty, mut_slice_Tells, shr_slice_Tells, plain, Triple, shr_slice_vals, mut_slice_vals, alloc_all, pass_all, free_all, look_at, get, sets, lands_as, Callee}
use package.mir.Syntax.{Fn, Callee, ty_array, erased, local, value_local, memory_slot, place, field, deref, copy, int, rv_opd, addr_of, aggregate, seq, assign, call, return}
use denote.RattleType.{RattleType}
use types.ByLocal.{take_at, give_at}
use denote.Signature.{mut_slice, shr_slice}
use denote.Triple.Clauses.{closing}
use denote.Triple.Spec.{Meets}
use Rattle.walks.proofs.Tab.{fld_at, ptr_at}
use Rattle.walks.proofs.Plain.{Kind, of}
use Rattle.walks_lending.proofs.Held.{Held, C, N, ET, B, pairs_up}
use Rattle.walks_lending.proofs.Holding.{Holding, ended, clauses, Perform, values, Passed, performs, ends, held_meets}

module _ (K : Held) where
  -- what `perform` ensures: by the table, mem, lens, lines, the argument, x, out, the answer, and the table, mem, lens, lines, out then
  abbrev pub Ensured : RattleType → Type 1
  Ensured P = List (C K).Denot → List ℕ → List ℕ → List ℕ → P.Denot → List ℕ → List ℕ → (N K).Denot → List (C K).Denot → List ℕ → List ℕ → List ℕ → List ℕ → Type 0

  -- ---- the MIR
  module _ (τp : Ty) (fp : Callee) where
    abbrev pub function : Fn
    function = record {
      lifetimes = 5;
      outlives = [];
      ty_params = [];
      givens = 0;
      params = 7;
      locals = local K.kept.ty value_local ∷ local (ty_array K.channel.ty K.count) value_local ∷ local (slice_ty (ty_ref (named 0) mut (ty_int w8))) value_local ∷ local (slice_ty (ty_ref (named 1) mut (ty_int w16))) value_local ∷ local (slice_ty (ty_ref (named 2) mut (ty_int w8))) value_local ∷ local τp value_local ∷ local (slice_ty (ty_ref (named 3) imm (ty_int w8))) value_local ∷ local (slice_ty (ty_ref (named 4) mut (ty_int w8))) value_local ∷ local (ty_array K.channel.ty K.count) memory_slot ∷ local K.answer.ty value_local ∷ local (ty_ref erased mut (ty_array (pointee (C K).written) K.count)) value_local ∷ local (slice_ty (ty_ref erased mut (pointee (C K).written))) value_local ∷ local (ty_ref erased mut (ty_int w8)) value_local ∷ local (slice_ty (ty_ref erased mut (ty_int w8))) value_local ∷ local (ty_ref erased mut (ty_int w16)) value_local ∷ local (slice_ty (ty_ref erased mut (ty_int w16))) value_local ∷ local (ty_ref erased mut (ty_int w8)) value_local ∷ local (slice_ty (ty_ref erased mut (ty_int w8))) value_local ∷ local (ty_ref erased mut (ty_int w8)) value_local ∷ local (slice_ty (ty_ref erased mut (ty_int w8))) value_local ∷ local (ty_array K.channel.ty K.count) value_local ∷ [];
      body = seq (assign (place 8 []) (rv_opd (copy (place 1 []))))
          (seq (assign (place 10 []) (addr_of (place 8 [])))
          (seq (assign (place 11 []) (aggregate ((copy (place 10 [])) ∷ (int w64 K.count) ∷ [])))
          (seq (assign (place 12 []) (addr_of (place 2 (field 0 ∷ deref (ty_int w8) ∷ []))))
          (seq (assign (place 13 []) (aggregate ((copy (place 12 [])) ∷ (copy (place 2 (field 1 ∷ []))) ∷ [])))
          (seq (assign (place 14 []) (addr_of (place 3 (field 0 ∷ deref (ty_int w16) ∷ []))))
          (seq (assign (place 15 []) (aggregate ((copy (place 14 [])) ∷ (copy (place 3 (field 1 ∷ []))) ∷ [])))
          (seq (assign (place 16 []) (addr_of (place 4 (field 0 ∷ deref (ty_int w8) ∷ []))))
          (seq (assign (place 17 []) (aggregate ((copy (place 16 [])) ∷ (copy (place 4 (field 1 ∷ []))) ∷ [])))
          (seq (assign (place 18 []) (addr_of (place 7 (field 0 ∷ deref (ty_int w8) ∷ []))))
          (seq (assign (place 19 []) (aggregate ((copy (place 18 [])) ∷ (copy (place 7 (field 1 ∷ []))) ∷ [])))
          (seq (call fp ((copy (place 11 [])) ∷ (copy (place 13 [])) ∷ (copy (place 15 [])) ∷ (copy (place 17 [])) ∷ (copy (place 5 [])) ∷ (copy (place 6 [])) ∷ (copy (place 19 [])) ∷ []) (place 9 []))
          (seq (assign (place 20 []) (rv_opd (copy (place 8 []))))
          (seq (assign (place 0 []) (aggregate ((copy (place 9 [])) ∷ (copy (place 20 [])) ∷ [])))
          return)))))))))))));
    }

  -- ---- what is called, and what is ensured
  module _ (KP : Kind) (Z : Ensured (of KP)) where
    abbrev how : Holding K 5
    how = record {
      here = mut_slice 0 tt (λ _. u8) ∷ mut_slice 1 tt (λ _. u16) ∷ mut_slice 2 tt (λ _. u8) ∷ plain (λ _. of KP) ∷ shr_slice 3 tt (λ _. u8) ∷ mut_slice 4 tt (λ _. u8) ∷ [];
      there = mut_slice 1 tt (λ _. u8) ∷ mut_slice 2 tt (λ _. u16) ∷ mut_slice 3 tt (λ _. u8) ∷ plain (λ _. of KP) ∷ shr_slice 4 tt (λ _. u8) ∷ mut_slice 5 tt (λ _. u8) ∷ [];
      vals = λ κs. (mut_slice_vals, (mut_slice_vals, (mut_slice_vals, ((λ z. KP.elem.val z ∷ []), (shr_slice_vals, (mut_slice_vals, tt))))));
      tells = λ κs. (mut_slice_Tells (named 0) κs.0 u8, (mut_slice_Tells (named 1) κs.1.0 u16, (mut_slice_Tells (named 2) κs.1.1.0 u8, (KP.elem.tells, (shr_slice_Tells (named 3) κs.1.1.1.0 u8, (mut_slice_Tells (named 4) κs.1.1.1.1.0 u8, tt))))));
      to = λ κs a. a;
      to_vals = λ κs vss. vss;
      back = λ κs a ws. ws;
      flat_is = λ κs vss. refl;
      owns_is = λ κs a vss. refl;
      ending_is = λ κs a ws. refl;
      before = λ κs ys a r zs e. Z ys a.0.now a.1.0.now a.1.1.0.now a.1.1.1.0 a.1.1.1.1.0.now a.1.1.1.1.1.0.now r zs e.0.now e.1.0.now e.1.1.0.now e.1.1.1.1.1.0.now;
      after = λ κs ys a r zs e. Z ys a.0.now a.1.0.now a.1.1.0.now a.1.1.1.0 a.1.1.1.1.0.now a.1.1.1.1.1.0.now r zs e.0.now e.1.0.now e.1.1.0.now e.1.1.1.1.1.0.now;
      so = λ κs ys a r zs ws h. h;
    }

    -- ---- the walk
    module _ (fp : Callee) {M : Type 1} {𝓤 : Ura M} (𝓛 : Logic 𝓤) (𝓣 : Tables 𝓤 𝓛.H) (known : Triple 𝓤 (𝓣.C fp) (Perform how 𝓤 𝓛)) where
      open 𝓛 use {H}

      pub held_call_meets : Meets 𝓛 (ended how).signature (WpFn 𝓤 H 𝓣.C 𝓣.Λ (function KP.ty fp)) (closing 𝓛 (ended how) (clauses how 𝓤))
      held_call_meets = held_meets how 𝓛 𝓣 (function KP.ty fp) (λ κs qs a ys is are.
          qed 𝓛 (Passed how 𝓤 𝓛 κs qs a ∷ []) ∵ enter ! 𝓣.C 𝓣.Λ (function KP.ty fp) (values how κs a ys) _ $
          alloc_all ! (λ l. pass_all ! refl (((ET K).typed 𝓛 ys is).0, ((tt, (tt, (record { fits = are.0.0.1.0 }, tt))), ((tt, (tt, (record { fits = are.1.0.0.1.0 }, tt))), ((tt, (tt, (record { fits = are.1.1.0.0.1.0 }, tt))), ((KP.elem.typed 𝓛 a.1.1.1.0 are.1.1.1.0).0, ((tt, (tt, (record { fits = are.1.1.1.1.0.0.1.0 }, tt))), ((tt, (tt, (record { fits = are.1.1.1.1.1.0.0.1.0 }, tt))), tt))))))) $
          sets ! (of_opd ! (get ! refl)) refl ((ET K).typed 𝓛 ys is).0 $
          sets ! (addr ! (from ! (stop !))) refl (tt, tt) $
          sets ! (agg ! (and_then ! (get ! refl) (and_then ! (lit ! K.fits) (no_more !)))) refl (tt, (tt, (record { fits = ltb→lt _ _ K.fits }, tt))) $
          sets ! (ptr_at ! refl refl) refl (tt, tt) $
          sets ! (agg ! (and_then ! (get ! refl) (and_then ! (fld_at ! 1 refl refl refl) (no_more !)))) refl (tt, (tt, (record { fits = are.0.0.1.0 }, tt))) $
          sets ! (ptr_at ! refl refl) refl (tt, tt) $
          sets ! (agg ! (and_then ! (get ! refl) (and_then ! (fld_at ! 1 refl refl refl) (no_more !)))) refl (tt, (tt, (record { fits = are.1.0.0.1.0 }, tt))) $
          sets ! (ptr_at ! refl refl) refl (tt, tt) $
          sets ! (agg ! (and_then ! (get ! refl) (and_then ! (fld_at ! 1 refl refl refl) (no_more !)))) refl (tt, (tt, (record { fits = are.1.1.0.0.1.0 }, tt))) $
          sets ! (ptr_at ! refl refl) refl (tt, tt) $
          sets ! (agg ! (and_then ! (get ! refl) (and_then ! (fld_at ! 1 refl refl refl) (no_more !)))) refl (tt, (tt, (record { fits = are.1.1.1.1.1.0.0.1.0 }, tt))) $
          take_at ! 8 $
          performs how ! 𝓣 known κs qs a ys is (l 8) (λ ν γ. and_then ! (get ! refl) (and_then ! (get ! refl) (and_then ! (get ! refl) (and_then ! (get ! refl) (and_then ! (get ! refl) (and_then ! (get ! refl) (and_then ! (get ! refl) (no_more !)))))))) (λ r zs ir iz.
          let ik : Is (B K) (K.holding r zs) (K.kept.elem.val (K.holding r zs) ∷ []) = K.owes r zs ir iz in
          -- [what is left; the table; the locals]
          move ! (1 ∷ []) $ give_at ! 8 $
          lands_as ! refl refl (K.answer.elem.typed 𝓛 r ir).0 $
          sets ! (of_opd ! (get ! refl)) refl ((ET K).typed 𝓛 zs iz).0 $
          sets ! (pairs_up ! K r zs (get ! refl) (get ! refl)) refl (K.kept.elem.typed 𝓛 (K.holding r zs) ik).0 $
          returns ! (look_at ! 0 refl) $ free_all ! refl $ by ! (ends how 𝓛 κs qs a ys r zs ik))))
