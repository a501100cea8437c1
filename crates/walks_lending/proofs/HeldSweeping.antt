-- ONE WALK FOR EVERY CALL OF THE FORM OF `Sweeping.antt` ON A TABLE THAT IS HELD BY VALUE. A function of this form, whatever the function `tick`
-- that it lends the table to and the plain types that `Held.antt` names, with N the number of records:
--     pub fn tick_in(t: [Channel; N], mem: &[u8], lens: &[u16], lines: &mut [u8]) -> Kept
--     {
--         let mut u = t;
--         let a = tick(&mut u, mem, lens, lines);
--         Kept { answer: a, table: u }
--     }
-- where `tick` has the parameters of `Sweeping.antt`'s form, and no `requires`. It ensures of the answer and the table in what it gives back what
-- `tick` ensures of its answer and of the table that it leaves.
--     held_sweeping_meets      its arguments: the types (`Held`), what `tick` ensures (a relation), the name of `tick`; then the model, the
--                              tables, and that `tick` meets its contract
-- Assumes nothing.
use types.Logic.{Logic}
use Rattle.walks.proofs.Walk.{refl, List, [], ◌∷◌, ℕ, ltb→lt, Ura, named, imm, mut, w8, w16, w64, ty_int, ty_ref, WpFn, Tables, ◌$◌, ◌∵◌, !, qed, by, move, agg, stop, from, lit, addr, of_opd, and_then, no_more, returns, enter, Is, pointee, u8, u16, slice_ty, mut_slice_Tells, shr_slice_Tells, Triple, shr_slice_vals, mut_slice_vals, alloc_all, pass_all, free_all, look_at, get, sets, lands_as, Callee}
use package.mir.Syntax.{Fn, Callee, ty_array, erased, local, value_local, memory_slot, place, field, deref, copy, int, rv_opd, addr_of, aggregate, seq, assign, call, return}
use types.ByLocal.{take_at, give_at}
use denote.Signature.{mut_slice, shr_slice}
use denote.Triple.Clauses.{closing}
use denote.Triple.Spec.{Meets}
use Rattle.walks.proofs.Tab.{fld_at, ptr_at}
use Rattle.walks_lending.proofs.Held.{Held, C, N, ET, B, pairs_up}
use Rattle.walks_lending.proofs.Holding.{Holding, ended, clauses, Perform, values, Passed, performs, ends, held_meets}

module _ (K : Held) where
  -- what `tick` ensures: by the table, mem, lens and lines, the answer, and the table and the lines then
  abbrev pub Ensured : Type 1
  Ensured = List (C K).Denot → List ℕ → List ℕ → List ℕ → (N K).Denot → List (C K).Denot → List ℕ → Type 0

  -- ---- the MIR
  module _ (ft : Callee) where
    abbrev pub function : Fn
    function = record {
      lifetimes = 3;
      outlives = [];
      ty_params = [];
      givens = 0;
      params = 4;
      locals = local K.kept.ty value_local ∷ local (ty_array K.channel.ty K.count) value_local ∷ local (slice_ty (ty_ref (named 0) imm (ty_int w8))) value_local ∷ local (slice_ty (ty_ref (named 1) imm (ty_int w16))) value_local ∷ local (slice_ty (ty_ref (named 2) mut (ty_int w8))) value_local ∷ local (ty_array K.channel.ty K.count) memory_slot ∷ local K.answer.ty value_local ∷ local (ty_ref erased mut (ty_array (pointee (C K).written) K.count)) value_local ∷ local (slice_ty (ty_ref erased mut (pointee (C K).written))) value_local ∷ local (ty_ref erased mut (ty_int w8)) value_local ∷ local (slice_ty (ty_ref erased mut (ty_int w8))) value_local ∷ local (ty_array K.channel.ty K.count) value_local ∷ [];
      body = seq (assign (place 5 []) (rv_opd (copy (place 1 []))))
          (seq (assign (place 7 []) (addr_of (place 5 [])))
          (seq (assign (place 8 []) (aggregate ((copy (place 7 [])) ∷ (int w64 K.count) ∷ [])))
          (seq (assign (place 9 []) (addr_of (place 4 (field 0 ∷ deref (ty_int w8) ∷ []))))
          (seq (assign (place 10 []) (aggregate ((copy (place 9 [])) ∷ (copy (place 4 (field 1 ∷ []))) ∷ [])))
          (seq (call ft ((copy (place 8 [])) ∷ (copy (place 2 [])) ∷ (copy (place 3 [])) ∷ (copy (place 10 [])) ∷ []) (place 6 []))
          (seq (assign (place 11 []) (rv_opd (copy (place 5 []))))
          (seq (assign (place 0 []) (aggregate ((copy (place 6 [])) ∷ (copy (place 11 [])) ∷ [])))
          return)))))));
    }

  -- ---- what is called, and what is ensured
  module _ (Z : Ensured) where
    abbrev how : Holding K 3
    how = record {
      here = shr_slice 0 tt (λ _. u8) ∷ shr_slice 1 tt (λ _. u16) ∷ mut_slice 2 tt (λ _. u8) ∷ [];
      there = shr_slice 1 tt (λ _. u8) ∷ shr_slice 2 tt (λ _. u16) ∷ mut_slice 3 tt (λ _. u8) ∷ [];
      vals = λ κs. (shr_slice_vals, (shr_slice_vals, (mut_slice_vals, tt)));
      tells = λ κs. (shr_slice_Tells (named 0) κs.0 u8, (shr_slice_Tells (named 1) κs.1.0 u16, (mut_slice_Tells (named 2) κs.1.1.0 u8, tt)));
      to = λ κs a. a;
      to_vals = λ κs vss. vss;
      back = λ κs a ws. ws;
      flat_is = λ κs vss. refl;
      owns_is = λ κs a vss. refl;
      ending_is = λ κs a ws. refl;
      before = λ κs ys a r zs e. Z ys a.0.now a.1.0.now a.1.1.0.now r zs e.1.1.0.now;
      after = λ κs ys a r zs e. Z ys a.0.now a.1.0.now a.1.1.0.now r zs e.1.1.0.now;
      so = λ κs ys a r zs ws h. h;
    }

    -- ---- the walk
    module _ (ft : Callee) {M : Type 1} {𝓤 : Ura M} (𝓛 : Logic 𝓤) (𝓣 : Tables 𝓤 𝓛.H) (known : Triple 𝓤 (𝓣.C ft) (Perform how 𝓤 𝓛)) where
      open 𝓛 use {H}

      pub held_sweeping_meets : Meets 𝓛 (ended how).signature (WpFn 𝓤 H 𝓣.C 𝓣.Λ (function ft)) (closing 𝓛 (ended how) (clauses how 𝓤))
      held_sweeping_meets = held_meets how 𝓛 𝓣 (function ft) (λ κs qs a ys is are.
          qed 𝓛 (Passed how 𝓤 𝓛 κs qs a ∷ []) ∵ enter ! 𝓣.C 𝓣.Λ (function ft) (values how κs a ys) _ $
          alloc_all ! (λ l. pass_all ! refl (((ET K).typed 𝓛 ys is).0, ((tt, (tt, (record { fits = are.0.0.1.0 }, tt))), ((tt, (tt, (record { fits = are.1.0.0.1.0 }, tt))), ((tt, (tt, (record { fits = are.1.1.0.0.1.0 }, tt))), tt)))) $
          sets ! (of_opd ! (get ! refl)) refl ((ET K).typed 𝓛 ys is).0 $
          sets ! (addr ! (from ! (stop !))) refl (tt, tt) $
          sets ! (agg ! (and_then ! (get ! refl) (and_then ! (lit ! K.fits) (no_more !)))) refl (tt, (tt, (record { fits = ltb→lt _ _ K.fits }, tt))) $
          sets ! (ptr_at ! refl refl) refl (tt, tt) $
          sets ! (agg ! (and_then ! (get ! refl) (and_then ! (fld_at ! 1 refl refl refl) (no_more !)))) refl (tt, (tt, (record { fits = are.1.1.0.0.1.0 }, tt))) $
          take_at ! 5 $
          performs how ! 𝓣 known κs qs a ys is (l 5) (λ ν γ. and_then ! (get ! refl) (and_then ! (get ! refl) (and_then ! (get ! refl) (and_then ! (get ! refl) (no_more !))))) (λ r zs ir iz.
          let ik : Is (B K) (K.holding r zs) (K.kept.elem.val (K.holding r zs) ∷ []) = K.owes r zs ir iz in
          -- [what is left; the table; the locals]
          move ! (1 ∷ []) $ give_at ! 5 $
          lands_as ! refl refl (K.answer.elem.typed 𝓛 r ir).0 $
          sets ! (of_opd ! (get ! refl)) refl ((ET K).typed 𝓛 zs iz).0 $
          sets ! (pairs_up ! K r zs (get ! refl) (get ! refl)) refl (K.kept.elem.typed 𝓛 (K.holding r zs) ik).0 $
          returns ! (look_at ! 0 refl) $ free_all ! refl $ by ! (ends how 𝓛 κs qs a ys r zs ik))))
