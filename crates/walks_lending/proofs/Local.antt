-- A local array of plain records that is lent as a `&mut [T]` for one call, and comes back.
--     array_elem       an array of what has `Tab.antt`'s `Elem` has it
--     lends_array      the local's cell becomes a `&κ mut [T]` at the list xs, under a new name, beside the lender's part
--     array_back       once κ is dead, the lender's part and what says the last list give the cell back, at that list
-- Assumes nothing: `Logic`, the laws of a model, is an argument.
use mathlib.Core.Path.{◌≡◌, refl, sym, subst, ◌∙◌}
use Prim.Native.Nat.{ℕ}
use mathlib.Core.List.{List, [], ◌∷◌, map}
use lib.ListN.{length}
use base.Fraction.{full_share}
use seplogic.Ra.Ura.{Ura}
use mir.Syntax.{named, ty_array}
use mir.Raw.{raw as raw_ty}
use mir.Val.{Val}
use base.Fml.{Lft, GName, fsep, fat, fdead, flent}
use types.Logic.{Logic}
use types.Kit.{Goal, Soaks, Item, ‵, ◌⊛◌, some, later, Seq, ◌$◌, move, drop, split, pick, await, use1, use3, rewrite, fsplit, fjoin, fpick, fpack, feq_l, feq_i}
use types.SemTy.{cells, Arr}
use types.Share.{arr_parts}
use denote.RattleType.{RattleType}
use denote.Laws.{Is, Typed, shows}
use denote.Memory.{cell_at, lone, part_at, mem, shares, part_of}
use denote.Array.{Array, array_val, Array-Tells, Array-Typed, Array-row_laws, Array-Makes}
use denote.Copied.{Array-Copied}
use denote.ArrayMemory.{Single, Array-apart, Array-whole}
use denote.Slice.{slice_val, MutSlice, Room, finally}
use denote.Lend.{Held, lends_slice, slice_back}
use denote.Index.{row, whole_in, whole_out}
use denote.Steps.{owned, facts}
use Rattle.walks.proofs.Tab.{Elem, xs_at}

abbrev pub array_elem : (R : RattleType) → Elem R → Single R.mir → (n : ℕ) → Elem (Array R n)
array_elem R E one n = record {
  val = λ xs. array_val (map E.val xs);
  tells = Array-Tells R (λ y. E.val y ∷ []) E.tells n;
  typed = λ 𝓛 xs p. Array-Typed R (λ x vs s. subst (Typed R.mir) (sym (E.tells x vs s)) (E.typed 𝓛 x (subst (Is R x) (E.tells x vs s) s))) n xs (array_val (map E.val xs) ∷ []) p;
  copied = λ 𝓛. Array-Copied 𝓛 R (E.copied 𝓛) one n;
  makes = λ 𝓛. Array-Makes 𝓛 R (E.makes 𝓛) n;
  row_laws = Array-row_laws R E.row_laws n;
}

module _ {M : Type 1} {𝓤 : Ura M} {𝓛 : Logic 𝓤} {K : Type 0} {Γ : List (Item 𝓤)} {G : Goal 𝓤 𝓛.H} where
  pub lends_array : K → Soaks G → {R : RattleType} (E : Elem R) → Single R.mir → (n : ℕ) (κ : Lft) (b : ℕ) (xs : List R.Denot) → Is (Array R n) xs (array_val (map E.val xs) ∷ []) → length xs ≡ n → Room R n
      → ((γ : GName) → Seq K 𝓛 (‵ ((MutSlice (named 0) κ R).own_val (xs_at R b 0 γ xs) (slice_val (b, 0) n ∷ [])) ∷ ‵ (flent κ (Held R (length xs) b 0 γ)) ∷ Γ) G)
      → Seq K 𝓛 (‵ (fat full_share (ty_array (lone R.mir) n) b 0 (array_val (map E.val xs))) ∷ Γ) G
  unfolding part_of
  lends_array t z {R} E one n κ b xs is e room k =
      use1 𝓛 (‵ (fat full_share (raw_ty (ty_array (lone R.mir) n)) b 0 (array_val (map E.val xs)))) (𝓛.laws.at_raw full_share (ty_array (lone R.mir) n) b 0 (array_val (map E.val xs))) $
      owned t (Array R n) (Is (Array R n)) (Array-Makes 𝓛 R (E.makes 𝓛) n) xs (array_val (map E.val xs) ∷ []) is $ move t (1 ∷ 0 ∷ []) $ fjoin t $
      fpack t (List Val) (λ us. fsep (cell_at full_share (Array R n).mir us b 0) ((Array R n).own_val xs us)) (array_val (map E.val xs) ∷ []) $
      use1 𝓛 (‵ ((arr_parts (shares R) n).part full_share xs b 0)) (Array-apart 𝓛 R full_share one n xs b 0) $ fsplit t $ drop t $ use1 𝓛 (‵ (cells (mem R) xs b 0)) (whole_in 𝓛 R xs b 0) $
      use1 𝓛 (later (some (λ (γ : GName). ‵ ((MutSlice (named 0) κ R).own_val (xs_at R b 0 γ xs) (slice_val (b, 0) (length xs) ∷ [])) ⊛ ‵ (flent κ (Held R (length xs) b 0 γ))))) (lends_slice 𝓛 R (named 0) κ xs b 0 (subst (Room R) (sym e) room)) $
      await t z $ pick t (λ γ. split t $ rewrite t 0 (λ (m : ℕ). ‵ ((MutSlice (named 0) κ R).own_val (xs_at R b 0 γ xs) (slice_val (b, 0) m ∷ []))) e refl $ k γ)

  pub array_back : K → Soaks G → {R : RattleType} (E : Elem R) (n : ℕ) (κ : Lft) (b : ℕ) {γ : GName} (xs zs : List R.Denot) → length xs ≡ n
      → (Is (Array R n) zs (array_val (map E.val zs) ∷ []) → Seq K 𝓛 (‵ (fat full_share (ty_array (lone R.mir) n) b 0 (array_val (map E.val zs))) ∷ Γ) G)
      → Seq K 𝓛 (‵ (fdead κ) ∷ ‵ (flent κ (Held R (length xs) b 0 γ)) ∷ ‵ (finally R γ zs) ∷ Γ) G
  unfolding part_of
  array_back t z {R} E n κ b {γ} xs zs e k =
      use3 𝓛 (later (‵ ((Arr (mem R) (length xs)).own_at zs b 0))) (slice_back 𝓛 R κ γ zs (length xs) b 0) $ await t z $ fsplit t $ feq_l t (λ l.
      use1 𝓛 (‵ (row R full_share zs b 0)) (whole_out 𝓛 R zs b 0) $ feq_i t ℕ (length zs) n (l ∙ e) $ fjoin t $
      use1 𝓛 (‵ (part_at (Array R n) full_share zs b 0)) (Array-whole 𝓛 R full_share n zs b 0) $ fpick t (λ vs. fsplit t $ move t (1 ∷ []) $
      facts t (Array R n) (Is (Array R n)) (shows 𝓛 (Array R n)) zs vs (λ is.
      let told : vs ≡ array_val (map E.val zs) ∷ [] = Array-Tells R (λ y. E.val y ∷ []) E.tells n zs vs is in
      rewrite t 0 (λ (us : List Val). ‵ (cell_at full_share (Array R n).mir us b 0)) told refl $
      use1 𝓛 (‵ (fat full_share (ty_array (lone R.mir) n) b 0 (array_val (map E.val zs)))) (𝓛.laws.raw_at full_share (ty_array (lone R.mir) n) b 0 (array_val (map E.val zs))) $
      k (subst (Is (Array R n) zs) told is))))
