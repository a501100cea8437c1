-- A `&κ mut [T]` that is lent on for one call, as a `&mut [T]` or as a `&[T]`, and comes back.
--     lends_on     a lifetime ν is made, and the slice is lent for it under a new name δ; `LentOn` is what the holder keeps
--     comes_on     after the call ν is ended, and the slice is back at the last list that the callee said
--     shares_on    the same as a `&ν [T]`; `SharedOn` is what the holder keeps
--     unshares     after the call ν is ended, and the slice is back as it was
-- Assumes nothing: `Logic`, the laws of a model, is an argument.
use mathlib.Core.Path.{◌≡◌, refl, sym, subst}
use Prim.Native.Nat.{ℕ}
use mathlib.Core.List.{List, [], ◌∷◌}
use lib.ListN.{length}
use seplogic.Ra.Ura.{Ura}
use base.Fraction.{full_share}
use mir.Syntax.{named}
use mir.Val.{Val}
use base.Fml.{Lft, GName, Share, Fml, Incl-refl, fsep, flft, fobs, fauth, flent, fobor}
use types.Logic.{Logic}
use types.Kit.{Goal, Soaks, Item, ‵, ◌⊛◌, some, later, Seq, Step, step, ◌$◌, move, drop, split, pick, await, use1, use2, use3, rewrite, fsplit, fjoin, feq_i}
use types.SemTy.{cells, Arr}
use types.Share.{arr_parts}
use types.Tokens.{lft_new, lft_end, lent_back}
use denote.RattleType.{RattleType}
use denote.Shadow.{shadow, pure_l, pure_i}
use denote.Memory.{mem, shares}
use denote.Slice.{slice_val, MutSlice, ShrSlice, Room, heres, coded_holeys, mut_slice_at, finally}
use denote.Lend.{Held, lends_slice, slice_back, lends_shr_slice}
use denote.Index.{row, whole_in, whole_out, opens_slice, closes_slice}
use Rattle.walks.proofs.Tab.{Elem, xs_at, xs_in}

module _ (R : RattleType) (κ : Lft) (q : Share) (b o : ℕ) (γ : GName) (ys : List R.Denot) (ν : ℕ) where
  -- the holder's own borrow, open, with both halves of its ghost variable
  abbrev Open : Fml
  Open = fsep (fobor κ q (Held R (length ys) b o γ)) (fsep (fobs γ ((coded_holeys R).code (heres R ys))) (fauth γ ((coded_holeys R).code (heres R ys))))

  abbrev pub LentOn : GName → Fml
  LentOn δ = fsep (flent (ν ∷ []) (Held R (length ys) b o δ)) Open

  abbrev pub SharedOn : Fml
  SharedOn = fsep (flent (ν ∷ []) ((arr_parts (shares R) (length ys)).part full_share ys b o)) Open

module _ {M : Type 1} {𝓤 : Ura M} {𝓛 : Logic 𝓤} {K : Type 0} {Γ : List (Item 𝓤)} {G : Goal 𝓤 𝓛.H} where
  pub lends_on : K → Soaks G → (R : RattleType) {κ : Lft} {q : Share} (b o : ℕ) {γ : GName} (ys : List R.Denot) (vs : List Val)
      → ((ν : ℕ) (δ : GName) → shadow (mut_slice_at R (xs_at R b o γ ys) vs) → Seq K 𝓛 (‵ ((MutSlice (named 0) (ν ∷ []) R).own_val (xs_at R b o δ ys) vs) ∷ ‵ (flft (ν ∷ []) full_share) ∷ ‵ (LentOn R κ q b o γ ys ν δ) ∷ Γ) G)
      → Seq K 𝓛 (‵ ((MutSlice (named 0) κ R).own_val (xs_at R b o γ ys) vs) ∷ ‵ (flft κ q) ∷ Γ) G
  lends_on t z R b o {γ} ys vs k =
      fsplit t $ pure_l t (mut_slice_at R (xs_at R b o γ ys) vs) (λ p. fsplit t $ opens_slice t z R ys b o $ use1 𝓛 (‵ (cells (mem R) ys b o)) (whole_in 𝓛 R ys b o) $ lft_new t z (λ ν. move t (1 ∷ []) $
      use1 𝓛 (later (some (λ (δ : GName). ‵ ((MutSlice (named 0) (ν ∷ []) R).own_val (xs_at R b o δ ys) (slice_val (b, o) (length ys) ∷ [])) ⊛ ‵ (flent (ν ∷ []) (Held R (length ys) b o δ))))) (lends_slice 𝓛 R (named 0) (ν ∷ []) ys b o p.1) $
      await t z $ pick t (λ δ. split t $ rewrite t 0 (λ (us : List Val). ‵ ((MutSlice (named 0) (ν ∷ []) R).own_val (xs_at R b o δ ys) us)) (sym p.0) refl $
      -- [the slice; the lender's part; the token; the open borrow; obs; auth]
      move t (4 ∷ 5 ∷ []) $ fjoin t $ move t (4 ∷ 0 ∷ []) $ fjoin t $ move t (2 ∷ 0 ∷ []) $ fjoin t $ move t (1 ∷ 2 ∷ 0 ∷ []) $ k ν δ p)))

  pub comes_on : K → Soaks G → (R : RattleType) {κ : Lft} {q : Share} (b o : ℕ) {γ : GName} (ys zs : List R.Denot) (vs : List Val) {ν : ℕ} {δ : GName} → shadow (mut_slice_at R (xs_at R b o γ ys) vs) → length zs ≡ length ys
      → Step K 𝓛 (‵ ((MutSlice (named 0) κ R).own_val (xs_at R b o γ zs) vs) ∷ ‵ (flft κ q) ∷ Γ) G (‵ (flft (ν ∷ []) full_share) ∷ ‵ (finally R δ zs) ∷ ‵ (LentOn R κ q b o γ ys ν δ) ∷ Γ) G
  comes_on t z R b o {γ} ys zs vs {ν} {δ} p e = step (λ s.
      lft_end t z $ move t (2 ∷ []) $ fsplit t $ move t (2 ∷ 0 ∷ 3 ∷ []) $
      use3 𝓛 (later (‵ ((Arr (mem R) (length ys)).own_at zs b o))) (slice_back 𝓛 R (ν ∷ []) δ zs (length ys) b o) $ await t z $ fsplit t $ drop t $ use1 𝓛 (‵ (row R full_share zs b o)) (whole_out 𝓛 R zs b o) $
      move t (1 ∷ []) $ fsplit t $ move t (1 ∷ []) $ fsplit t $ move t (3 ∷ 2 ∷ 0 ∷ 1 ∷ []) $ closes_slice t z R ys zs e b o $
      fjoin t $ pure_i t (mut_slice_at R (xs_at R b o γ zs) vs) (tt, (tt, tt)) (subst (λ (n : ℕ). (vs ≡ slice_val (b, o) n ∷ []) × Room R n) (sym e) p) $ fjoin t $ s)

  pub shares_on : K → Soaks G → {R : RattleType} (E : Elem R) {κ : Lft} {q : Share} (b o : ℕ) {γ : GName} (ys : List R.Denot) (vs : List Val)
      → ((ν : ℕ) → shadow (mut_slice_at R (xs_at R b o γ ys) vs) → Seq K 𝓛 (‵ ((ShrSlice (named 0) (ν ∷ []) R).own_val (xs_in R b o ys) vs) ∷ ‵ (flft (ν ∷ []) full_share) ∷ ‵ (SharedOn R κ q b o γ ys ν) ∷ Γ) G)
      → Seq K 𝓛 (‵ ((MutSlice (named 0) κ R).own_val (xs_at R b o γ ys) vs) ∷ ‵ (flft κ q) ∷ Γ) G
  shares_on t z {R} E b o {γ} ys vs k =
      fsplit t $ pure_l t (mut_slice_at R (xs_at R b o γ ys) vs) (λ p. fsplit t $ opens_slice t z R ys b o $ feq_i t ℕ (length ys) (length ys) refl $ fjoin t $ lft_new t z (λ ν. move t (1 ∷ 0 ∷ []) $
      use2 𝓛 (later ((‵ ((ShrSlice (named 0) (ν ∷ []) R).own_val (xs_in R b o ys) (slice_val (b, o) (length ys) ∷ [])) ⊛ ‵ (flent (ν ∷ []) ((arr_parts (shares R) (length ys)).part full_share ys b o))) ⊛ ‵ (flft (ν ∷ []) full_share)))
      (lends_shr_slice 𝓛 R (named 0) (ν ∷ []) full_share ys b o p.1 (ν ∷ []) ((E.copied 𝓛).shares full_share (ν ∷ [])) ((ν ∷ [], full_share) ∷ []) (Incl-refl (ν ∷ [])) (Incl-refl (ν ∷ []))) $
      await t z $ split t $ split t $ rewrite t 0 (λ (us : List Val). ‵ ((ShrSlice (named 0) (ν ∷ []) R).own_val (xs_in R b o ys) us)) (sym p.0) refl $
      -- [the slice; the lender's part; the token; the open borrow; obs; auth]
      move t (4 ∷ 5 ∷ []) $ fjoin t $ move t (4 ∷ 0 ∷ []) $ fjoin t $ move t (2 ∷ 0 ∷ []) $ fjoin t $ move t (1 ∷ 2 ∷ 0 ∷ []) $ k ν p))

  pub unshares : K → Soaks G → (R : RattleType) {κ : Lft} {q : Share} (b o : ℕ) {γ : GName} (ys : List R.Denot) (vs : List Val) {ν : ℕ} → shadow (mut_slice_at R (xs_at R b o γ ys) vs)
      → Step K 𝓛 (‵ ((MutSlice (named 0) κ R).own_val (xs_at R b o γ ys) vs) ∷ ‵ (flft κ q) ∷ Γ) G (‵ (flft (ν ∷ []) full_share) ∷ ‵ (SharedOn R κ q b o γ ys ν) ∷ Γ) G
  unshares t z R b o {γ} ys vs {ν} p = step (λ s.
      lft_end t z $ move t (1 ∷ []) $ fsplit t $ move t (2 ∷ 0 ∷ []) $ lent_back t z $ fsplit t $ drop t $
      move t (1 ∷ []) $ fsplit t $ move t (1 ∷ []) $ fsplit t $ move t (3 ∷ 2 ∷ 0 ∷ 1 ∷ []) $ closes_slice t z R ys ys refl b o $
      fjoin t $ pure_i t (mut_slice_at R (xs_at R b o γ ys) vs) (tt, (tt, tt)) p $ fjoin t $ s)
