-- Steps of the logic's calculus (`Types/Kit.antt`) for a walk over a lent slice of plain records, `&[T]` and `&mut [T]`.
--     Elem R               what the steps ask of the element type: plain data of one machine value, which can be copied. A declared struct has it (`struct_elem`)
--     plainly              the type of plain data R with its one MIR type named, and with no last value
--     xs_at, xs_in         the reference ((b, o), γ) at the list ys, a `&mut [T]`; and the reference (b, o), a `&[T]`
--     shr_at, mut_at       what it owns as a `&κ [T]` and as a `&κ mut [T]`
--     gave_at              what is left of a `&κ mut [T]` that is given up: what says its last list, and the borrow
--     fld_at               an operand: field k of the local that the code names (the local itself is `Types/ByLocal.antt`'s `get`)
--     ptr_at               the address that the slice in the local that the code names points to, `&*s`
--     Looked, Opened       what is kept of a slice while an element is out
--     elem_ptr             the address of an element: the slice's pointer, and the index times the size
--     in_room              the place of an element is a number of the machine's
--     peeks_at, shuts_at   element i of a `&κ [T]` is taken out to be read, and put back
--     opens_at             element i of a `&κ mut [T]` is taken out, to be read or stored to
--     backs_at, closes_at  it is put back as it was; or at a new value y, and the slice is then at `set ys i y`
--     gives_up             a `&κ mut [T]` that is done with: what says its last list, and the borrow (for `gave_slice`)
--     gave_up              the same of one that a callee was passed, from what says its last list
--     assigns_out, skips_out   the last statement of an arm: the code after the branch runs
--     tests                the test of a `while`: the turn goes on, or the loop is left
--     left_of_lem, left_wf     the order by which a loop that counts up to n ends
--     calls_out, calls_plain   a call, with its `post` taken apart; and where the result is plain data, at its machine value
--     meets_by             from a walk to the contract: `Walked.antt`'s `walked` and `walk_Meets` in one
-- Assumes nothing: `Logic`, the laws of a model, is an argument.
use mathlib.Core.Path.{◌≡◌, refl, sym, ap, subst}
use mathlib.Core.Option.{some as someᴼ}
use Prim.Native.Nat.{ℕ, ◌+◌, ◌*◌, ◌^◌, ◌<◌, ◌≤◌, ◌-◌}
use native.Mathlib.Omega.{arith}
use native.Mathlib.Nat.{mul-le-mul_right}
use mathlib.Core.List.{List, [], ◌∷◌}
use lib.ListN.{length, get_or, set, length-set}
use seplogic.Ra.Ura.{Ura}
use base.Fraction.{full_share}
use mir.Syntax.{named, Sym, Width, w64, Lifetime, Mutability, Ty, Tys, ty_ref, ty_struct, Fn, Callee, field, deref, addr_of, Place, place as place', Opd as Operand, copy, op2, offset, Rv as RValue, Body, seq, assign, skip, cond, exit, call}
use mir.Fields.{get_v, set_v}
use prog.Memory.{field_at}
use mir.Val.{Val, Vals, vint, vbool, vptr, vstruct, vcons, vnil}
use mathlib.Core.Bool.{Bool, not}
use lib.Dec.{T}
use lib.WfN.{lt-wf_rel}
use mathlib.Core.WellFounded.InvImage
use mathlib.Core.WellFounded.{WellFounded}
use base.Fml.{Lft, GName, Share, Fml, fat, fsep, flft, fobs, fres, fauth, fbor, fobor, feq, fhide}
use prog.Wp.{Env, Spot, spot_of, Calls, Loops, Wp, exits, after_seq, at_return, WpFn, Tables}
use sound.WpLaws.{FmC, WpFn-mono}
use types.Logic.{Logic}
use base.Logic.{SProp, ent, sep, id⊢}
use types.Kit.{Goal, prop, post, runs, lands, any_q, at_ret, Post, Soaks, Item, ‵, raw, some, later, ◌⊛◌, Seq, Step, step, ◌$◌, move, drop, split, join, pick, await, use1, regoal, fsplit, fjoin, feq_l}
use types.Run.{Opds, Rv, Finds, Writes, Walks, Opd, load, addr, stop, hop, fld, from, bin, assigns_last, skips, jumps, first, branches}
use types.Part.{Part, whole, sub}
use types.ByLocal.{at, look_in_at}
use denote.RattleType.{RattleType, RowLaws, flat}
use denote.Exit.{unchanged}
use denote.Shadow.{shadow, pure_l, pure_i}
use contract.Lifetimes.{Lfts, Shares, AllOutlive}
use denote.Laws.{Is, Ises, Are, Spells, valss, Tellss, Typed, Tells, Makes, shows}
use denote.Copied.{Copied, uint_Copied, bool_Copied}
use denote.Opens.{Shut}
use denote.Signature.{type_at, types_at}
use denote.Triple.Entry.{Args, Res, alive, on_entry}
use denote.Triple.Clauses.{Clauses, Ended, Lasts, at_exit, lasts, closing}
use denote.Triple.Spec.{Meets, triple_of}
use denote.Triple.Statement.{Triple}
use denote.Triple.Call.{calls_at}
use denote.Triple.Walked.{Stays, AllGo, walk_of, walked, walk_Meets}
use denote.Memory.{cell_at, mem, shares}
use denote.Bor.{Bor}
use denote.MutBor.{MutBor}
use denote.Slice.{slice_val, slice_ty, MutSlice, ShrSlice, Room, heres, coded_holeys, shr_slice_at, mut_slice_at, elements_shared, finally, res-finally}
use denote.Lend.{Held}
use denote.Index.{place, place_is, others, row as cells_row, elem_out, elem_put, elem_back, opens_slice, closes_slice, looks_slice, shuts_slice}
use denote.Steps.{only, owned, facts}
use denote.Plain.{UInt, uint_Tells, uint_Lawful, uint_Makes, Boolean, bool_Tells, bool_Lawful, bool_Makes, uint_row_laws, bool-row_laws}
use denote.Struct.Declared.{Declared, row, shape, fields}
use denote.Struct.Recorded.{Recorded-row_laws}
use denote.Struct.Struct.{Plains, Struct, Struct-row_laws}
use denote.Struct.Laws as LL
use denote.Enum.Declared as ED
use denote.Enum.Enum.{Plainss, Few, Enum, Enum-row_laws}
use denote.Enum.Laws as EL

abbrev pub plainly : RattleType → Ty → RattleType
plainly R τ = record { Denot = R.Denot; mir = τ ∷ []; written = R.written; reaches = R.reaches; lives = R.lives; own_val = R.own_val; exit = λ k. unchanged; coded = R.coded; shr_at = R.shr_at }

pub record Elem (R : RattleType) : Type 2 where
  pub val : R.Denot → Val
  pub tells : Tells R (Is R) (λ y. val y ∷ [])
  pub typed : {M : Type 1} {𝓤 : Ura M} (𝓛 : Logic 𝓤) (y : R.Denot) → Is R y (val y ∷ []) → Typed R.mir (val y ∷ [])
  pub copied : {M : Type 1} {𝓤 : Ura M} (𝓛 : Logic 𝓤) → Copied 𝓛 R
  pub makes : {M : Type 1} {𝓤 : Ura M} (𝓛 : Logic 𝓤) → Makes 𝓛 R (Is R)
  pub row_laws : RowLaws R

abbrev pub struct_elem : (T : Declared) (L : LL.Laws T) → LL.Copyables T.parts → Plains (fields T) → Elem (row T)
struct_elem T L cp pl = record {
  val = LL.val T L;
  tells = LL.tells T L;
  typed = λ 𝓛 y p. (LL.lawful T L 𝓛).typed y (LL.val T L y ∷ []) p;
  copied = λ 𝓛. LL.copied T cp 𝓛;
  makes = λ 𝓛. LL.makes T pl 𝓛;
  row_laws = Recorded-row_laws (Struct (shape T)) T.D T.to T.to_one (Struct-row_laws (shape T) (LL.copy_row_laws T.parts cp));
}

abbrev pub enum_elem : (T : ED.Declared) (L : EL.Laws T) → EL.Copyabless T.parts → Plainss (ED.variants T) → Few (ED.shape T) → Elem (ED.row T)
enum_elem T L cp pl few = record {
  val = EL.val T L;
  tells = EL.tells T L;
  typed = λ 𝓛 y p. (EL.lawful T L 𝓛 few).typed y (EL.val T L y ∷ []) p;
  copied = λ 𝓛. EL.copied T cp 𝓛;
  makes = λ 𝓛. EL.makes T pl 𝓛;
  row_laws = Recorded-row_laws (Enum (ED.shape T)) T.D T.to T.to_one (Enum-row_laws (ED.shape T) (EL.copy_row_lawss T.parts cp));
}

abbrev pub uint_elem : (w : Width) → Elem (UInt w)
uint_elem w = record {
  val = vint w;
  tells = uint_Tells w;
  typed = λ 𝓛 y p. (uint_Lawful 𝓛 w).typed y (vint w y ∷ []) p;
  copied = λ 𝓛. uint_Copied 𝓛 w;
  makes = λ 𝓛. uint_Makes 𝓛 w;
  row_laws = uint_row_laws w;
}

abbrev pub bool_elem : Elem Boolean
bool_elem = record {
  val = vbool;
  tells = bool_Tells;
  typed = λ 𝓛 y p. (bool_Lawful 𝓛).typed y (vbool y ∷ []) p;
  copied = λ 𝓛. bool_Copied 𝓛;
  makes = λ 𝓛. bool_Makes 𝓛;
  row_laws = bool-row_laws;
}

module _ (R : RattleType) (b o : ℕ) where
  abbrev pub xs_in : List R.Denot → Bor (List R.Denot)
  xs_in ys = record { ref_ptr = (b, o); now = ys }

  -- what is kept of a `&κ [T]` while the share q' of element i, at the machine values vs, is out
  module _ {M : Type 1} {𝓤 : Ura M} (𝓛 : Logic 𝓤) (κ : Lft) (q : Share) (ys : List R.Denot) (i : ℕ) where
    abbrev pub Looked : Share → R.Denot → List Val → Item 𝓤
    Looked q' d vs = ‵ (R.own_val (get_or ys i d) vs) ⊛ (‵ (others (shares R) q' ys i b o) ⊛ (Shut 𝓛 κ q (cells_row R q' ys b o) ⊛ ‵ (fhide (elements_shared R ys b o κ))))

module _ (R : RattleType) (b o : ℕ) (γ : GName) where
  abbrev pub xs_at : List R.Denot → MutBor (List R.Denot)
  xs_at ys = record { ref_ptr = (b, o); ghost_name = γ; now = ys }

  module _ (κ : Lft) (q : Share) (ys : List R.Denot) (i : ℕ) where
    -- what is kept of a `&κ mut [T]` while element i is out
    abbrev pub Opened : Fml
    Opened = fsep (others (shares R) full_share ys i b o) (fsep (fobor κ q (Held R (length ys) b o γ)) (fsep (fobs γ ((coded_holeys R).code (heres R ys))) (fauth γ ((coded_holeys R).code (heres R ys)))))

module _ (R : RattleType) (κ : Lft) (b o : ℕ) where
  abbrev pub shr_at : List R.Denot → Fml
  shr_at ys = (ShrSlice (named 0) κ R).own_val (xs_in R b o ys) (slice_val (b, o) (length ys) ∷ [])

  module _ (γ : GName) where
    abbrev pub mut_at : List R.Denot → Fml
    mut_at ys = (MutSlice (named 0) κ R).own_val (xs_at R b o γ ys) (slice_val (b, o) (length ys) ∷ [])

    -- the slice of n elements is given up at the list zs
    abbrev pub gave_at : ℕ → List R.Denot → Fml
    gave_at n zs = fsep (finally R γ zs) (fbor κ (Held R n b o γ))

module _ {M : Type 1} {𝓤 : Ura M} {𝓛 : Logic 𝓤} {K : Type 0} {Γ : List (Item 𝓤)} {G : Goal 𝓤 𝓛.H} where
  pub peeks_at : K → Soaks G → {R : RattleType} (E : Elem R) {κ : Lft} {q : Share} (b o : ℕ) (ys : List R.Denot) {vs : List Val} (i : ℕ) (d : R.Denot) → i < length ys
      → ((q' : Share) → shadow (shr_slice_at R (xs_in R b o ys) vs) → Is R (get_or ys i d) (E.val (get_or ys i d) ∷ [])
      → Seq K 𝓛 (‵ (cell_at q' R.mir (E.val (get_or ys i d) ∷ []) b (place (mem R).size o i)) ∷ Looked R b o 𝓛 κ q ys i q' d (E.val (get_or ys i d) ∷ []) ∷ Γ) G)
      → Seq K 𝓛 (‵ ((ShrSlice (named 0) κ R).own_val (xs_in R b o ys) vs) ∷ ‵ (flft κ q) ∷ Γ) G
  peeks_at t z {R} E b o ys {vs} i d l k =
      fsplit t $ pure_l t (shr_slice_at R (xs_in R b o ys) vs) (λ p. looks_slice t z R (E.copied 𝓛) ys b o (λ q'.
      elem_out t R (Is R) (shows 𝓛 R) (λ y. E.val y ∷ []) E.tells q' ys i d b o l (λ is.
      -- [the element; what it owns; the others; what shuts; what the slice owns]
      move t (3 ∷ 4 ∷ []) $ join t $ move t (3 ∷ 0 ∷ []) $ join t $ move t (2 ∷ 0 ∷ []) $ join t $ move t (1 ∷ []) $ k q' p is)))

  pub shuts_at : K → Soaks G → {R : RattleType} (E : Elem R) {κ : Lft} {q : Share} (b o : ℕ) (ys : List R.Denot) (vs : List Val) (q' : Share) (i : ℕ) (d : R.Denot) → i < length ys
      → shadow (shr_slice_at R (xs_in R b o ys) vs)
      → Step K 𝓛 (‵ ((ShrSlice (named 0) κ R).own_val (xs_in R b o ys) vs) ∷ ‵ (flft κ q) ∷ Γ) G (‵ (cell_at q' R.mir (E.val (get_or ys i d) ∷ []) b (place (mem R).size o i)) ∷ Looked R b o 𝓛 κ q ys i q' d (E.val (get_or ys i d) ∷ []) ∷ Γ) G
  shuts_at t z {R} E b o ys vs q' i d l p = step (λ s.
      move t (1 ∷ []) $ split t $ move t (1 ∷ []) $ split t $ move t (1 ∷ []) $ split t $
      -- [what shuts; what the slice owns; the others; what the element owns; the element]
      move t (4 ∷ 3 ∷ 2 ∷ []) $ elem_back t R q' ys i d (E.val (get_or ys i d) ∷ []) b o l $ shuts_slice t z R q' ys b o $
      move t (1 ∷ []) $ pure_i t (shr_slice_at R (xs_in R b o ys) vs) (tt, (tt, tt)) p $ fjoin t $ s)

  pub opens_at : K → Soaks G → {R : RattleType} (E : Elem R) {κ : Lft} {q : Share} (b o : ℕ) {γ : GName} (ys : List R.Denot) {vs : List Val} (i : ℕ) (d : R.Denot) → i < length ys
      → (shadow (mut_slice_at R (xs_at R b o γ ys) vs) → Is R (get_or ys i d) (E.val (get_or ys i d) ∷ [])
      → Seq K 𝓛 (‵ (cell_at full_share R.mir (E.val (get_or ys i d) ∷ []) b (place (mem R).size o i)) ∷ ‵ (Opened R b o γ κ q ys i) ∷ Γ) G)
      → Seq K 𝓛 (‵ ((MutSlice (named 0) κ R).own_val (xs_at R b o γ ys) vs) ∷ ‵ (flft κ q) ∷ Γ) G
  opens_at t z {R} E b o {γ} ys {vs} i d l k =
      fsplit t $ pure_l t (mut_slice_at R (xs_at R b o γ ys) vs) (λ p. fsplit t $ opens_slice t z R ys b o $
      elem_out t R (Is R) (shows 𝓛 R) (λ y. E.val y ∷ []) E.tells full_share ys i d b o l (λ is.
      -- [the element; what it owns; the others; the open borrow; obs; auth]
      move t (1 ∷ []) $ drop t $ move t (3 ∷ 4 ∷ []) $ fjoin t $ move t (3 ∷ 0 ∷ []) $ fjoin t $ move t (2 ∷ 0 ∷ []) $ fjoin t $ move t (1 ∷ 0 ∷ []) $ k p is))

  -- it is put back as it was
  pub backs_at : K → Soaks G → {R : RattleType} (E : Elem R) {κ : Lft} {q : Share} (b o : ℕ) {γ : GName} (ys : List R.Denot) (vs : List Val) (i : ℕ) (d : R.Denot) → i < length ys
      → shadow (mut_slice_at R (xs_at R b o γ ys) vs) → Is R (get_or ys i d) (E.val (get_or ys i d) ∷ [])
      → Step K 𝓛 (‵ ((MutSlice (named 0) κ R).own_val (xs_at R b o γ ys) vs) ∷ ‵ (flft κ q) ∷ Γ) G (‵ (cell_at full_share R.mir (E.val (get_or ys i d) ∷ []) b (place (mem R).size o i)) ∷ ‵ (Opened R b o γ κ q ys i) ∷ Γ) G
  backs_at t z {R} E b o {γ} ys vs i d l p is = step (λ s.
      owned t R (Is R) (E.makes 𝓛) (get_or ys i d) (E.val (get_or ys i d) ∷ []) is $ move t (2 ∷ []) $ fsplit t $ move t (3 ∷ 2 ∷ 0 ∷ 1 ∷ []) $
      elem_back t R full_share ys i d (E.val (get_or ys i d) ∷ []) b o l $ move t (1 ∷ []) $ fsplit t $ move t (1 ∷ []) $ fsplit t $ move t (3 ∷ 2 ∷ 0 ∷ 1 ∷ []) $
      closes_slice t z R ys ys refl b o $ fjoin t $ pure_i t (mut_slice_at R (xs_at R b o γ ys) vs) (tt, (tt, tt)) p $ fjoin t $ s)

  -- y is put in its place
  pub closes_at : K → Soaks G → {R : RattleType} (E : Elem R) {κ : Lft} {q : Share} (b o : ℕ) {γ : GName} (ys : List R.Denot) (vs : List Val) (i : ℕ) (y : R.Denot) → i < length ys
      → shadow (mut_slice_at R (xs_at R b o γ ys) vs) → Is R y (E.val y ∷ [])
      → Step K 𝓛 (‵ ((MutSlice (named 0) κ R).own_val (xs_at R b o γ (set ys i y)) vs) ∷ ‵ (flft κ q) ∷ Γ) G (‵ (cell_at full_share R.mir (E.val y ∷ []) b (place (mem R).size o i)) ∷ ‵ (Opened R b o γ κ q ys i) ∷ Γ) G
  closes_at t z {R} E b o {γ} ys vs i y l p is = step (λ s.
      owned t R (Is R) (E.makes 𝓛) y (E.val y ∷ []) is $ move t (2 ∷ []) $ fsplit t $ move t (3 ∷ 2 ∷ 0 ∷ 1 ∷ []) $
      elem_put t R full_share ys i y (E.val y ∷ []) b o l $ move t (1 ∷ []) $ fsplit t $ move t (1 ∷ []) $ fsplit t $ move t (3 ∷ 2 ∷ 0 ∷ 1 ∷ []) $
      closes_slice t z R ys (set ys i y) (length-set ys i y) b o $ fjoin t $
      pure_i t (mut_slice_at R (xs_at R b o γ (set ys i y)) vs) (tt, (tt, tt)) (subst (λ (n : ℕ). (vs ≡ slice_val (b, o) n ∷ []) × Room R n) (sym (length-set ys i y)) p) $ fjoin t $ s)

  -- it is given up, at its last list
  pub gives_up : K → (R : RattleType) {κ : Lft} (b o : ℕ) {γ : GName} (ys : List R.Denot) {vs : List Val} → Step K 𝓛 (‵ (gave_at R κ b o γ (length ys) ys) ∷ Γ) G (‵ ((MutSlice (named 0) κ R).own_val (xs_at R b o γ ys) vs) ∷ Γ) G
  gives_up t R {κ} b o {γ} ys = step (λ s. fsplit t $ drop t $ fsplit t $ use1 𝓛 (‵ (fres γ ((coded_holeys R).code (heres R ys)))) (𝓛.names.obs-res γ ((coded_holeys R).code (heres R ys))) $
      use1 𝓛 (‵ (finally R γ ys)) (res-finally 𝓛 (named 0) κ R γ ys) $ fjoin t $ s)

  -- the same, from what a callee that it was passed to says
  pub gave_up : K → (R : RattleType) {κ : Lft} {b o n : ℕ} {γ : GName} {zs : List R.Denot} → (length zs ≡ n → Seq K 𝓛 (‵ (gave_at R κ b o γ n zs) ∷ Γ) G) → Seq K 𝓛 (‵ (fsep (fsep (finally R γ zs) (feq ℕ (length zs) n)) (fbor κ (Held R n b o γ))) ∷ Γ) G
  gave_up t R k = fsplit t $ fsplit t $ move t (1 ∷ []) $ feq_l t (λ e. fjoin t $ k e)

-- ---- operands
module _ {M : Type 1} {𝓤 : Ura M} {𝓛 : Logic 𝓤} {K : Type 0} {Γ : List (Item 𝓤)} {E : Env 𝓤 𝓛.H} where
  open 𝓛 use {H}

  pub fld_at : K → (k : ℕ) {i : ℕ} {s : Share} {ν : Sym} {τs : Tys} {b o : ℕ} {vs : Vals} {τ : Ty} {d : ℕ} → at 𝓛 i Γ ≡ ‵ (fat s (ty_struct ν τs) b o (vstruct vs)) → spot_of 𝓤 H E i ≡ (ty_struct ν τs, b, o) → field_at 0 τs k ≡ someᴼ (τ, d)
      → Opd K 𝓛 Γ E (copy (place' i (field k ∷ []))) (get_v vs k)
  fld_at t k {i} {s} {ν} {τs} {b} {o} {vs} {τ} {d} e₁ e₂ e₃ =
      load t (from t (subst (λ (sp : Spot 𝓤 H). Walks K 𝓛 Γ E sp (field k ∷ []) (τ, b, o + d)) (sym e₂) (fld t e₃ (stop t))))
      (look_in_at t i (subst (λ (j : Item 𝓤). Part K 𝓛 j s τ b (o + d) (get_v vs k) (λ u. ‵ (fat s (ty_struct ν τs) b o (vstruct (set_v vs k u))))) (sym e₁) (sub t k e₃ (whole t))))

  pub ptr_at : K → {i : ℕ} {s : Share} {ℓ : Lifetime} {μ : Mutability} {σ τ : Ty} {b o b' o' n : ℕ} → at 𝓛 i Γ ≡ ‵ (fat s (slice_ty (ty_ref ℓ μ σ)) b o (slice_val (b', o') n)) → spot_of 𝓤 H E i ≡ (slice_ty (ty_ref ℓ μ σ), b, o) → Rv K 𝓛 Γ E (addr_of (place' i (field 0 ∷ deref τ ∷ []))) (vptr b' o')
  ptr_at t {i} {s} {ℓ} {μ} {σ} {τ} {b} {o} {b'} {o'} {n} e₁ e₂ =
      addr t (from t (subst (λ (sp : Spot 𝓤 H). Walks K 𝓛 Γ E sp (field 0 ∷ deref τ ∷ []) (τ, b', o')) (sym e₂)
      (fld t refl (hop t (look_in_at t i (subst (λ (j : Item 𝓤). Part K 𝓛 j s (ty_ref ℓ μ σ) b (o + 0) (vptr b' o') (λ u. ‵ (fat s (slice_ty (ty_ref ℓ μ σ)) b o (vstruct (set_v (vcons (vptr b' o') (vcons (vint w64 n) vnil)) 0 u))))) (sym e₁) (sub t 0 refl (whole t)))) (stop t)))))

  pub elem_ptr : K → (size o i : ℕ) {b : ℕ} {x z : Operand} → Opd K 𝓛 Γ E x (vptr b o) → Opd K 𝓛 Γ E z (vint w64 (i * size)) → Rv K 𝓛 Γ E (op2 offset x z) (vptr b (place size o i))
  elem_ptr t size o i {b} {x} {z} p r = subst (λ (m : ℕ). Rv K 𝓛 Γ E (op2 offset x z) (vptr b m)) (sym (place_is size o i)) (bin t p r tt)

pub in_room : (R : RattleType) (i n : ℕ) → i < n → Room R n → i * (mem R).size < 2 ^ 64
in_room R i n l room =
    let l' : i ≤ n = omega (arith, l) in
    omega (arith, mul-le-mul_right (mem R).size l', room.1)

-- ---- a loop that counts up to n
abbrev pub left_of_lem : ℕ → ℕ → ℕ → Type 0
left_of_lem n i j = n - i < n - j

pub left_wf : (n : ℕ) → WellFounded (left_of_lem n)
left_wf n = InvImage.wf (λ (i : ℕ). n - i) lt-wf_rel.wf

-- ---- the end of an arm, and calls
module _ {M : Type 1} {𝓤 : Ura M} {𝓛 : Logic 𝓤} {K : Type 0} {Γ : List (Item 𝓤)} {E : Env 𝓤 𝓛.H} {C : Calls 𝓤 𝓛.H} {Λ : Loops 𝓤 𝓛.H} where
  -- an arm's last statement, in a function's body: `rest` is what follows the branch
  open 𝓛 use {H}

  pub assigns_out : K → (rest : Body) (Kf : Val → SProp 𝓤) {p : Place} {rv : RValue} {v : Val} {sp : Spot 𝓤 H} {Γ' : List (Item 𝓤)} → Rv K 𝓛 Γ E rv v → Finds K 𝓛 Γ E p sp → Writes K 𝓛 Γ sp.0 sp.1 sp.2 v Γ'
      → Step K 𝓛 Γ' (runs C Λ E rest (at_ret E Kf)) Γ (runs C Λ E (assign p rv) (any_q (after_seq 𝓤 H (Wp 𝓤 H C Λ E rest (at_return 𝓤 H E Kf)) (at_return 𝓤 H E Kf))))
  assigns_out t rest Kf r f w = step (λ s. assigns_last t r f w $ record { prf = s.prf })

  pub skips_out : K → (rest : Body) (Kf : Val → SProp 𝓤) → Step K 𝓛 Γ (runs C Λ E rest (at_ret E Kf)) Γ (runs C Λ E skip (any_q (after_seq 𝓤 H (Wp 𝓤 H C Λ E rest (at_return 𝓤 H E Kf)) (at_return 𝓤 H E Kf))))
  skips_out t rest Kf = step (λ s. skips t $ record { prf = s.prf })

  pub tests : K → {c : Operand} {n : ℕ} {b : Body} {q : Post 𝓤 H} {y : Bool} → Opd K 𝓛 Γ E c (vbool y) → (T (y) → Seq K 𝓛 Γ (runs C Λ E b q)) → (T (not y) → Seq K 𝓛 Γ (prop (post 𝓤 H q (exits n))))
      → Seq K 𝓛 Γ (runs C Λ E (seq (cond c skip (exit n)) b) q)
  tests t o stay leave = first t $ branches t o (λ h. skips t $ record { prf = (stay h).prf }) (λ h. jumps t $ record { prf = (leave h).prf })

  module _ {f : Callee} {xs : List Operand} {d : Place} {rest : Body} {q : Post 𝓤 H} where
    -- a call: the tokens, the result, what is said of the last values, and what the callee ensures
    pub calls_out : K → FmC 𝓤 H 𝓛.laws C → (T : Ended) (c : Clauses 𝓤 T) → Triple 𝓤 (C f) (triple_of 𝓛 T.signature (closing 𝓛 T c)) → (y : (triple_of 𝓛 T.signature (closing 𝓛 T c)).Ghost)
        → Opds K 𝓛 (raw ((triple_of 𝓛 T.signature (closing 𝓛 T c)).pre y) ∷ Γ) E xs ((triple_of 𝓛 T.signature (closing 𝓛 T c)).args y)
        → ((u : Val) (r : Res T.signature y.0.0) (ws : Lasts T y.0.0 y.0.3)
        → Seq K 𝓛 (raw (alive 𝓛 T.signature y.0.0 y.0.1) ∷ ‵ ((type_at T.signature.result y.0.0).own_val r (u ∷ [])) ∷ ‵ (lasts T y.0.0 y.0.3 ws)
        ∷ raw ((c y.0.0 y.0.3).ensures y.1 r (at_exit T y.0.0 y.0.3 ws)) ∷ Γ) (lands C Λ E d u rest q))
        → Seq K 𝓛 (raw ((triple_of 𝓛 T.signature (closing 𝓛 T c)).pre y) ∷ Γ) (runs C Λ E (seq (call f xs d) rest) q)
    calls_out t fm T c met y os k = calls_at t fm (triple_of 𝓛 T.signature (closing 𝓛 T c)) met y os (λ u.
        use1 𝓛 (later (some (λ (r : Res T.signature y.0.0). (raw (alive 𝓛 T.signature y.0.0 y.0.1) ⊛ ‵ ((type_at T.signature.result y.0.0).own_val r (u ∷ [])))
        ⊛ some (λ (ws : Lasts T y.0.0 y.0.3). ‵ (lasts T y.0.0 y.0.3 ws) ⊛ raw ((c y.0.0 y.0.3).ensures y.1 r (at_exit T y.0.0 y.0.3 ws)))))) (id⊢ 𝓤 _) $
        await t tt $ pick t (λ r. split t $ split t $ move t (2 ∷ []) $ pick t (λ ws. split t $ move t (2 ∷ 3 ∷ []) $ k u r ws)))

    -- the same where the result is plain data: it is stored at its machine value
    pub calls_plain : K → FmC 𝓤 H 𝓛.laws C → (T : Ended) (c : Clauses 𝓤 T) → Triple 𝓤 (C f) (triple_of 𝓛 T.signature (closing 𝓛 T c)) → (y : (triple_of 𝓛 T.signature (closing 𝓛 T c)).Ghost)
        → (P : Elem (type_at T.signature.result y.0.0))
        → Opds K 𝓛 (raw ((triple_of 𝓛 T.signature (closing 𝓛 T c)).pre y) ∷ Γ) E xs ((triple_of 𝓛 T.signature (closing 𝓛 T c)).args y)
        → ((r : Res T.signature y.0.0) (ws : Lasts T y.0.0 y.0.3) → Is (type_at T.signature.result y.0.0) r (P.val r ∷ [])
        → Seq K 𝓛 (raw (alive 𝓛 T.signature y.0.0 y.0.1) ∷ ‵ (lasts T y.0.0 y.0.3 ws)
        ∷ raw ((c y.0.0 y.0.3).ensures y.1 r (at_exit T y.0.0 y.0.3 ws)) ∷ Γ) (lands C Λ E d (P.val r) rest q))
        → Seq K 𝓛 (raw ((triple_of 𝓛 T.signature (closing 𝓛 T c)).pre y) ∷ Γ) (runs C Λ E (seq (call f xs d) rest) q)
    calls_plain t fm T c met y P os k = calls_out t fm T c met y os (λ u r ws. move t (1 ∷ []) $
        facts t (type_at T.signature.result y.0.0) (Is (type_at T.signature.result y.0.0)) (shows 𝓛 (type_at T.signature.result y.0.0)) r (u ∷ []) (λ is.
        regoal t (λ (v : Val). lands C Λ E d v rest q) (ap only (P.tells r (u ∷ []) is)) refl $
        k r ws (subst (Is (type_at T.signature.result y.0.0) r) (P.tells r (u ∷ []) is) is)))

-- ---- from a walk to the contract
module _ {M : Type 1} {𝓤 : Ura M} (𝓛 : Logic 𝓤) (T : Ended) (hs : Stays T.signature.params T.kept) (gs : AllGo 𝓛 T.signature.lifetimes T.signature.params T.kept hs) (c : Clauses 𝓤 T) (f : Fn) (𝓣 : Tables 𝓤 𝓛.H) where
  open 𝓛 use {H}

  pub meets_by : (sp : (κs : Lfts T.signature.lifetimes) → Spells (types_at T.signature.params κs)) → ((κs : Lfts T.signature.lifetimes) → Tellss (types_at T.signature.params κs) (Ises (types_at T.signature.params κs)) (sp κs))
      → ((κs : Lfts T.signature.lifetimes) (qs : Shares T.signature.lifetimes) (bounds : AllOutlive T.signature.lifetimes T.signature.outlives κs) (a : Args T.signature κs) (g : (c κs a).ghost)
      → Are (types_at T.signature.params κs) (Ises (types_at T.signature.params κs)) a (valss (types_at T.signature.params κs) (sp κs) a)
      → ent 𝓤 (sep 𝓤 (on_entry 𝓛 T.signature κs qs a (valss (types_at T.signature.params κs) (sp κs) a)) ((c κs a).requires g))
      (WpFn 𝓤 H 𝓣.C 𝓣.Λ f (flat (types_at T.signature.params κs) (valss (types_at T.signature.params κs) (sp κs) a)) ((walk_of 𝓛 T hs c).post ((κs, qs, bounds, a, valss (types_at T.signature.params κs) (sp κs) a), g))))
      → Meets 𝓛 T.signature (WpFn 𝓤 H 𝓣.C 𝓣.Λ f) (closing 𝓛 T c)
  meets_by sp tl k = walk_Meets 𝓛 T hs gs c (WpFn 𝓤 H 𝓣.C 𝓣.Λ f) (WpFn-mono 𝓤 H 𝓛.laws 𝓣 f) (walked 𝓛 T hs c (WpFn 𝓤 H 𝓣.C 𝓣.Λ f) sp tl k)
