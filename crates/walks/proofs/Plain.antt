-- Plain types as the walks take them.
--     Kind         a plain type: its row, its one MIR type, and what the steps ask of it. `of` is the type itself
--     Letters      of a kind, its type and what the steps ask of it: a walk opens them under letters of its own
--     uint, truth  the kinds of an unsigned number and of a bool
--     Has K L      values of K are MIR structs, and one of their fields is an L: which field, and what it holds
--     has_at       an operand: that field of the local that the code names
-- Assumes nothing: `Logic`, the laws of a model, is an argument.
use mathlib.Core.Path.{◌≡◌, ap, subst, ◌∙◌}
use mathlib.Core.Option.{some as someᴼ}
use mathlib.Core.List.{List, [], ◌∷◌}
use Prim.Native.Nat.{ℕ}
use seplogic.Ra.Ura.{Ura}
use mir.Syntax.{Sym, Width, Ty, Tys, ty_int, ty_bool, ty_struct, field, place as place', copy}
use mir.Fields.{get_v}
use mir.Val.{Val, Vals, vstruct}
use prog.Memory.{field_at}
use prog.Wp.{Env, spot_of}
use base.Fml.{Share, fat}
use types.Logic.{Logic}
use types.Kit.{Item, ‵}
use types.ByLocal.{at}
use types.Run.{Opd}
use denote.RattleType.{RattleType}
use denote.Laws.{Is}
use denote.Plain.{UInt, Boolean}
use Rattle.walks.proofs.Tab.{Elem, plainly, uint_elem, bool_elem, fld_at}

pub record Kind : Type 2 where
  pub row : RattleType
  pub ty : Ty
  pub elem : Elem (plainly row ty)

abbrev pub of : Kind → RattleType
of K = plainly K.row K.ty

pub record Letters : Type 2 where
  pub type : RattleType
  pub elem : Elem type

abbrev pub letters : Kind → Letters
letters K = record { type = of K; elem = K.elem }

abbrev pub uint : Width → Kind
uint w = record { row = UInt w; ty = ty_int w; elem = uint_elem w }

abbrev pub truth : Kind
truth = record { row = Boolean; ty = ty_bool; elem = bool_elem }

pub record Has (K L : Kind) : Type 2 where
  pub index : ℕ
  pub part : K.row.Denot → L.row.Denot
  pub symbol : Sym
  pub types : Tys
  pub offset : ℕ
  pub vals : K.row.Denot → Vals
  pub ty_is : K.ty ≡ ty_struct symbol types
  pub lies : field_at 0 types index ≡ someᴼ (L.ty, offset)
  pub val_is : (y : K.row.Denot) → K.elem.val y ≡ vstruct (vals y)
  pub get_is : (y : K.row.Denot) → get_v (vals y) index ≡ L.elem.val (part y)
  pub owed : (y : K.row.Denot) → Is (of K) y (K.elem.val y ∷ []) → Is (of L) (part y) (L.elem.val (part y) ∷ [])

module _ {M : Type 1} {𝓤 : Ura M} {𝓛 : Logic 𝓤} {J : Type 0} {Γ : List (Item 𝓤)} {E : Env 𝓤 𝓛.H} where
  open 𝓛 use {H}

  pub has_at : J → {K L : Kind} (F : Has K L) (y : K.row.Denot) {i : ℕ} {s : Share} {b o : ℕ} → at 𝓛 i Γ ≡ ‵ (fat s K.ty b o (K.elem.val y)) → spot_of 𝓤 H E i ≡ (K.ty, b, o)
      → Opd J 𝓛 Γ E (copy (place' i (field F.index ∷ []))) (L.elem.val (F.part y))
  has_at t {K} {L} F y {i} {s} {b} {o} e₁ e₂ = subst (λ (v : Val). Opd J 𝓛 Γ E (copy (place' i (field F.index ∷ []))) v) (F.get_is y)
      (fld_at t F.index (e₁ ∙ ap (λ (τ : Ty). ‵ (fat s τ b o (K.elem.val y))) F.ty_is ∙ ap (λ (v : Val). ‵ (fat s (ty_struct F.symbol F.types) b o v)) (F.val_is y))
      (e₂ ∙ ap (λ (τ : Ty). (τ, b, o)) F.ty_is) F.lies)
