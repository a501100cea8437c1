-- What the walks of the calls on a table that is held by value share (`HeldCall.antt`, `HeldSweeping.antt`). Whoever calls such a function has
-- no reference to a struct.
--     Held             their plain types: a record of the table, how many there are, the answer, and the struct of an answer and a table, in this
--                      order of its fields, that is given back
--     C, N, T, ET, B   a record of the table, the answer, the table (with what the steps ask of it), and what is given back, as types
--     pairs_up         an aggregate of an answer and a table, as that struct
--     vals_through     of a table in a struct that a crate declares: the machine values of its records are those of the records alone
--     lies_through     and such a table is one, as a field of the struct, where it is one by itself
-- Assumes nothing.
use mathlib.Core.Path.{◌≡◌, refl, ap, subst, sym}
use mathlib.Core.List.{List, [], ◌∷◌, map}
use Prim.Native.Nat.{ℕ, suc, ◌*◌, ◌^◌}
use lib.Dec.{T as Tᴮ, ltb}
use lib.ListN.{length}
use seplogic.Ra.Ura.{Ura}
use mir.Syntax.{Opd as Operand, aggregate}
use mir.Val.{Val, vstruct, of_list}
use prog.Wp.{Env}
use types.Logic.{Logic}
use types.Kit.{Item}
use types.Run.{Opd, Rv, and_then, no_more}
use types.Part.{agg}
use denote.RattleType.{RattleType}
use denote.Memory.{mem}
use denote.Shadow.{shadow}
use denote.Laws.{Is}
use denote.Array.{Array, array_val, each}
use denote.Struct.Declared.{Declared, row, shape}
use denote.Struct.Struct.{Struct}
use denote.Struct.Laws as LL
use Rattle.walks.proofs.Tab.{Elem}
use Rattle.walks.proofs.Plain.{Kind, of}
use Rattle.walks_lending.proofs.Local.{array_elem}

pub record Held : Type 2 where
  pub channel : Kind
  pub answer : Kind
  pub count : ℕ
  -- what is given back, what it says and the table that it holds
  pub kept : Kind
  pub said : kept.row.Denot → answer.row.Denot
  pub table : kept.row.Denot → List channel.row.Denot
  pub holding : answer.row.Denot → List channel.row.Denot → kept.row.Denot
  pub holds : (Q : answer.row.Denot → List channel.row.Denot → Type 0) (a : answer.row.Denot) (ys : List channel.row.Denot) → Q a ys → Q (said (holding a ys)) (table (holding a ys))
  pub val_is : (a : answer.row.Denot) (ys : List channel.row.Denot) → vstruct (of_list (answer.elem.val a ∷ array_val (map channel.elem.val ys) ∷ [])) ≡ kept.elem.val (holding a ys)
  pub owes : (a : answer.row.Denot) (ys : List channel.row.Denot) → Is (of answer) a (answer.elem.val a ∷ []) → Is (Array (of channel) count) ys (array_val (map channel.elem.val ys) ∷ [])
      → Is (of kept) (holding a ys) (kept.elem.val (holding a ys) ∷ [])
  -- the count is a number of the machine's, and the table's size is small enough
  pub fits : Tᴮ (ltb count (2 ^ 64))
  pub small : Tᴮ (ltb (count * (mem (of channel)).size) (2 ^ 63))

module _ (K : Held) where
  abbrev pub C : RattleType
  C = of K.channel

  abbrev pub N : RattleType
  N = of K.answer

  abbrev pub T : RattleType
  T = Array C K.count

  abbrev pub ET : Elem T
  ET = array_elem C K.channel.elem tt K.count

  abbrev pub B : RattleType
  B = of K.kept

module _ {M : Type 1} {𝓤 : Ura M} {𝓛 : Logic 𝓤} {J : Type 0} {Γ : List (Item 𝓤)} {E : Env 𝓤 𝓛.H} where
  pub pairs_up : J → (K : Held) (a : K.answer.row.Denot) (ys : List K.channel.row.Denot) {x z : Operand} → Opd J 𝓛 Γ E x (K.answer.elem.val a) → Opd J 𝓛 Γ E z (array_val (map K.channel.elem.val ys))
      → Rv J 𝓛 Γ E (aggregate (x ∷ z ∷ [])) (K.kept.elem.val (K.holding a ys))
  pairs_up t K a ys {x} {z} p r = subst (λ (v : Val). Rv J 𝓛 Γ E (aggregate (x ∷ z ∷ [])) v) (K.val_is a ys) (agg t (and_then t p (and_then t r (no_more t))))

module _ (X : Declared) (L : LL.Laws X) where
  pub vals_through : (xs : List X.D) → map (LL.val X L) xs ≡ map (LL.tuple_val X L) (map X.to xs)
  vals_through [] = refl
  vals_through (x ∷ xs) = ap (λ (us : List Val). LL.val X L x ∷ us) (vals_through xs)

  lengths : (xs : List X.D) → length (map X.to xs) ≡ length xs
  lengths [] = refl
  lengths (x ∷ xs) = ap suc (lengths xs)

  each_through : (xs : List X.D) (us : List Val) → shadow (each X.D (row X).own_val xs us) → shadow (each (Struct (shape X)).Denot (Struct (shape X)).own_val (map X.to xs) us)
  each_through [] [] h = h
  each_through [] (u ∷ us) h = h
  each_through (x ∷ xs) [] h = h
  each_through (x ∷ xs) (u ∷ us) h = (h.0, each_through xs us h.1)

  pub lies_through : (n : ℕ) (xs : List X.D) → Is (Array (row X) n) xs (array_val (map (LL.val X L) xs) ∷ []) → Is (Array (Struct (shape X)) n) (map X.to xs) (array_val (map (LL.tuple_val X L) (map X.to xs)) ∷ [])
  lies_through n xs h =
      subst (λ (us : List Val). Is (Array (Struct (shape X)) n) (map X.to xs) (array_val us ∷ [])) (vals_through xs) (h.0, ((h.1.0.0, subst (λ (k : ℕ). k ≡ n) (sym (lengths xs)) h.1.0.1), each_through xs h.0 h.1.1))
