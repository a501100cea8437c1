-- A function that takes plain data alone, each by value, and gives plain data back: what it says, its contract, and its call as one step of a
-- walk. Of the functions that the walks call, such are decide, judge, and a step that takes no slice.
--     Values Ks     the arguments, whose kinds are Ks: a tuple that ends in `tt`
--     ByValue       what such a function takes and gives, whether it has a `requires` and what that asks, and what it ensures
--     always        the same of one without a `requires`
--     Takes         its contract
--     calls_by      its call: the arguments are plain data of their kinds (`Lie`), and what is asked holds; the result is plain data of its kind,
--                   and what is ensured holds. The operands are found behind the item that stands for what is passed, whatever that is
-- Assumes nothing: `Logic`, the laws of a model, is an argument.
use Rattle.walks.proofs.Walk.{Bool, false, List, [], ◌∷◌, Ura, Val, ent, emp, Env, Item, runs, ‵, raw, ◌$◌, ◌∵◌, !, qed, use0, move, drop, join, frame, done, Is, owns, plain, nothing, heard, triple_of, Contract, Triple, yes, Callee, Body, seq, call, fact, RattleType, Clauses, Ended, closing}
use types.Logic.{Logic}
use types.Kit.{lands, Post, Seq}
use types.Run.{Opds}
use prog.Wp.{Calls, Loops}
use sound.WpLaws.{FmC}
use package.mir.Syntax.{Place, Opd as Operand}
use denote.RattleType.{Denots, Valss, flat}
use denote.Laws.{Ises, Are, Makess, owns_make}
use denote.Signature.{Slot, types_at}
use denote.Triple.End.{Kepts}
use Rattle.walks.proofs.Tab.{calls_plain}
use Rattle.walks.proofs.Plain.{Kind, of}
use Rattle.walks.proofs.Served.{need, needed}

-- ---- the arguments
abbrev slots : List Kind → List (Slot 0)
slots [] = []
slots (K ∷ Ks) = plain (λ _. of K) ∷ slots Ks

abbrev keeps : (Ks : List Kind) → Kepts (slots Ks)
keeps [] = tt
keeps (K ∷ Ks) = (yes, keeps Ks)

abbrev rows : List Kind → List RattleType
rows Ks = types_at (slots Ks) tt

abbrev pub Values : List Kind → Type 0
Values Ks = Denots (rows Ks)

abbrev spelled : (Ks : List Kind) → Values Ks → Valss (rows Ks)
spelled [] a = tt
spelled (K ∷ Ks) a = (K.elem.val a.0 ∷ [], spelled Ks a.1)

abbrev pub Lie : (Ks : List Kind) → Values Ks → Type 0
Lie Ks a = Are (rows Ks) (Ises (rows Ks)) a (spelled Ks a)

-- the same as the operands of a call
abbrev pub passed : (Ks : List Kind) → Values Ks → List Val
passed Ks a = flat (rows Ks) (spelled Ks a)

-- ---- what it says, and the contract
pub record ByValue : Type 2 where
  pub takes : List Kind
  pub gives : Kind
  pub asked : Bool
  pub Asks : Values takes → Type 0
  pub Ensures : Values takes → (of gives).Denot → Type 0

abbrev pub always : (Ks : List Kind) (L : Kind) → (Values Ks → (of L).Denot → Type 0) → ByValue
always Ks L Ensures = record { takes = Ks; gives = L; asked = false; Asks = λ _. Unit {0}; Ensures = Ensures }

module _ (B : ByValue) where
  abbrev ends : Ended
  ends = record { signature = record { lifetimes = 0; outlives = []; params = slots B.takes; result = plain (λ _. of B.gives) }; kept = keeps B.takes }

  module _ {M : Type 1} (𝓤 : Ura M) where
    abbrev claims : Clauses 𝓤 ends
    claims κs a = record { ghost = Unit {0}; requires = λ _. need 𝓤 B.asked (B.Asks a); ensures = λ _ r e. fact 𝓤 (B.Ensures a r) }

    abbrev pub Takes : (𝓛 : Logic 𝓤) → Contract 𝓤
    Takes 𝓛 = triple_of 𝓛 ends.signature (closing 𝓛 ends claims)

-- ---- what it is passed
module _ {M : Type 1} {𝓤 : Ura M} (𝓛 : Logic 𝓤) where
  makes : (Ks : List Kind) → Makess 𝓛 (rows Ks) (Ises (rows Ks))
  makes [] = tt
  makes (K ∷ Ks) = (K.elem.makes 𝓛, makes Ks)

  module _ (B : ByValue) (a : Values B.takes) where
    abbrev to : (Takes B 𝓤 𝓛).Ghost
    to = ((tt, tt, tt, a, spelled B.takes a), tt)

    asks : Lie B.takes a → B.Asks a → ent 𝓤 (emp 𝓤) ((Takes B 𝓤 𝓛).pre to)
    asks lie ask = qed 𝓛 [] ∵ use0 𝓛 (raw (need 𝓤 B.asked (B.Asks a))) (needed 𝓤 B.asked (B.Asks a) ask) $ use0 𝓛 (‵ (owns (rows B.takes) a (spelled B.takes a))) (owns_make 𝓛 (rows B.takes) (Ises (rows B.takes)) (makes B.takes) a (spelled B.takes a) lie) $ nothing ! $ join ! $ frame ! $ done !

-- ---- the call
module _ {M : Type 1} {𝓤 : Ura M} {𝓛 : Logic 𝓤} {J : Type 0} {Γ : List (Item 𝓤)} {E : Env 𝓤 𝓛.H} {C : Calls 𝓤 𝓛.H} {Λ : Loops 𝓤 𝓛.H} {f : Callee} {xs : List Operand} {d : Place} {rest : Body} {p : Post 𝓤 𝓛.H} where
  open 𝓛 use {H}

  pub calls_by : J → FmC 𝓤 H 𝓛.laws C → (B : ByValue) → Triple 𝓤 (C f) (Takes B 𝓤 𝓛) → (a : Values B.takes) → Lie B.takes a → B.Asks a → ((x : Item 𝓤) → Opds J 𝓛 (x ∷ Γ) E xs (passed B.takes a))
      → ((r : (of B.gives).Denot) → Is (of B.gives) r (B.gives.elem.val r ∷ []) → B.Ensures a r → Seq J 𝓛 Γ (lands C Λ E d (B.gives.elem.val r) rest p)) → Seq J 𝓛 Γ (runs C Λ E (seq (call f xs d) rest) p)
  calls_by t fm B met a lie ask os k =
      use0 𝓛 (raw ((Takes B 𝓤 𝓛).pre (to 𝓛 B a))) (asks 𝓛 B a lie ask) $
      calls_plain t fm (ends B) (claims B 𝓤) met (to 𝓛 B a) B.gives.elem (os _) (λ r ws ir. move t (2 ∷ []) $ heard t (B.Ensures a r) (λ e. drop t $ drop t $ k r ir e))
