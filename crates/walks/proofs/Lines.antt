-- The two forms of a function that a walk lends the lines to, a `&mut [u8]`, and nothing else but plain data by value.
--     Looks, looks_at      it takes the lines alone, as a `&[u8]`, and gives plain data: its contract, and its call as one step of a walk. The
--                          lines are lent for this call and are back after it
--     Puts, puts_to        it takes a plain value and the lines, as a `&mut [u8]`, and gives plain data: the same. The lines are given up to it,
--                          and what is left is what says their last list
-- In these steps the operands are found behind the items that stand for what is passed and lent then, whatever these are.
-- Assumes nothing: `Logic`, the laws of a model, is an argument.
use Rattle.walks.proofs.Walk.{◌≡◌, List, [], ◌∷◌, ℕ, w8, length, Ura, full_share, ent, emp, Lft, GName, Share, ftrue, flft, Env, Item, runs, ‵, raw, ◌⊛◌, ⋆, ◌$◌, ◌∵◌, !, qed, use1, move, drop, group, split, join, fsplit, fjoin, feq_l, frame, done, Is, u8, slice_val, plain, shr_slice_of, mut_slice_of, nothing, owned, heard, triple_of, Contract, Triple, yes, Callee, Body, seq, call, id⊢, fact, Clauses, Ended, closing}
use types.Logic.{Logic}
use types.Kit.{lands, Post, Seq}
use types.Run.{Opds}
use prog.Wp.{Calls, Loops}
use sound.WpLaws.{FmC}
use package.mir.Syntax.{Place, Opd as Operand}
use Rattle.walks.proofs.Tab.{uint_elem, xs_at, xs_in, shr_at, mut_at, gave_at, calls_plain}
use Rattle.walks.proofs.Lend.{shares_on, unshares}
use Rattle.walks.proofs.Plain.{Kind, of}

-- ---- the contracts
module _ (KY : Kind) where
  abbrev looking : Ended
  looking = record { signature = record { lifetimes = 1; outlives = []; params = shr_slice_of (0 ∷ []) tt (plain (λ _. u8)) ∷ []; result = plain (λ _. of KY) }; kept = (yes, tt) }

  -- by the lines, what is given
  abbrev pub Looking : Type 1
  Looking = List ℕ → (of KY).Denot → Type 0

  module _ (Sees : Looking) {M : Type 1} (𝓤 : Ura M) where
    abbrev look_says : Clauses 𝓤 looking
    look_says κs a = record { ghost = Unit {0}; requires = λ _. emp 𝓤; ensures = λ _ r e. fact 𝓤 (Sees a.0.now r) }

    abbrev pub Looks : (𝓛 : Logic 𝓤) → Contract 𝓤
    Looks 𝓛 = triple_of 𝓛 looking.signature (closing 𝓛 looking look_says)

module _ (KZ KN : Kind) where
  abbrev putting : Ended
  putting = record { signature = record { lifetimes = 1; outlives = []; params = plain (λ _. of KZ) ∷ mut_slice_of (0 ∷ []) tt (plain (λ _. u8)) ∷ []; result = plain (λ _. of KN) }; kept = (yes, (yes, tt)) }

  -- by the value and the lines, what is given, and the lines then
  abbrev pub Putting : Type 1
  Putting = (of KZ).Denot → List ℕ → (of KN).Denot → List ℕ → Type 0

  module _ (Writes : Putting) {M : Type 1} (𝓤 : Ura M) where
    abbrev put_says : Clauses 𝓤 putting
    put_says κs a = record { ghost = Unit {0}; requires = λ _. emp 𝓤; ensures = λ _ r e. fact 𝓤 (Writes a.0 a.1.0.now r e.1.0.now) }

    abbrev pub Puts : (𝓛 : Logic 𝓤) → Contract 𝓤
    Puts 𝓛 = triple_of 𝓛 putting.signature (closing 𝓛 putting put_says)

-- ---- what they are passed
module _ {M : Type 1} {𝓤 : Ura M} (𝓛 : Logic 𝓤) (κ : Lft) (q : Share) (b o : ℕ) (li : List ℕ) where
  module _ (KY : Kind) (Sees : Looking KY) where
    abbrev to_look : (Looks KY Sees 𝓤 𝓛).Ghost
    to_look = (((κ, tt), (q, tt), tt, (xs_in u8 b o li, tt), (slice_val (b, o) (length li) ∷ [], tt)), tt)

    asks_look : ent 𝓤 (⋆ 𝓛 (‵ (shr_at u8 κ b o li) ∷ ‵ (flft κ q) ∷ [])) ((Looks KY Sees 𝓤 𝓛).pre to_look)
    asks_look = qed 𝓛 (‵ (shr_at u8 κ b o li) ∷ ‵ (flft κ q) ∷ []) ∵ nothing ! $ move ! (1 ∷ 0 ∷ []) $ fjoin ! $ nothing ! $ move ! (2 ∷ 0 ∷ []) $ join ! $ join ! $ frame ! $ done !

  module _ (γ : GName) (KZ KN : Kind) (Writes : Putting KZ KN) (z : (of KZ).Denot) where
    abbrev to_put : (Puts KZ KN Writes 𝓤 𝓛).Ghost
    to_put = (((κ, tt), (q, tt), tt, (z, (xs_at u8 b o γ li, tt)), (KZ.elem.val z ∷ [], (slice_val (b, o) (length li) ∷ [], tt))), tt)

    asks_put : Is (of KZ) z (KZ.elem.val z ∷ []) → ent 𝓤 (⋆ 𝓛 (‵ (mut_at u8 κ b o γ li) ∷ ‵ (flft κ q) ∷ [])) ((Puts KZ KN Writes 𝓤 𝓛).pre to_put)
    asks_put is = qed 𝓛 (‵ (mut_at u8 κ b o γ li) ∷ ‵ (flft κ q) ∷ []) ∵ nothing ! $ move ! (1 ∷ 0 ∷ []) $ fjoin ! $ owned ! (of KZ) (Is (of KZ)) (KZ.elem.makes 𝓛) z _ is $ fjoin ! $ nothing ! $ move ! (2 ∷ 0 ∷ []) $ join ! $ join ! $ frame ! $ done !

-- ---- the calls
module _ {M : Type 1} {𝓤 : Ura M} {𝓛 : Logic 𝓤} {J : Type 0} {Γ : List (Item 𝓤)} {E : Env 𝓤 𝓛.H} {C : Calls 𝓤 𝓛.H} {Λ : Loops 𝓤 𝓛.H} {f : Callee} {xs : List Operand} {d : Place} {rest : Body} {p : Post 𝓤 𝓛.H} where
  open 𝓛 use {H}

  pub looks_at : J → FmC 𝓤 H 𝓛.laws C → (KY : Kind) (Sees : Looking KY) → Triple 𝓤 (C f) (Looks KY Sees 𝓤 𝓛) → {κ : Lft} {q : Share} (b o : ℕ) {γ : GName} (li : List ℕ)
      → ((x y : Item 𝓤) → Opds J 𝓛 (x ∷ y ∷ Γ) E xs (slice_val (b, o) (length li) ∷ []))
      → ((v : (of KY).Denot) → Is (of KY) v (KY.elem.val v ∷ []) → Sees li v → Seq J 𝓛 (‵ (mut_at u8 κ b o γ li) ∷ ‵ (flft κ q) ∷ Γ) (lands C Λ E d (KY.elem.val v) rest p))
      → Seq J 𝓛 (‵ (mut_at u8 κ b o γ li) ∷ ‵ (flft κ q) ∷ Γ) (runs C Λ E (seq (call f xs d) rest) p)
  looks_at t fm KY Sees met b o li os k =
      shares_on t tt (uint_elem w8) b o li (slice_val (b, o) (length li) ∷ []) (λ ν room. group t 2 $ use1 𝓛 (raw ((Looks KY Sees 𝓤 𝓛).pre (to_look 𝓛 (ν ∷ []) full_share b o li KY Sees))) (asks_look 𝓛 (ν ∷ []) full_share b o li KY Sees) $
      -- [what is passed; what is kept of the lines]
      calls_plain t fm (looking KY) (look_says KY Sees 𝓤) met (to_look 𝓛 (ν ∷ []) full_share b o li KY Sees) KY.elem (os _ _) (λ v ws iv. move t (2 ∷ []) $ heard t (Sees li v) (λ e.
      use1 𝓛 (‵ (flft (ν ∷ []) full_share) ⊛ ‵ ftrue) (id⊢ 𝓤 _) $ split t $ move t (1 ∷ []) $ drop t $ move t (1 ∷ []) $ drop t $ unshares t tt u8 b o li (slice_val (b, o) (length li) ∷ []) room $ k v iv e)))

  pub puts_to : J → FmC 𝓤 H 𝓛.laws C → (KZ KN : Kind) (Writes : Putting KZ KN) → Triple 𝓤 (C f) (Puts KZ KN Writes 𝓤 𝓛) → {κ : Lft} {q : Share} (b o : ℕ) {γ : GName} (z : (of KZ).Denot) (li : List ℕ) → Is (of KZ) z (KZ.elem.val z ∷ [])
      → ((x : Item 𝓤) → Opds J 𝓛 (x ∷ Γ) E xs (KZ.elem.val z ∷ slice_val (b, o) (length li) ∷ []))
      → ((r : (of KN).Denot) (is : List ℕ) → Is (of KN) r (KN.elem.val r ∷ []) → Writes z li r is → length is ≡ length li → Seq J 𝓛 (‵ (gave_at u8 κ b o γ (length li) is) ∷ ‵ (flft κ q) ∷ Γ) (lands C Λ E d (KN.elem.val r) rest p))
      → Seq J 𝓛 (‵ (mut_at u8 κ b o γ li) ∷ ‵ (flft κ q) ∷ Γ) (runs C Λ E (seq (call f xs d) rest) p)
  puts_to t fm KZ KN Writes met {κ} {q} b o {γ} z li iz os k =
      group t 2 $ use1 𝓛 (raw ((Puts KZ KN Writes 𝓤 𝓛).pre (to_put 𝓛 κ q b o li γ KZ KN Writes z))) (asks_put 𝓛 κ q b o li γ KZ KN Writes z iz) $
      calls_plain t fm (putting KZ KN) (put_says KZ KN Writes 𝓤) met (to_put 𝓛 κ q b o li γ KZ KN Writes z) KN.elem (os _) (λ r ws ir. move t (2 ∷ []) $ heard t (Writes z li r ws.1.0) (λ e.
      use1 𝓛 (‵ (flft κ q) ⊛ ‵ ftrue) (id⊢ 𝓤 _) $ split t $ move t (1 ∷ []) $ drop t $
      -- [the token; what is said of the last values]
      move t (1 ∷ []) $ fsplit t $ drop t $ fsplit t $ fsplit t $ fsplit t $ move t (1 ∷ []) $ feq_l t (λ l. fjoin t $ move t (1 ∷ []) $ drop t $ k r ws.1.0 ir e l)))
