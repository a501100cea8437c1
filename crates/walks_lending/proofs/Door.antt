-- WHAT THE WALKS OF THE FUNCTIONS THAT CALL A DOOR SHARE (`DoorOne.antt` and the others of this crate with that first word). A door is one call for
-- every request over a lent table, of the form of `Call.antt`:
--     pub fn perform(t: &mut [Channel], mem: &mut [u8], lens: &mut [u16], lines: &mut [u8], n: Request, x: &[u8], out: &mut [u8]) -> Told
-- A function that calls it makes the request of its own plain arguments by a covered function `ask`, lends on t, mem, lens and lines, and x and out where
-- it has them; where it has not, it lends an empty array of its own. It turns the answer by a covered function `turn`, as those of `Lending.antt` do.
--     Door             the kinds of a record, of the request, the answer and what is given back; what the door ensures; `turned`
--     Perform          the contract of the door.        Ask      that of `ask`, which ensures `r ≡ asked` of its arguments
--     through          such a function, by its parameters after the first four and what it ensures, as one of `Lending.antt`
--     asks             the call of `ask`
--     lends_none, shares_none     an array of no octets is lent as a `&mut [u8]` and as a `&[u8]`: there is nothing in it, so its local is left alone
--     comes_none       an array of no octets that was lent as a `&mut [u8]` has none at the end
--     apart            what the function is passed: the first four with their tokens, the other tokens, and what the other parameters own
--     performs         the call of the door: what is left is what is said of the last values of t, mem, lens, lines and out, and the tokens
--     gathers          the other way than `apart`, at the end: what the function has to leave
-- Assumes nothing: `Logic`, the laws of a model, is an argument.
use types.Logic.{Logic}
use Rattle.walks.proofs.Walk.{◌≡◌, refl, List, [], ◌∷◌, ℕ, suc, length, ltb→lt, Ura, full_share, named, ent, emp, GName, Lft, Share, Fml, ftrue, flft, Env, Tables, Item, runs, ‵, raw, ◌⊛◌, ⋆, ◌$◌, ◌∵◌, !, qed, use0, use1, use2, move, drop, split, join, fsplit, fjoin, group, frame, done, fm_of, Is, owns, u8, u16, slice_val, shr_slice_vals, mut_slice_vals, w8, MutSlice, ShrSlice, Room, finally, nothing, owned, heard, Contract, Triple, yes, id⊢, fact, RattleType}
use mathlib.Core.Path.{subst}
use lib.ListN.{drop_of_length-le}
use native.Mathlib.Omega.{arith}
use base.Fml.{Incl-refl, fsep, feq, fbor, flent}
use base.Logic.{ex_i}
use package.mir.Syntax.{Callee, Place, Opd as Operand, Body, seq, call}
use types.Kit.{Goal, Soaks, Post, lands, some, later, mean, Seq, Step, step, await, pick, regoal, feq_i, feq_l}
use types.Run.{Opds}
use types.Share.{arr_parts}
use types.Tokens.{lft_new}
use contract.Monad.{fact_i}
use contract.Lifetimes.{Lfts, Shares, toks}
use denote.Memory.{shares}
use denote.Bor.{Bor}
use denote.MutBor.{MutBor}
use denote.Copied.{uint_Copied}
use denote.Lend.{Held, lends_slice, lends_shr_slice}
use denote.Triple.End.{Fins, all, lasts_of, outs}
use denote.Triple.Clauses.{Lasts, at_exit}
use Rattle.walks.proofs.Tab.{xs_at, xs_in}
use Rattle.walks.proofs.Plain.{Kind, of}
use Rattle.walks.proofs.ByValue.{ByValue, Values, Lie, passed, always, Takes, calls_by}
use Rattle.walks_lending.proofs.Lending.{Part, mut_slice, shr_slice, by_value, slots, rows, each, lent, Relates, Entry, Turned, Last, Perform as Performing, Passed, Had, performs as performs-on}

-- what is ensured: by the table, mem, lens, lines, the request, x, out, the answer, and the table, mem, lens, lines, out then
abbrev pub Ensured : (KC KQ KN : Kind) → Type 1
Ensured KC KQ KN = List (of KC).Denot → List ℕ → List ℕ → List ℕ → (of KQ).Denot → List ℕ → List ℕ → (of KN).Denot → List (of KC).Denot → List ℕ → List ℕ → List ℕ → List ℕ → Type 0

pub record Door : Type 2 where
  pub channel : Kind
  pub request : Kind
  pub answer : Kind
  pub result : Kind
  pub turned : (of answer).Denot → (of result).Denot
  pub says : Ensured channel request answer

module _ (D : Door) where
  abbrev C : RattleType
  C = of D.channel

  abbrev Q : RattleType
  Q = of D.request

  abbrev N : RattleType
  N = of D.answer

  -- t, mem, lens and lines, then others
  abbrev pub first : {k : ℕ} → List (Part (suc (suc (suc (suc k))))) → List (Part (suc (suc (suc (suc k)))))
  first ps = mut_slice 0 tt C ∷ mut_slice 1 tt u8 ∷ mut_slice 2 tt u16 ∷ mut_slice 3 tt u8 ∷ ps

  abbrev door : List (Part 6)
  door = first (by_value D.request ∷ shr_slice 4 tt u8 ∷ mut_slice 5 tt u8 ∷ [])

  abbrev over : Relates door N
  over κs a r e = D.says a.0.now a.1.0.now a.1.1.0.now a.1.1.1.0.now a.1.1.1.1.0 a.1.1.1.1.1.0.now a.1.1.1.1.1.1.0.now r e.0.now e.1.0.now e.1.1.0.now e.1.1.1.0.now e.1.1.1.1.1.1.0.now

  abbrev opened : Turned 6
  opened = record { parts = door; answer = D.answer; result = D.answer; turned = λ r. r; before = over; after = over; so = λ κs a r e h. h }

  abbrev pub through : {k : ℕ} (ps : List (Part (suc (suc (suc (suc k)))))) → Relates (first ps) (of D.result) → Turned (suc (suc (suc (suc k))))
  through ps X = record { parts = first ps; answer = D.answer; result = D.result; turned = D.turned; before = λ κs a r e. X κs a (D.turned r) e; after = X; so = λ κs a r e h. h }

  abbrev asking : (Ks : List Kind) → (Values Ks → Q.Denot) → ByValue
  asking Ks asked = always Ks D.request (λ a r. r ≡ asked a)

  module _ {M : Type 1} {𝓤 : Ura M} (𝓛 : Logic 𝓤) where
    abbrev pub Perform : Contract 𝓤
    Perform = Performing opened 𝓤 𝓛

    abbrev pub Ask : (Ks : List Kind) → (Values Ks → Q.Denot) → Contract 𝓤
    Ask Ks asked = Takes (asking Ks asked) 𝓤 𝓛

  -- ---- the call of `ask`
  module _ {M : Type 1} {𝓤 : Ura M} {𝓛 : Logic 𝓤} {K : Type 0} {Γ : List (Item 𝓤)} {E : Env 𝓤 𝓛.H} {f : Callee} {xs : List Operand} {d : Place} {rest : Body} {q : Post 𝓤 𝓛.H} where
    open 𝓛 use {H}

    pub asks : K → (𝓣 : Tables 𝓤 H) (Ks : List Kind) (asked : Values Ks → Q.Denot) → Triple 𝓤 (𝓣.C f) (Ask 𝓛 Ks asked) → (a : Values Ks) → Lie Ks a → ((x : Item 𝓤) → Opds K 𝓛 (x ∷ Γ) E xs (passed Ks a))
        → (Is Q (asked a) (D.request.elem.val (asked a) ∷ []) → Seq K 𝓛 Γ (lands 𝓣.C 𝓣.Λ E d (D.request.elem.val (asked a)) rest q)) → Seq K 𝓛 Γ (runs 𝓣.C 𝓣.Λ E (seq (call f xs d) rest) q)
    asks t 𝓣 Ks asked known a lie os k = calls_by t (fm_of 𝓤 H 𝓛.laws 𝓣) (asking Ks asked) known a lie tt os (λ r ir e.
        regoal t (λ (v : Q.Denot). lands 𝓣.C 𝓣.Λ E d (D.request.elem.val v) rest q) e refl $ k (subst (λ (v : Q.Denot). Is Q v (D.request.elem.val v ∷ [])) e ir))

-- ---- an array of no octets
none_room : Room u8 0
none_room = (ltb→lt _ _ tt, ltb→lt _ _ tt)

module _ {M : Type 1} {𝓤 : Ura M} {𝓛 : Logic 𝓤} {K : Type 0} {Γ : List (Item 𝓤)} {G : Goal 𝓤 𝓛.H} where
  pub lends_none : K → Soaks G → (b : ℕ) → ((ν : ℕ) (γ : GName) → Seq K 𝓛 (‵ ((MutSlice (named 0) (ν ∷ []) u8).own_val (xs_at u8 b 0 γ []) (slice_val (b, 0) 0 ∷ [])) ∷ ‵ (flft (ν ∷ []) full_share) ∷ Γ) G) → Seq K 𝓛 Γ G
  lends_none t z b k = lft_new t z (λ ν. nothing t $
      use1 𝓛 (later (some (λ (γ : GName). ‵ ((MutSlice (named 0) (ν ∷ []) u8).own_val (xs_at u8 b 0 γ []) (slice_val (b, 0) 0 ∷ [])) ⊛ ‵ (flent (ν ∷ []) (Held u8 0 b 0 γ))))) (lends_slice 𝓛 u8 (named 0) (ν ∷ []) [] b 0 none_room) $
      await t z $ pick t (λ γ. split t $ move t (1 ∷ []) $ drop t $ k ν γ))

  pub shares_none : K → Soaks G → (b : ℕ) → ((ν : ℕ) → Seq K 𝓛 (‵ ((ShrSlice (named 0) (ν ∷ []) u8).own_val (xs_in u8 b 0 []) (slice_val (b, 0) 0 ∷ [])) ∷ ‵ (flft (ν ∷ []) full_share) ∷ Γ) G) → Seq K 𝓛 Γ G
  shares_none t z b k = lft_new t z (λ ν. nothing t $ feq_i t ℕ 0 0 refl $ fjoin t $ move t (0 ∷ 1 ∷ []) $
      use2 𝓛 (later ((‵ ((ShrSlice (named 0) (ν ∷ []) u8).own_val (xs_in u8 b 0 []) (slice_val (b, 0) 0 ∷ [])) ⊛ ‵ (flent (ν ∷ []) ((arr_parts (shares u8) 0).part full_share [] b 0))) ⊛ ‵ (flft (ν ∷ []) full_share)))
      (lends_shr_slice 𝓛 u8 (named 0) (ν ∷ []) full_share [] b 0 none_room (ν ∷ []) ((uint_Copied 𝓛 w8).shares full_share (ν ∷ [])) ((ν ∷ [], full_share) ∷ []) (Incl-refl (ν ∷ [])) (Incl-refl (ν ∷ []))) $
      await t z $ split t $ split t $ move t (1 ∷ []) $ drop t $ k ν)

-- what is said of the last list of a `&mut`
abbrev pub last_is_lem : (R : RattleType) → Lft → MutBor (List R.Denot) → List R.Denot → Fml
last_is_lem R κ x ys = fsep (fsep (finally R x.ghost_name ys) (feq ℕ (length ys) (length x.now))) (fbor κ (Held R (length x.now) x.ref_ptr.0 x.ref_ptr.1 x.ghost_name))

no_octets : (os : List ℕ) → length os ≡ 0 → os ≡ []
no_octets os e = drop_of_length-le os {i = 0} (omega (arith, e))

module _ {M : Type 1} {𝓤 : Ura M} {𝓛 : Logic 𝓤} {K : Type 0} {Γ : List (Item 𝓤)} {G : Goal 𝓤 𝓛.H} where
  pub comes_none : K → {κ : Lft} {b o : ℕ} {γ : GName} (os : List ℕ) → (os ≡ [] → Seq K 𝓛 Γ G) → Seq K 𝓛 (‵ (fsep (fsep (finally u8 γ os) (feq ℕ (length os) 0)) (fbor κ (Held u8 0 b o γ))) ∷ Γ) G
  comes_none t os k = fsplit t $ fsplit t $ drop t $ move t (1 ∷ []) $ drop t $ feq_l t (λ e. k (no_octets os e))

-- ---- what the function is passed, what the door is passed, and what is left
module _ (D : Door) {k : ℕ} (ps : List (Part (suc (suc (suc (suc k)))))) {M : Type 1} {𝓤 : Ura M} (𝓛 : Logic 𝓤) (κs : Lfts (suc (suc (suc (suc k))))) (qs : Shares (suc (suc (suc (suc k))))) (a : Entry (first D ps) κs) where
  abbrev Firsts : List (Item 𝓤) → List (Item 𝓤)
  Firsts Γ = ‵ (flft κs.0 qs.0) ∷ ‵ (flft κs.1.0 qs.1.0) ∷ ‵ (flft κs.1.1.0 qs.1.1.0) ∷ ‵ (flft κs.1.1.1.0 qs.1.1.1.0) ∷ Γ

  -- the first four with their tokens
  abbrev pub Four : List (Item 𝓤) → List (Item 𝓤)
  Four Γ = Firsts (‵ ((MutSlice (named 0) κs.0 (C D)).own_val a.0 (mut_slice_vals a.0)) ∷ ‵ ((MutSlice (named 1) κs.1.0 u8).own_val a.1.0 (mut_slice_vals a.1.0)) ∷ ‵ ((MutSlice (named 2) κs.1.1.0 u16).own_val a.1.1.0 (mut_slice_vals a.1.1.0)) ∷ ‵ ((MutSlice (named 3) κs.1.1.1.0 u8).own_val a.1.1.1.0 (mut_slice_vals a.1.1.1.0)) ∷ Γ)

  -- their last values, with their tokens
  abbrev pub FourThen : List (of D.channel).Denot → List ℕ → List ℕ → List ℕ → List (Item 𝓤) → List (Item 𝓤)
  FourThen zs ms ls is Γ = Firsts (‵ (last_is_lem (C D) κs.0 a.0 zs) ∷ ‵ (last_is_lem u8 κs.1.0 a.1.0 ms) ∷ ‵ (last_is_lem u16 κs.1.1.0 a.1.1.0 ls) ∷ ‵ (last_is_lem u8 κs.1.1.1.0 a.1.1.1.0 is) ∷ Γ)

  -- the other tokens, what the other parameters own, and what is said of their last values
  abbrev pub Toks : Item 𝓤
  Toks = raw (toks 𝓛 k κs.1.1.1.1 qs.1.1.1.1)

  abbrev pub Owns : Item 𝓤
  Owns = ‵ (owns (rows κs ps) a.1.1.1.1 (each ps κs a.1.1.1.1))

  abbrev pub Ends : Type 0
  Ends = Fins κs (slots ps) (all yes (slots ps)) a.1.1.1.1

  abbrev pub Ending : Ends → Item 𝓤
  Ending ws = ‵ (lasts_of κs (slots ps) (all yes (slots ps)) a.1.1.1.1 ws)

  module _ (κx κo : Lft) (qx qo : Share) (n : (Q D).Denot) (x : Bor (List ℕ)) (o : MutBor (List ℕ)) where
    -- what the door is given: x and out, each with its token, and the first four
    abbrev ToDoor : List (Item 𝓤) → List (Item 𝓤)
    ToDoor Γ = ‵ ((ShrSlice (named 4) κx u8).own_val x (shr_slice_vals x)) ∷ ‵ (flft κx qx) ∷ ‵ ((MutSlice (named 5) κo u8).own_val o (mut_slice_vals o)) ∷ ‵ (flft κo qo) ∷ Four Γ

    abbrev κs' : Lfts 6
    κs' = (κs.0, (κs.1.0, (κs.1.1.0, (κs.1.1.1.0, (κx, (κo, tt))))))

    abbrev qs' : Shares 6
    qs' = (qs.0, (qs.1.0, (qs.1.1.0, (qs.1.1.1.0, (qx, (qo, tt))))))

    abbrev a' : Entry (door D) κs'
    a' = (a.0, (a.1.0, (a.1.1.0, (a.1.1.1.0, (n, (x, (o, tt)))))))

    asks_door : Is (Q D) n (D.request.elem.val n ∷ []) → ent 𝓤 (⋆ 𝓛 (ToDoor [])) ((Perform D 𝓛).pre ((κs', qs', tt, a', each (door D) κs' a'), tt))
    asks_door is = qed 𝓛 (ToDoor []) ∵ move ! (4 ∷ 5 ∷ 6 ∷ 7 ∷ 8 ∷ 9 ∷ 10 ∷ 11 ∷ []) $ nothing ! $ move ! (11 ∷ 0 ∷ []) $ fjoin ! $ move ! (9 ∷ 0 ∷ []) $ fjoin ! $ owned ! (Q D) (Is (Q D)) (D.request.elem.makes 𝓛) n _ is $ fjoin ! $ move ! (8 ∷ 0 ∷ []) $ fjoin ! $ move ! (7 ∷ 0 ∷ []) $ fjoin ! $ move ! (6 ∷ 0 ∷ []) $ fjoin ! $ move ! (5 ∷ 0 ∷ []) $ fjoin ! $
        -- [what the seven own; the tokens]
        nothing ! $ move ! (7 ∷ 0 ∷ []) $ join ! $ move ! (6 ∷ 0 ∷ []) $ join ! $ move ! (5 ∷ 0 ∷ []) $ join ! $ move ! (4 ∷ 0 ∷ []) $ join ! $ move ! (3 ∷ 0 ∷ []) $ join ! $ move ! (2 ∷ 0 ∷ []) $ join ! $ join ! $ frame ! $ done !

module _ (D : Door) {k : ℕ} (ps : List (Part (suc (suc (suc (suc k)))))) (X : Relates (first D ps) (of D.result)) {M : Type 1} {𝓤 : Ura M} {𝓛 : Logic 𝓤} {K : Type 0} {Γ : List (Item 𝓤)} (κs : Lfts (suc (suc (suc (suc k))))) (qs : Shares (suc (suc (suc (suc k))))) (a : Entry (first D ps) κs) where
  open 𝓛 use {H}

  pub apart : K → {G : Goal 𝓤 H} → Step K 𝓛 (Toks D ps 𝓛 κs qs a ∷ Owns D ps 𝓛 κs qs a ∷ Four D ps 𝓛 κs qs a Γ) G (Passed (through D ps X) 𝓤 𝓛 κs qs a ∷ Γ) G
  apart t = step (λ s.
      use1 𝓛 (((‵ (flft κs.0 qs.0) ⊛ ‵ (flft κs.1.0 qs.1.0) ⊛ ‵ (flft κs.1.1.0 qs.1.1.0) ⊛ ‵ (flft κs.1.1.1.0 qs.1.1.1.0) ⊛ Toks D ps 𝓛 κs qs a) ⊛ ‵ (owns (rows κs (first D ps)) a (each (first D ps) κs a))) ⊛ ‵ ftrue) (id⊢ 𝓤 _) $
      split t $ split t $ split t $ move t (1 ∷ []) $ split t $ move t (1 ∷ []) $ split t $ move t (1 ∷ []) $ split t $ move t (5 ∷ []) $ fsplit t $ move t (1 ∷ []) $ fsplit t $ move t (1 ∷ []) $ fsplit t $ move t (1 ∷ []) $ fsplit t $
      move t (10 ∷ []) $ drop t $ move t (6 ∷ 1 ∷ 9 ∷ 8 ∷ 7 ∷ 5 ∷ 4 ∷ 3 ∷ 2 ∷ 0 ∷ []) $ s)

  pub gathers : K → {G : Goal 𝓤 H} (r : (N D).Denot) (zs : List (of D.channel).Denot) (ms ls is : List ℕ) (ws : Ends D ps 𝓛 κs qs a)
      → X κs a (D.turned r) (outs κs (slots (first D ps)) (all yes (slots (first D ps))) a (zs, (ms, (ls, (is, ws)))))
      → Step K 𝓛 (Had (through D ps X) 𝓤 𝓛 κs qs a r ∷ Γ) G (Toks D ps 𝓛 κs qs a ∷ Ending D ps 𝓛 κs qs a ws ∷ FourThen D ps 𝓛 κs qs a zs ms ls is Γ) G
  gathers t r zs ms ls is ws e = step (λ s.
      let left : Lasts (lent (first D ps) (N D)) κs a → Item 𝓤 = Last (through D ps X) 𝓤 𝓛 κs qs a r in
      move t (9 ∷ 1 ∷ []) $ fjoin t $ move t (8 ∷ 0 ∷ []) $ fjoin t $ move t (7 ∷ 0 ∷ []) $ fjoin t $ move t (6 ∷ 0 ∷ []) $ fjoin t $
      use0 𝓛 (raw (fact 𝓤 (X κs a (D.turned r) (outs κs (slots (first D ps)) (all yes (slots (first D ps))) a (zs, (ms, (ls, (is, ws)))))))) (fact_i 𝓤 _ (emp 𝓤) e) $ move t (1 ∷ 0 ∷ []) $ join t $
      use1 𝓛 (some left) (ex_i 𝓤 (λ (us : Lasts (lent (first D ps) (N D)) κs a). mean 𝓛 (left us)) (zs, (ms, (ls, (is, ws))))) $
      move t (5 ∷ 1 ∷ []) $ join t $ move t (4 ∷ 0 ∷ []) $ join t $ move t (3 ∷ 0 ∷ []) $ join t $ move t (2 ∷ 0 ∷ []) $ join t $ use1 𝓛 (raw (toks 𝓛 (suc (suc (suc (suc k)))) κs qs)) (id⊢ 𝓤 _) $ join t $ s)

  module _ {E : Env 𝓤 H} {f : Callee} {xs : List Operand} {d : Place} {rest : Body} {q : Post 𝓤 H} where
    pub performs : K → (𝓣 : Tables 𝓤 H) → Triple 𝓤 (𝓣.C f) (Perform D 𝓛) → {κx κo : Lft} {qx qo : Share} (n : (Q D).Denot) → Is (Q D) n (D.request.elem.val n ∷ []) → (x : Bor (List ℕ)) (o : MutBor (List ℕ))
        → ((y : Item 𝓤) → Opds K 𝓛 (y ∷ Γ) E xs (slice_val a.0.ref_ptr (length a.0.now) ∷ slice_val a.1.0.ref_ptr (length a.1.0.now) ∷ slice_val a.1.1.0.ref_ptr (length a.1.1.0.now) ∷ slice_val a.1.1.1.0.ref_ptr (length a.1.1.1.0.now) ∷ D.request.elem.val n ∷ slice_val x.ref_ptr (length x.now) ∷ slice_val o.ref_ptr (length o.now) ∷ []))
        → ((r : (N D).Denot) → Is (N D) r (D.answer.elem.val r ∷ []) → (zs : List (of D.channel).Denot) (ms ls is os : List ℕ) → D.says a.0.now a.1.0.now a.1.1.0.now a.1.1.1.0.now n x.now o.now r zs ms ls is os
        → Seq K 𝓛 (‵ (flft κx qx) ∷ ‵ (flft κo qo) ∷ ‵ (last_is_lem u8 κo o os) ∷ FourThen D ps 𝓛 κs qs a zs ms ls is Γ) (lands 𝓣.C 𝓣.Λ E d (D.answer.elem.val r) rest q))
        → Seq K 𝓛 (ToDoor D ps 𝓛 κs qs a κx κo qx qo n x o Γ) (runs 𝓣.C 𝓣.Λ E (seq (call f xs d) rest) q)
    performs t 𝓣 known {κx} {κo} {qx} {qo} n is x o os k =
        let κs'' : Lfts 6 = κs' D ps 𝓛 κs qs a κx κo qx qo n x o in
        let qs'' : Shares 6 = qs' D ps 𝓛 κs qs a κx κo qx qo n x o in
        let a'' : Entry (door D) κs'' = a' D ps 𝓛 κs qs a κx κo qx qo n x o in
        group t 12 $ use1 𝓛 (Passed (opened D) 𝓤 𝓛 κs'' qs'' a'') (asks_door D ps 𝓛 κs qs a κx κo qx qo n x o is) $
        performs-on (opened D) t 𝓣 known κs'' qs'' a'' (os _) (λ r ir. split t $ move t (1 ∷ []) $ pick t (λ ws. split t $ move t (1 ∷ []) $ heard t (over D κs'' a'' r (at_exit (lent (door D) (N D)) κs'' a'' ws)) (λ e.
        -- [what is said of the last values; the tokens]
        fsplit t $ move t (1 ∷ []) $ fsplit t $ move t (1 ∷ []) $ fsplit t $ move t (1 ∷ []) $ fsplit t $ move t (1 ∷ []) $ fsplit t $ drop t $ fsplit t $ drop t $ fsplit t $ move t (1 ∷ []) $ drop t $ move t (5 ∷ []) $
        use1 𝓛 (‵ (flft κs.0 qs.0) ⊛ ‵ (flft κs.1.0 qs.1.0) ⊛ ‵ (flft κs.1.1.0 qs.1.1.0) ⊛ ‵ (flft κs.1.1.1.0 qs.1.1.1.0) ⊛ ‵ (flft κx qx) ⊛ ‵ (flft κo qo) ⊛ ‵ ftrue) (id⊢ 𝓤 _) $
        split t $ move t (1 ∷ []) $ split t $ move t (1 ∷ []) $ split t $ move t (1 ∷ []) $ split t $ move t (1 ∷ []) $ split t $ move t (1 ∷ []) $ split t $ move t (1 ∷ []) $ drop t $
        move t (1 ∷ 0 ∷ 6 ∷ 5 ∷ 4 ∷ 3 ∷ 2 ∷ 10 ∷ 9 ∷ 8 ∷ 7 ∷ []) $ k r ir ws.0 ws.1.0 ws.1.1.0 ws.1.1.1.0 ws.1.1.1.1.1.1.0 e)))
