-- WHAT THE WALKS OF THE CALLS ON A TABLE THAT IS HELD BY VALUE SHARE (`HeldCall.antt`, `HeldSweeping.antt`). Whatever its parameters beside the table,
-- such a function lends the table to a call `perform`, passes the others on, whole, and gives back the answer with the table that the call leaves.
-- So what the others own is what `perform` asks beside the table, and what is left of them is what it has to leave: neither is taken apart.
--     Holding          the parameters beside the table, as slots of this function's signature, and of that of `perform`, where the lifetime of the lent
--                      table comes first; their machine values, and that what they own tells them; that they are the same in both, which is an
--                      identity or a `refl` wherever they are written out; what `perform` ensures, what this function ensures, and that the one
--                      gives the other
--     ended, clauses   this function's contract.        Perform      that of `perform`. Neither has a `requires`
--     Passed, Due      what this function is passed beside the table, and what it has to leave.        Had      what `perform` leaves, at its answer
--     performs         the table is lent for the call, and comes back, as one step.        ends     the end of a walk
--     held_meets       from a walk to the contract
-- Assumes nothing: `Logic`, the laws of a model, is an argument.
use Rattle.walks.proofs.Walk.{◌≡◌, refl, List, [], ◌∷◌, ℕ, suc, ltb→lt, length, Ura, full_share, Val, SProp, ent, emp, via, fst∗, GName, Fml, flft, fat, Env, WpFn, Tables, Item, runs, ‵, raw, ◌⊛◌, ⋆, ◌$◌, ◌∵◌, !, qed, use0, use1, move, drop, split, join, rewrite, fsplit, fjoin, frame, done, fm_of, owns, Is, slice_val, Room, plain, nothing, owned, heard, on_entry, triple_of, Contract, Triple, Lasts, lasts, says, yes}
use mathlib.Core.Path.{subst}
use base.Fml.{flent}
use base.Logic.{sep, id⊢, ex_i}
use package.mir.Syntax.{Fn, Callee, Place, Opd as Operand, Body, seq, call, ty_array}
use types.Logic.{Logic, sem}
use types.Kit.{Post, lands, some, mean, Seq, pick, show, updating, now as at_once}
use types.Run.{Opds}
use types.Tokens.{lft_new, lft_end}
use contract.Monad.{fact, fact_i}
use contract.Lifetimes.{Lfts, Shares, toks}
use denote.RattleType.{RattleType, Denots, Valss, flat}
use denote.Laws.{Ises, Are, Spells, valss, Tellss}
use denote.Lend.{Held as Lent}
use denote.Signature.{Slot, mut_slice, types_at}
use denote.Signature.Array.{array_of}
use denote.Steps.{said}
use denote.Triple.End.{Fins, Outs, all, outs, lasts_of}
use denote.Triple.Clauses.{Clauses, Ended, ensured, closing}
use denote.Triple.Spec.{Back, Meets}
use Rattle.walks.proofs.Tab.{xs_at, calls_plain}
use Rattle.walks_lending.proofs.Local.{lends_array, array_back}
use Rattle.walks_lending.proofs.Held.{Held, C, N, T, ET, B}

-- parameters on entry, as they are seen at exit, their last values, and what is said of those
module _ {m : ℕ} (ss : List (Slot m)) (κs : Lfts m) where
  abbrev Entry : Type 0
  Entry = Denots (types_at ss κs)

  abbrev Exit : Type 0
  Exit = Outs κs ss (all yes ss)

  abbrev Ends : Entry → Type 0
  Ends = Fins κs ss (all yes ss)

  abbrev ending : (a : Entry) → Ends a → Fml
  ending = lasts_of κs ss (all yes ss)

  abbrev seen : (a : Entry) → Ends a → Exit
  seen = outs κs ss (all yes ss)

pub record Holding (K : Held) (n : ℕ) : Type 2 where
  pub here : List (Slot n)
  pub there : List (Slot (suc n))
  pub vals : (κs : Lfts n) → Spells (types_at here κs)
  pub tells : (κs : Lfts n) → Tellss (types_at here κs) (Ises (types_at here κs)) (vals κs)
  -- they are the same in both
  pub to : (κs : Lfts (suc n)) → Entry here κs.1 → Entry there κs
  pub to_vals : (κs : Lfts (suc n)) → Valss (types_at here κs.1) → Valss (types_at there κs)
  pub back : (κs : Lfts (suc n)) (a : Entry here κs.1) → Ends there κs (to κs a) → Ends here κs.1 a
  pub flat_is : (κs : Lfts (suc n)) (vss : Valss (types_at here κs.1)) → flat (types_at here κs.1) vss ≡ flat (types_at there κs) (to_vals κs vss)
  pub owns_is : (κs : Lfts (suc n)) (a : Entry here κs.1) (vss : Valss (types_at here κs.1)) → owns (types_at here κs.1) a vss ≡ owns (types_at there κs) (to κs a) (to_vals κs vss)
  pub ending_is : (κs : Lfts (suc n)) (a : Entry here κs.1) (ws : Ends there κs (to κs a)) → ending there κs (to κs a) ws ≡ ending here κs.1 a (back κs a ws)
  -- what is ensured: by the table, the others, the answer, the table then, and the others then
  pub before : (κs : Lfts (suc n)) → (T K).Denot → Entry there κs → (N K).Denot → (T K).Denot → Exit there κs → Type 0
  pub after : (κs : Lfts n) → (T K).Denot → Entry here κs → (N K).Denot → (T K).Denot → Exit here κs → Type 0
  pub so : (κs : Lfts (suc n)) (ys : (T K).Denot) (a : Entry here κs.1) (r : (N K).Denot) (zs : (T K).Denot) (ws : Ends there κs (to κs a))
      → before κs ys (to κs a) r zs (seen there κs (to κs a) ws) → after κs.1 ys a r zs (seen here κs.1 a (back κs a ws))

module _ {K : Held} {n : ℕ} (L : Holding K n) where
  -- the machine values of the parameters beside the table, one list for each; of all in a row; and what they show
  module _ (κs : Lfts n) (a : Entry L.here κs) where
    abbrev each : Valss (types_at L.here κs)
    each = valss (types_at L.here κs) (L.vals κs) a

    abbrev pub values : (T K).Denot → List Val
    values ys = (ET K).val ys ∷ flat (types_at L.here κs) each

    abbrev Shown : Type 0
    Shown = Are (types_at L.here κs) (Ises (types_at L.here κs)) a each

  -- ---- the contracts
  abbrev pub ended : Ended
  ended = record { signature = record { lifetimes = n; outlives = []; params = array_of (plain (λ _. C K)) K.count ∷ L.here; result = plain (λ _. B K) }; kept = (yes, all yes L.here) }

  abbrev asked : Ended
  asked = record { signature = record { lifetimes = suc n; outlives = []; params = mut_slice 0 tt (λ _. C K) ∷ L.there; result = plain (λ _. N K) }; kept = (yes, all yes L.there) }

  module _ {M : Type 1} (𝓤 : Ura M) where
    abbrev pub clauses : Clauses 𝓤 ended
    clauses κs a = record { ghost = Unit {0}; requires = λ _. emp 𝓤; ensures = λ _ r e. fact 𝓤 (L.after κs a.0 a.1 (K.said r) (K.table r) e.1) }

    abbrev perform_says : Clauses 𝓤 asked
    perform_says κs a = record { ghost = Unit {0}; requires = λ _. emp 𝓤; ensures = λ _ r e. fact 𝓤 (L.before κs a.0.now a.1 r e.0.now e.1) }

    module _ (𝓛 : Logic 𝓤) where
      abbrev pub Perform : Contract 𝓤
      Perform = triple_of 𝓛 asked.signature (closing 𝓛 asked perform_says)

      abbrev Whole : Contract 𝓤
      Whole = triple_of 𝓛 ended.signature (closing 𝓛 ended clauses)

      module _ (κs : Lfts n) (qs : Shares n) (a : Entry L.here κs) where
        abbrev pub Passed : Item 𝓤
        Passed = raw (toks 𝓛 n κs qs) ⊛ ‵ (owns (types_at L.here κs) a (each κs a))

        module _ (ys : (T K).Denot) where
          abbrev y : Whole.Ghost
          y = ((κs, qs, tt, (ys, a), ((ET K).val ys ∷ [], each κs a)), tt)

          abbrev Due : Val → SProp 𝓤
          Due = Whole.post y

          abbrev Last : (N K).Denot → (T K).Denot → Ends L.here κs a → Item 𝓤
          Last r zs ws = ‵ (ending L.here κs a ws) ⊛ raw (fact 𝓤 (L.after κs ys a r zs (seen L.here κs a ws)))

          abbrev Had : (N K).Denot → (T K).Denot → Item 𝓤
          Had r zs = raw (toks 𝓛 n κs qs) ⊛ some (Last r zs)

          -- what `perform` is passed: the slice at the local's place b, lent for ν under the name γ, and what this function was passed
          abbrev to_perform : ℕ → ℕ → GName → Perform.Ghost
          to_perform b ν γ = (((ν ∷ [], κs), (full_share, qs), tt, (xs_at (C K) b 0 γ ys, L.to (ν ∷ [], κs) a), (slice_val (b, 0) K.count ∷ [], L.to_vals (ν ∷ [], κs) (each κs a))), tt)

          -- what there is while it runs: that, and the lender's part
          abbrev During : ℕ → ℕ → GName → List (Item 𝓤) → List (Item 𝓤)
          During b ν γ Γ = raw (Perform.pre (to_perform b ν γ)) ∷ ‵ (flent (ν ∷ []) (Lent (C K) (length ys) b 0 γ)) ∷ Γ

  -- the local at b holds the table ys
  abbrev Table : {M : Type 1} (𝓤 : Ura M) → ℕ → (T K).Denot → Item 𝓤
  Table 𝓤 b ys = ‵ (fat full_share (ty_array K.channel.ty K.count) b 0 ((ET K).val ys))

  -- ---- the call
  module _ {M : Type 1} {𝓤 : Ura M} {𝓛 : Logic 𝓤} {J : Type 0} {Γ : List (Item 𝓤)} {E : Env 𝓤 𝓛.H} {f : Callee} {xs : List Operand} {d : Place} {rest : Body} {q : Post 𝓤 𝓛.H} where
    open 𝓛 use {H}

    pub performs : J → (𝓣 : Tables 𝓤 H) → Triple 𝓤 (𝓣.C f) (Perform 𝓤 𝓛) → (κs : Lfts n) (qs : Shares n) (a : Entry L.here κs) (ys : (T K).Denot) → Is (T K) ys ((ET K).val ys ∷ []) → (b : ℕ)
        → ((ν : ℕ) (γ : GName) → Opds J 𝓛 (During 𝓤 𝓛 κs qs a ys b ν γ Γ) E xs (slice_val (b, 0) K.count ∷ flat (types_at L.here κs) (each κs a)))
        → ((r : (N K).Denot) (zs : (T K).Denot) → Is (N K) r (K.answer.elem.val r ∷ []) → Is (T K) zs ((ET K).val zs ∷ []) → Seq J 𝓛 (Had 𝓤 𝓛 κs qs a ys r zs ∷ Table 𝓤 b zs ∷ Γ) (lands 𝓣.C 𝓣.Λ E d (K.answer.elem.val r) rest q))
        → Seq J 𝓛 (Table 𝓤 b ys ∷ Passed 𝓤 𝓛 κs qs a ∷ Γ) (runs 𝓣.C 𝓣.Λ E (seq (call f xs d) rest) q)
    performs t 𝓣 known κs qs a ys is b os k =
        let room : Room (C K) K.count = (ltb→lt _ _ K.fits, ltb→lt _ _ K.small) in
        let all_there : length ys ≡ K.count = is.1.0.1 in
        -- the table is lent, for a lifetime ν of the call
        lft_new t tt (λ ν. move t (1 ∷ []) $ lends_array t tt K.channel.elem tt K.count (ν ∷ []) b ys is all_there room (λ γ.
        let κs' : Lfts (suc n) = (ν ∷ [], κs) in
        -- [the slice; the lender's part; the token; what is passed]
        move t (3 ∷ []) $ split t $ rewrite t 1 ‵ (L.owns_is κs' a (each κs a)) refl $ move t (2 ∷ 1 ∷ []) $ fjoin t $ move t (3 ∷ 1 ∷ []) $ join t $ join t $ nothing t $ move t (1 ∷ 0 ∷ []) $ join t $
        use1 𝓛 (raw ((Perform 𝓤 𝓛).pre (to_perform 𝓤 𝓛 κs qs a ys b ν γ))) (id⊢ 𝓤 _) $
        calls_plain t (fm_of 𝓤 H 𝓛.laws 𝓣) asked (perform_says 𝓤) known (to_perform 𝓤 𝓛 κs qs a ys b ν γ) K.answer.elem
        (subst (λ (vs : List Val). Opds J 𝓛 (During 𝓤 𝓛 κs qs a ys b ν γ Γ) E xs (slice_val (b, 0) K.count ∷ vs)) (L.flat_is κs' (each κs a)) (os ν γ)) (λ r ws ir.
        let zs : (T K).Denot = ws.0 in
        let us : Ends L.here κs a = L.back κs' a ws.1 in
        move t (2 ∷ []) $ heard t (L.before κs' ys (L.to κs' a) r zs (seen L.there κs' (L.to κs' a) ws.1)) (λ e.
        -- the lifetime is ended, and the table comes back at the last list
        use1 𝓛 (‵ (flft (ν ∷ []) full_share) ⊛ raw (toks 𝓛 n κs qs)) (id⊢ 𝓤 _) $ split t $ lft_end t tt $ move t (2 ∷ []) $ fsplit t $ fsplit t $ fsplit t $ move t (2 ∷ []) $ drop t $ move t (3 ∷ 5 ∷ 0 ∷ []) $
        array_back t tt K.channel.elem K.count (ν ∷ []) b ys zs all_there (λ iz.
        -- [the table; its length; the other last values; the tokens]
        move t (1 ∷ []) $ drop t $ move t (1 ∷ []) $ rewrite t 0 ‵ (L.ending_is κs' a ws.1) refl $ use0 𝓛 (raw (fact 𝓤 (L.after κs ys a r zs (seen L.here κs a us)))) (fact_i 𝓤 _ (emp 𝓤) (L.so κs' ys a r zs ws.1 e)) $
        move t (1 ∷ 0 ∷ []) $ join t $ use1 𝓛 (some (Last 𝓤 𝓛 κs qs a ys r zs)) (ex_i 𝓤 (λ (vs : Ends L.here κs a). mean 𝓛 (Last 𝓤 𝓛 κs qs a ys r zs vs)) us) $ move t (2 ∷ 0 ∷ []) $ join t $ k r zs ir iz)))))

  -- ---- the end, and the contract
  module _ {M : Type 1} {𝓤 : Ura M} (𝓛 : Logic 𝓤) where
    open 𝓛 use {H}

    pub ends : (κs : Lfts n) (qs : Shares n) (a : Entry L.here κs) (ys : (T K).Denot) (r : (N K).Denot) (zs : (T K).Denot) → Is (B K) (K.holding r zs) (K.kept.elem.val (K.holding r zs) ∷ [])
        → ent 𝓤 (⋆ 𝓛 (Had 𝓤 𝓛 κs qs a ys r zs ∷ [])) (Due 𝓤 𝓛 κs qs a ys (K.kept.elem.val (K.holding r zs)))
    ends κs qs a ys r zs ik =
        let h : (B K).Denot = K.holding r zs in
        qed 𝓛 (Had 𝓤 𝓛 κs qs a ys r zs ∷ []) ∵ updating ! $ split ! $ move ! (1 ∷ []) $ pick ! (λ ws. split ! $ move ! (1 ∷ []) $ heard ! (L.after κs ys a r zs (seen L.here κs a ws)) (λ e. at_once ! $
        show ! (λ (b : (B K).Denot). sep 𝓤 (Back 𝓛 ended.signature (y 𝓤 𝓛 κs qs a ys).0 (K.kept.elem.val h) b) (ensured 𝓛 ended (clauses 𝓤) κs (ys, a) tt b)) h $
        owned ! (B K) (Is (B K)) (K.kept.elem.makes 𝓛) h _ ik $ move ! (2 ∷ 0 ∷ []) $ join ! $ frame ! $ nothing ! $ fjoin ! $
        show ! (λ (us : Lasts ended κs (ys, a)). sep 𝓤 (sem 𝓛 (lasts ended κs (ys, a) us)) (fact 𝓤 (L.after κs ys a (K.said h) (K.table h) (seen L.here κs a us.1)))) (tt, ws) $
        says ! (K.holds (λ b us. L.after κs ys a b us (seen L.here κs a ws)) r zs e) $ done !))

    pub held_meets : (𝓣 : Tables 𝓤 H) (f : Fn)
        → ((κs : Lfts n) (qs : Shares n) (a : Entry L.here κs) (ys : (T K).Denot) → Is (T K) ys ((ET K).val ys ∷ []) → Shown κs a → ent 𝓤 (⋆ 𝓛 (Passed 𝓤 𝓛 κs qs a ∷ [])) (WpFn 𝓤 H 𝓣.C 𝓣.Λ f (values κs a ys) (Due 𝓤 𝓛 κs qs a ys)))
        → Meets 𝓛 ended.signature (WpFn 𝓤 H 𝓣.C 𝓣.Λ f) (closing 𝓛 ended (clauses 𝓤))
    held_meets 𝓣 f k x =
        let κs : Lfts n = x.0.0 in
        let qs : Shares n = x.0.1 in
        let ys : (T K).Denot = x.0.3.0 in
        let a : Entry L.here κs = x.0.3.1 in
        let rows : List RattleType = T K ∷ types_at L.here κs in
        let On : Valss rows → SProp 𝓤 = on_entry 𝓛 ended.signature κs qs (ys, a) in
        via 𝓤 (On x.0.4) (fst∗ 𝓤 (On x.0.4) (emp 𝓤))
        (said 𝓛 ended.signature κs qs ((λ zs. (ET K).val zs ∷ []), L.vals κs) ((ET K).tells, L.tells κs) (ys, a) (λ us. WpFn 𝓤 H 𝓣.C 𝓣.Λ f (flat rows us) ((Whole 𝓤 𝓛).post ((κs, qs, tt, (ys, a), us), tt))) x.0.4
        (λ are. via 𝓤 (⋆ 𝓛 (Passed 𝓤 𝓛 κs qs a ∷ []))
        (qed 𝓛 (raw (toks 𝓛 n κs qs) ∷ ‵ (owns rows (ys, a) ((ET K).val ys ∷ [], each κs a)) ∷ []) ∵ move ! (1 ∷ []) $ fsplit ! $ drop ! $ move ! (1 ∷ []) $ done !) (k κs qs a ys are.0 are.1)))
