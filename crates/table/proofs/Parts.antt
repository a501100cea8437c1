-- A channel's own part of what is lent: cut out, stepped, and put back.
-- Assumes nothing.
use mathlib.Core.Path.{◌≡◌, refl, sym, ap, ap₂, ◌∙◌, subst₂}
use mathlib.Core.List.{List, [], ◌∷◌, ◌++◌}
use Prim.Native.Nat.{ℕ, zero, suc, ◌+◌, ◌-◌}
use native.Mathlib.Omega.{arith}
use lib.ListN.{length, take, drop, take-append-drop}
use lib.Seq.{drop-drop}
use borrow.Rule.Slice.PartMut.{put_mid}
use Rattle.slots.specs.Slots.{Sized, laid}
use Rattle.walks.specs.Serving.{Worked, works}
use Rattle.channel.specs.declared.record.Channel.{Channel}
use Rattle.channel.specs.declared.step.Stepped.{Stepped}
use Rattle.table.specs.declared.deciding.Decision.{Decision}
use Rattle.table.specs.Waiting.{rank_in}
use Rattle.table.specs.Lent.{area_of, part_of}
use Rattle.table.specs.Serving.{Step}
use Rattle.channel.specs.Asked.{Asked}
use Rattle.table.specs.Surveying.{mine, mine_lens, wholly, stepping, Served}

take_rest : (n : ℕ) (l : List ℕ) → take n l ++ drop (length (take n l)) l ≡ l
take_rest zero l = refl
take_rest (suc n) [] = refl
take_rest (suc n) (x ∷ l) = ap (λ (k : List ℕ). x ∷ k) (take_rest n l)

-- a part laid where it was cut out
pub laid_own : (m : List ℕ) (at n : ℕ) → laid m at (part_of at n m) ≡ m
unfolding laid
laid_own m at n =
    ap (λ (l : List ℕ). take at m ++ (take n (drop at m) ++ l)) (sym (drop-drop (length (take n (drop at m))) at m))
    ∙ ap (λ (l : List ℕ). take at m ++ l) (take_rest n (drop at m))
    ∙ take-append-drop at m

-- what stands there after a call is laid there
pub put_laid : (m : List ℕ) (at k n : ℕ) (q : List ℕ) → k ≡ n → length q ≡ n → put_mid at k m q ≡ laid m at q
unfolding laid
put_laid m at k n q e h =
    ap (λ (j : ℕ). take at m ++ (q ++ drop j (drop at m))) (e ∙ sym h) ∙ ap (λ (l : List ℕ). take at m ++ (q ++ l)) (drop-drop (length q) at m)

-- what code cuts out from a to b, where a part of n elements lies
cut : (at n a b : ℕ) (l : List ℕ) → (a ≡ at) × (b ≡ at + n) → take (b - a) (drop a l) ≡ part_of at n l
cut at n a b l e = ap₂ (λ (k x : ℕ). take k (drop x l)) (omega (arith, e.0, e.1)) e.0

-- and what then stands there is laid there
put_cut : (at n a b : ℕ) (l q : List ℕ) → (a ≡ at) × (b ≡ at + n) → length q ≡ n → put_mid a (b - a) l q ≡ laid l at q
put_cut at n a b l q e h = ap (λ (x : ℕ). put_mid x (b - a) l q) e.0 ∙ put_laid l at (b - a) n q (omega (arith, e.0, e.1)) h

-- the parts are what the ends' steps ask
pub own_asked : (c : Channel) (d : Decision) (mem lens : List ℕ) (a b i j : ℕ)
    → (a ≡ d.spot.octet) × (b ≡ d.spot.octet + area_of c.limits)
    → (i ≡ d.spot.slot) × (j ≡ d.spot.slot + c.limits.slots)
    → Served c d mem lens
    → Asked c (take (b - a) (drop a mem)) (take (j - i) (drop i lens))
own_asked c d mem lens a b i j octets slots s =
    subst₂ (λ (m l : List ℕ). Asked c m l) (sym (cut _ _ a b mem octets)) (sym (cut _ _ i j lens slots)) (record { standing = s.standing; sized = s.sized })

module _ (step : Step) (c : Channel) (d : Decision) (mem lens out : List ℕ) where
  -- a step that changes neither octets nor lengths
  pub quiet : (s : Stepped) (o : List ℕ)
      → step c (rank_in d.spot.grade) (mine c d mem) (mine_lens c d lens) out ≡ works s (mine c d mem) (mine_lens c d lens) o
      → works s mem lens o ≡ stepping step c d mem lens out
  quiet s o e =
      ap₂ (λ (m l : List ℕ). works s m l o) (sym (laid_own mem d.spot.octet (area_of c.limits))) (sym (laid_own lens d.spot.slot c.limits.slots))
      ∙ ap (λ (w : Worked Stepped). wholly d mem lens w) (sym e)

  -- over the parts as code cuts them out, the octets from a to b and the lengths from i to j
  module _ (a b i j : ℕ) (octets : (a ≡ d.spot.octet) × (b ≡ d.spot.octet + area_of c.limits)) (slots : (i ≡ d.spot.slot) × (j ≡ d.spot.slot + c.limits.slots)) where
    -- a step that reads them for its answer and for what it writes out
    pub parts_read : (answer : List ℕ → Stepped) (fill : List ℕ → List ℕ → List ℕ) (s : Stepped) (o : List ℕ)
        → s ≡ answer (take (j - i) (drop i lens))
        → o ≡ fill (take (j - i) (drop i lens)) (take (b - a) (drop a mem))
        → step c (rank_in d.spot.grade) (mine c d mem) (mine_lens c d lens) out
        ≡ works (answer (mine_lens c d lens)) (mine c d mem) (mine_lens c d lens) (fill (mine_lens c d lens) (mine c d mem))
        → works s mem lens o ≡ stepping step c d mem lens out
    parts_read answer fill s o es eo e =
        let l = cut _ _ i j lens slots in
        let zs : s ≡ answer (mine_lens c d lens) = es ∙ ap answer l in
        let zo : o ≡ fill (mine_lens c d lens) (mine c d mem) = eo ∙ ap₂ fill l (cut _ _ a b mem octets) in
        quiet s o (e ∙ sym (ap₂ (λ (x : Stepped) (y : List ℕ). works x (mine c d mem) (mine_lens c d lens) y) zs zo))

    -- a step that changes them, and not their size
    pub parts_filed : (filed lengths : List ℕ → List ℕ) (s t : Stepped) (m l o : List ℕ)
        → s ≡ t
        → m ≡ filed (take (b - a) (drop a mem))
        → l ≡ lengths (take (j - i) (drop i lens))
        → Sized c.limits.slots c.limits.payload (filed (mine c d mem)) (lengths (mine_lens c d lens))
        → step c (rank_in d.spot.grade) (mine c d mem) (mine_lens c d lens) out ≡ works t (filed (mine c d mem)) (lengths (mine_lens c d lens)) o
        → works s (put_mid a (b - a) mem m) (put_mid i (j - i) lens l) o ≡ stepping step c d mem lens out
    parts_filed filed lengths s t m l o es em el sized e =
        let zm : m ≡ filed (mine c d mem) = em ∙ ap filed (cut _ _ a b mem octets) in
        let zl : l ≡ lengths (mine_lens c d lens) = el ∙ ap lengths (cut _ _ i j lens slots) in
        ap₂ (λ (x y : List ℕ). works s x y o)
        (put_cut d.spot.octet (area_of c.limits) a b mem m octets (ap length zm ∙ sized.exact))
        (put_cut d.spot.slot c.limits.slots i j lens l slots (ap length zl ∙ sized.each))
        ∙ ap (λ (w : Worked Stepped). wholly d mem lens w)
        (ap₂ (λ (x y : List ℕ). works s x y o) zm zl ∙ ap (λ (x : Stepped). works x (filed (mine c d mem)) (lengths (mine_lens c d lens)) o) es ∙ sym e)
