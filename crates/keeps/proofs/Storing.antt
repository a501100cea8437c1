-- A record stored in its place, and its parts laid where they were: what is so of the table, the memory and the lengths afterwards.
-- Assumes nothing.
use mathlib.Core.Path.{◌≡◌, refl, sym, ap, ◌∙◌}
use mathlib.Core.Bool.{true}
use mathlib.Core.List.{List, [], ◌∷◌, ◌++◌}
use Prim.Native.Nat.{ℕ, zero, suc, ◌+◌, ◌≤◌, ◌<◌}
use native.Mathlib.Nat.{zero-add, suc-add, not-suc-le-zero, le_of_suc-le-suc}
use native.Mathlib.Omega.{arith}
use lib.ListN.{length, get_or, set, take, drop, length-drop}
use Rattle.slots.specs.Slots.{laid}
use Rattle.slots.proofs.SlotLaws.{laid_here, laid_before, laid_after}
use Rattle.channel.specs.declared.record.Limits.{Limits}
use Rattle.channel.specs.declared.record.Channel.{Channel}
use Rattle.channel.specs.Standing.{standing}
use Rattle.table.specs.Lent.{area_of, all_slots, all_octets, each_stands}
use Rattle.table.specs.Serving.{blank}
use Rattle.table.proofs.SurveyLaws.{stands_first, stands_both, slots_within}

-- ---- what is laid behind the first elements

laid_cons : (x : ℕ) (m : List ℕ) (at : ℕ) (p : List ℕ) → laid (x ∷ m) (suc at) p ≡ x ∷ laid m at p
unfolding laid
laid_cons x m at p = ap (λ (k : ℕ). x ∷ (take at m ++ (p ++ drop k (x ∷ m)))) (suc-add at (length p))

pub drop_laid : (k s : ℕ) (m p : List ℕ) → k + s + length p ≤ length m → drop k (laid m (k + s) p) ≡ laid (drop k m) s p
drop_laid zero s m p h = ap (λ (j : ℕ). laid m j p) (zero-add s)
drop_laid (suc k) s [] p h = absurd (omega (arith, h, suc-add k s, suc-add (k + s) (length p)))
drop_laid (suc k) s (x ∷ m) p h =
    ap (λ (j : ℕ). drop (suc k) (laid (x ∷ m) j p)) (suc-add k s)
    ∙ ap (drop (suc k)) (laid_cons x m (k + s) p)
    ∙ drop_laid k s m p (omega (arith, h, suc-add k s, suc-add (k + s) (length p)))

-- ---- sizes: the limits stay, so all parts keep their place

module _ (k : Channel) where
  pub slots_stored : (t : List Channel) (i : ℕ) → k.limits ≡ (get_or t i blank).limits → all_slots (set t i k) ≡ all_slots t
  unfolding all_slots
  slots_stored [] i e = refl
  slots_stored (c ∷ t) zero e = ap (λ (l : Limits). l.slots + all_slots t) e
  slots_stored (c ∷ t) (suc i) e = ap (λ (n : ℕ). c.limits.slots + n) (slots_stored t i e)

  pub octets_stored : (t : List Channel) (i : ℕ) → k.limits ≡ (get_or t i blank).limits → all_octets (set t i k) ≡ all_octets t
  unfolding all_octets
  octets_stored [] i e = refl
  octets_stored (c ∷ t) zero e = ap (λ (l : Limits). area_of l + all_octets t) e
  octets_stored (c ∷ t) (suc i) e = ap (λ (n : ℕ). area_of c.limits + n) (octets_stored t i e)

  -- and so do those before any index
  pub slots_before : (t : List Channel) (i j : ℕ) → k.limits ≡ (get_or t i blank).limits → all_slots (take j (set t i k)) ≡ all_slots (take j t)
  unfolding all_slots
  slots_before [] i j e = refl
  slots_before (c ∷ t) zero zero e = refl
  slots_before (c ∷ t) (suc i) zero e = refl
  slots_before (c ∷ t) zero (suc j) e = ap (λ (l : Limits). l.slots + all_slots (take j t)) e
  slots_before (c ∷ t) (suc i) (suc j) e = ap (λ (n : ℕ). c.limits.slots + n) (slots_before t i j e)

  pub octets_before : (t : List Channel) (i j : ℕ) → k.limits ≡ (get_or t i blank).limits → all_octets (take j (set t i k)) ≡ all_octets (take j t)
  unfolding all_octets
  octets_before [] i j e = refl
  octets_before (c ∷ t) zero zero e = refl
  octets_before (c ∷ t) (suc i) zero e = refl
  octets_before (c ∷ t) zero (suc j) e = ap (λ (l : Limits). area_of l + all_octets (take j t)) e
  octets_before (c ∷ t) (suc i) (suc j) e = ap (λ (n : ℕ). area_of c.limits + n) (octets_before t i j e)

-- ---- every record stands again

pub stands_stored : (k : Channel) (l : List ℕ) → standing k l ≡ true → (t : List Channel) (lens : List ℕ) (i : ℕ)
    → i < length t
    → all_slots t ≤ length lens
    → k.limits ≡ (get_or t i blank).limits
    → length l ≡ (get_or t i blank).limits.slots
    → each_stands t lens ≡ true
    → each_stands (set t i k) (laid lens (all_slots (take i t)) l) ≡ true
unfolding all_slots
stands_stored k l st [] lens i h fit e len all = absurd (not-suc-le-zero h)
stands_stored k l st (c ∷ t) lens zero h fit e len all =
    let inside : 0 + length l ≤ length lens = omega (arith, fit, len) in
    let n : k.limits.slots ≡ length l = ap (λ (x : Limits). x.slots) e ∙ sym len in
    stands_both k t (laid lens 0 l)
    (ap (λ (j : ℕ). standing k (take j (laid lens 0 l))) n ∙ ap (standing k) (laid_here lens 0 l inside) ∙ st)
    (ap (λ (x : List ℕ). each_stands t x)
    (ap (λ (x : Limits). drop x.slots (laid lens 0 l)) e ∙ laid_after lens 0 l inside c.limits.slots (omega (arith, len)))
    ∙ (stands_first c t lens all).1)
stands_stored k l st (c ∷ t) lens (suc i) h fit e len all =
    let at = all_slots (take i t) in
    let inner = le_of_suc-le-suc h in
    let in_rest : at + length l ≤ all_slots t = omega (arith, len, slots_within t i inner) in
    let inside : c.limits.slots + at + length l ≤ length lens = omega (arith, fit, in_rest) in
    let first = stands_first c t lens all in
    stands_both c (set t i k) (laid lens (c.limits.slots + at) l)
    (ap (standing c) (laid_before lens (c.limits.slots + at) l inside c.limits.slots (omega arith)) ∙ first.0)
    (ap (λ (x : List ℕ). each_stands (set t i k) x) (drop_laid c.limits.slots at lens l inside)
    ∙ stands_stored k l st t (drop c.limits.slots lens) i inner (omega (arith, fit, length-drop c.limits.slots lens)) e len first.1)
