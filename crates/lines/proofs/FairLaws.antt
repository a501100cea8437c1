-- Why no more go before c than stood there: whoever is relisted, c's place is never raised; and whoever stands before c and is served lowers it by one.
-- Assumes nothing.
use mathlib.Core.Path.{◌≡◌, sym, ap, ◌∙◌}
use mathlib.Core.Bool.{Bool, true, false, true≢false, false≢true}
use mathlib.Core.Logic.{⊎_elim}
use mathlib.Core.List.{List, [], ◌∷◌, ◌++◌}
use Prim.Native.Nat.{ℕ, suc, ◌≤◌, ◌<◌}
use native.Mathlib.Nat.{le_refl, le_of_eq}
use native.Mathlib.Omega.{arith}
use Rattle.lines.specs.Lines.{stands, joined, without, relisted, before}
use Rattle.lines.specs.Fit.{apart}
use Rattle.lines.proofs.LineLaws as line

-- ---- c's place

-- whoever joins stands behind c
pub joiner_behind : (c : ℕ) (l t : List ℕ) → stands c l ≡ true → before c (l ++ t) ≡ before c l
unfolding stands before
joiner_behind c [] t e = absurd (false≢true e)
joiner_behind c (x ∷ l) t e =
    ⊎_elim
    (λ q. line.before_head x c (l ++ t) q ∙ sym (line.before_head x c l q))
    (λ n.
    line.before_past x c (l ++ t) n
    ∙ ap suc (joiner_behind c l t (sym (line.stands_past x c l n) ∙ e))
    ∙ sym (line.before_past x c l n))
    (line.same_or_not x c)

-- so of two that join in one call, the first stands before the second
pub in_order : (i j : ℕ) (l : List ℕ) → stands i l ≡ true → stands j l ≡ false → before i (joined j l) < before j (joined j l)
in_order i j l e n =
    let t = l ++ (j ∷ []) in
    rw (line.joined_tail j l n) (omega (arith, joiner_behind i l (j ∷ []) e, line.before_lt i l e, line.before_tail j l n))

leaver_helps : (c j : ℕ) (l : List ℕ) → (j ≡ c → ⊥) → before c (without j l) ≤ before c l
unfolding without before
leaver_helps c j [] n = le_refl 0
leaver_helps c j (x ∷ l) n =
    ⊎_elim
    (λ q.
    omega
    (arith, ap (before c) (line.without_head x j l q), line.before_past x c l (λ r. n (sym q ∙ r)), leaver_helps c j l n))
    (λ m.
    let e = ap (before c) (line.without_past x j l m) in
    ⊎_elim
    (λ r. omega (arith, line.before_head x c (without j l) r))
    (λ r. omega (arith, line.before_past x c (without j l) r, line.before_past x c l r, leaver_helps c j l n))
    (line.same_or_not x c))
    (line.same_or_not x j)

-- who stands before c is not c
pub not_c : (c j : ℕ) (l : List ℕ) → before j l < before c l → j ≡ c → ⊥
not_c c j l h e = omega (arith, ap (λ (k : ℕ). before k l) e)

-- a call that relists any channel never raises c's place
pub never_raised : (c j : ℕ) (ready : Bool) (l : List ℕ) → stands c l ≡ true → stands c (relisted j ready l) ≡ true
    → before c (relisted j ready l) ≤ before c l
never_raised c j ready l e =
    line.by_relisting (λ t. stands c t ≡ true → before c t ≤ before c l) j ready l
    (λ r. line.by_joining (λ t. stands c t ≡ true → before c t ≤ before c l) j l (λ s f. le_refl (before c l)) (λ s f. le_of_eq (joiner_behind c l (j ∷ []) e)))
    (λ r f.
    leaver_helps c j l (λ q. true≢false (sym f ∙ ap (λ (k : ℕ). stands c (without k l)) q ∙ line.gone c l)))

-- one that stands before c and leaves lowers it by exactly one
pub one_lower : (c j : ℕ) (l : List ℕ) → apart l ≡ true → before j l < before c l → before c l ≡ suc (before c (without j l))
unfolding before
one_lower c j [] a h = absurd (omega arith)
one_lower c j (x ∷ l) a h =
    let k = line.apart_head x l a in
    let n : x ≡ c → ⊥ = λ q. omega (arith, line.before_head x c l q) in
    ⊎_elim
    (λ q.
    let none : stands j l ≡ false = ap (λ (t : ℕ). stands t l) (sym q) ∙ k.0 in
    line.before_past x c l n
    ∙ ap (λ (t : List ℕ). suc (before c t)) (sym (line.without_head x j l q ∙ line.without_none j l none)))
    (λ m.
    let less : before j l < before c l = omega (arith, line.before_past x c l n, line.before_past x j l m) in
    line.before_past x c l n
    ∙ ap suc (one_lower c j l k.1 less ∙ sym (line.before_past x c (without j l) n))
    ∙ ap (λ (t : List ℕ). suc (before c t)) (sym (line.without_past x j l m)))
    (line.same_or_not x j)

-- so does a hand-out, whether or not it rejoins
pub hand_out_lowers : (c j : ℕ) (ready : Bool) (l : List ℕ) → apart l ≡ true → stands c l ≡ true → before j l < before c l
    → before c l ≡ suc (before c (relisted j ready (without j l)))
hand_out_lowers c j ready l a e h =
    let n = not_c c j l h in
    let still : stands c (without j l) ≡ true = line.others_stand_without c j l n ∙ e in
    line.by_relisting (λ t. before c l ≡ suc (before c t)) j ready (without j l)
    (λ r.
    line.by_joining (λ t. before c l ≡ suc (before c t)) j (without j l)
    (λ s. one_lower c j l a h)
    (λ s. one_lower c j l a h ∙ ap suc (sym (joiner_behind c (without j l) (j ∷ []) still))))
    (λ r.
    one_lower c j l a h
    ∙ ap (λ (t : List ℕ). suc (before c t)) (sym (line.without_none j (without j l) (line.gone j l))))
