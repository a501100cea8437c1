-- What the code finds in a line's octets: the place, by std's search; and indexes that were passed, by marks.
-- Assumes nothing.
use mathlib.Core.Path.{◌≡◌, refl, sym, ap, ap₂, ◌∙◌, subst}
use mathlib.Core.Bool.{Bool, true, false, not, ◌&&◌, and-false, and-true}
use mathlib.Core.Logic.{⊎_elim}
use mathlib.Core.List.{List, [], ◌∷◌, ◌++◌}
use Prim.Native.Nat.{ℕ, zero, suc, ◌+◌, ◌-◌, ◌*◌, ◌≤◌, ◌<◌, min}
use native.Mathlib.Numerals.{add-one}
use native.Mathlib.Omega.{arith}
use borrow.Author.Tests.{lt-ltb, le-ltb, le-leb}
use lib.Dec.{eqb, ltb}
use lib.ListN.{length, get_or, set, take, drop, replicate, length-set, length-drop, drop_of_length-le}
use lib.Seq.{get_or-set_same, get_or-set_other, drop-cons, drop-drop, take-length, take_all}
use Rattle.std.proofs.Common.{Option, ◌==◌, cond, Some, None, position}
use Rattle.std.specs.Prelude.{is_some}
use Rattle.std.specs.List.{list_all}
use Rattle.std.specs.List.{position_or_len}
use Rattle.std.proofs.lemmas.List.Recursion.{is_position_or_len}
use Rattle.laws.proofs.Choice.{either_way, first_not, last_not}
use Rattle.laws.proofs.Numbers.{lt_cases}
use Rattle.slots.specs.Slots.{laid}
use Rattle.lines.specs.Lines.{stands, joined, before, line_octets, line_in, part_at, line_at, with_line}
use Rattle.lines.specs.Grades.{grade_in}
use Rattle.lines.specs.Fit.{below, apart, blank, fit_line, FitLine, Fit}
use Rattle.lines.proofs.LineLaws as line
use Rattle.lines.proofs.OctetLaws as octets
use Rattle.lines.proofs.FitLaws as fit
use Rattle.lines.proofs.GradeLaws as grade

-- ---- the place

-- how many the search passes stand before i
passed : (i : ℕ) (l : List ℕ) → position_or_len (λ x. x == i) l ≡ before i l
unfolding before
passed i l = sym (is_position_or_len (before i) (λ x. x == i) refl (λ x t. ap (cond (x == i) 0) (omega arith)) l)

search_there : (i : ℕ) (l : List ℕ) → stands i l ≡ true → position (λ x. x == i) l ≡ Some (before i l)
search_there i l e =
    ap (λ (n : ℕ). cond (ltb n (length l)) (Some n) None) (passed i l)
    ∙ ap (λ (t : Bool). cond t (Some (before i l)) None) (lt-ltb (before i l) (length l) (line.before_lt i l e))

search_none : (i : ℕ) (l : List ℕ) → stands i l ≡ false → position (λ x. x == i) l ≡ None
search_none i l e =
    ap (λ (n : ℕ). cond (ltb n (length l)) (Some n) None) (passed i l ∙ line.before_all i l e)
    ∙ ap (λ (t : Bool). cond t (Some (length l)) None) (le-ltb (length l) (length l) (omega arith))

-- of more than there are, all
take_most : (n : ℕ) (l : List ℕ) → take (min n (length l)) l ≡ take n l
take_most n l =
    ⊎_elim
    (λ h. let e : min n (length l) ≡ n = omega arith in ap (λ (k : ℕ). take k l) e)
    (λ h. let e : min n (length l) ≡ length l = omega arith in ap (λ (k : ℕ). take k l) e ∙ take-length l ∙ sym (take_all n l h))
    (lt_cases n (length l))

-- the row that is searched: a count of more than 16 reads as 16
pub row_line : (o : List ℕ) → length o ≡ 17 → take (min (get_or o 0 0) 16 + 1 - 1) (drop 1 o) ≡ line_in o
unfolding line_in
row_line o size =
    let n : min (get_or o 0 0) 16 + 1 - 1 ≡ min (get_or o 0 0) (length (drop 1 o)) = omega (arith, length-drop 1 o) in
    ap (λ (k : ℕ). take k (drop 1 o)) n ∙ take_most (get_or o 0 0) (drop 1 o)

-- what the answer says
pub is_found : (i : ℕ) (l : List ℕ) → is_some (position (λ x. x == i) l) ≡ stands i l
is_found i l =
    either_way (stands i l) (λ s. ap is_some (search_there i l s) ∙ sym s) (λ s. ap is_some (search_none i l s) ∙ sym s)

pub found : (i : ℕ) (l : List ℕ) (k : ℕ) → Some k ≡ position (λ x. x == i) l → (stands i l ≡ true) × (k ≡ before i l)
found i l k e =
    either_way (stands i l)
    (λ s. let there = e ∙ search_there i l s in (s, cc there))
    (λ s. let none = e ∙ search_none i l s in absurd (cc none))

pub not_found : (i : ℕ) (l : List ℕ) → None ≡ position (λ x. x == i) l → stands i l ≡ false
not_found i l e = sym (is_found i l) ∙ ap is_some (sym e)

pub place_in_line : (o : List ℕ) → FitLine 16 o → (i k : ℕ) → Some k ≡ position (λ x. x == i) (line_in o) → k < get_or o 0 0
place_in_line o f i k e =
    let w = found i (line_in o) k e in
    omega (arith, w.1, line.before_lt i (line_in o) w.0, fit.count_of 16 o f)

-- where it joins there is room
pub room_for : (o : List ℕ) → FitLine 16 o → (i : ℕ) → i < 16 → stands i (line_in o) ≡ false → get_or o 0 0 < 16
room_for o f i b s = omega (arith, fit.count_of 16 o f, line.room 16 i (line_in o) b f.line s)

pub at_tail : (o : List ℕ) → FitLine 16 o → (i : ℕ) → i < 16 → stands i (line_in o) ≡ false
    → set (set o (get_or o 0 0 + 1) i) 0 (get_or o 0 0 + 1) ≡ line_octets (joined i (line_in o))
at_tail o f i b s =
    let l = line_in o in
    ap (λ (k : ℕ). set (set o (k + 1) i) 0 (k + 1)) (fit.count_of 16 o f)
    ∙ ap (λ (t : List ℕ). set (set t (length l + 1) i) 0 (length l + 1)) f.written
    ∙ octets.tail_set l i (omega (arith, fit.count_of 16 o f, room_for o f i b s))
    ∙ ap line_octets (sym (line.joined_tail i l s))

-- ---- a part that is lent

module _ (s : List ℕ) (rank : ℕ) where
  width : 17 * rank + 17 - 17 * rank ≡ 17
  width = omega arith

  pub lent : take (17 * rank + 17 - 17 * rank) (drop (17 * rank) s) ≡ part_at rank s
  unfolding part_at
  lent = ap (λ (k : ℕ). take k (drop (17 * rank) s)) width

  pub lent_fit : Fit 16 s → rank < 3 → FitLine 16 (take (17 * rank + 17 - 17 * rank) (drop (17 * rank) s))
  lent_fit f h = subst (FitLine 16) (sym lent) (f.each rank h)

  -- and comes back as the octets of a line
  pub put_back : (q l : List ℕ) → q ≡ line_octets l → length l ≤ 16
      → take (17 * rank) s ++ (q ++ drop (17 * rank + 17 - 17 * rank) (drop (17 * rank) s)) ≡ with_line rank l s
  unfolding with_line laid
  put_back q l e short =
      let n : 17 * rank + (17 * rank + 17 - 17 * rank) ≡ 17 * rank + length (line_octets l) = omega (arith, octets.octets_length l short) in
      ap₂ (λ (a b : List ℕ). take (17 * rank) s ++ (a ++ b)) e
      (drop-drop (17 * rank + 17 - 17 * rank) (17 * rank) s ∙ ap (λ (k : ℕ). drop k s) n)

-- the grade, from the place in the part that is lent
module _ (s : List ℕ) (rank : ℕ) (i : ℕ) (ready : Bool) (r : ready ≡ true) where
  abbrev search : List ℕ → Option ℕ
  search o = position (λ x. x == i) (line_in o)

  pub graded : (p : ℕ) → Some p ≡ search (take (17 * rank + 17 - 17 * rank) (drop (17 * rank) s))
      → (rank * 16 + p ≡ grade_in rank i ready s) × (p < 16)
  graded p e =
      let f = found i (line_at rank s) p (e ∙ ap search (lent s rank)) in (
        ap (λ (k : ℕ). rank * 16 + k) f.1 ∙ sym (grade.grade_waits rank i ready s r f.0),
        omega (arith, f.1, line.before_lt i (line_at rank s) f.0, grade.short_line rank s),
      )

  pub not_graded : None ≡ search (take (17 * rank + 17 - 17 * rank) (drop (17 * rank) s)) → 48 ≡ grade_in rank i ready s
  not_graded e =
      let f = not_found i (line_at rank s) (e ∙ ap search (lent s rank)) in
      sym (grade.grade_not rank i ready s (last_not ready (stands i (line_at rank s)) f))

-- ---- what the test finds

pub all_blank : (l : List ℕ) → blank l ≡ list_all (λ x. x == 0) l
unfolding blank
all_blank [] = refl
all_blank (x ∷ l) = ap (λ (t : Bool). eqb x 0 && t) (all_blank l)

-- a line whose row passes is fit where what follows is blank
pub row_passes : (n : ℕ) (o : List ℕ) → get_or o 0 0 ≤ 16
    → (below n (take (get_or o 0 0 + 1 - 1) (drop 1 o)) && apart (take (get_or o 0 0 + 1 - 1) (drop 1 o))) ≡ true
    → list_all (λ x. x == 0) (drop (get_or o 0 0 + 1) o) ≡ fit_line n o
unfolding fit_line line_in
row_passes n o few e =
    let count = get_or o 0 0 in
    let row : count + 1 - 1 ≡ count = omega arith in
    let passes = sym (ap (λ (k : ℕ). below n (take k (drop 1 o)) && apart (take k (drop 1 o))) row) ∙ e in
    sym (ap₂ (λ (u v : Bool). u && v && blank (drop (count + 1) o)) (le-leb count 16 few) passes ∙ all_blank (drop (count + 1) o))

-- indexes below n, none twice, and none among those that are marked
unfoldable pub fresh : List Bool → ℕ → List ℕ → Bool
fresh marks n [] = true
fresh marks n (x ∷ l) = ltb x n && (not (get_or marks x false) && fresh (set marks x true) n l)

unfoldable unmarked : List Bool → List ℕ → Bool
unmarked marks [] = true
unmarked marks (x ∷ l) = not (get_or marks x false) && unmarked marks l

and_swap : (a b c : Bool) → (a && (b && c)) ≡ (b && (a && c))
and_swap true b c = refl
and_swap false b c = sym (and-false b)

mark_more : (marks : List Bool) (x : ℕ) (l : List ℕ) → x < length marks → unmarked (set marks x true) l ≡ (not (stands x l) && unmarked marks l)
unfolding unmarked stands
mark_more marks x [] h = refl
mark_more marks x (y ∷ l) h =
    ⊎_elim
    (λ e.
    ap (λ (v : Bool). not v && unmarked (set marks x true) l) (ap (λ (j : ℕ). get_or (set marks x true) j false) e ∙ get_or-set_same marks x true false h)
    ∙ ap (λ (t : Bool). not t && (not (get_or marks y false) && unmarked marks l)) (sym (line.stands_head y x l e)))
    (λ n.
    ap₂ (λ (v t : Bool). not v && t) (get_or-set_other marks x y true false n) (mark_more marks x l h)
    ∙ and_swap (not (get_or marks y false)) (not (stands x l)) (unmarked marks l)
    ∙ ap (λ (t : Bool). not t && (not (get_or marks y false) && unmarked marks l)) (sym (line.stands_past y x l n)))
    (line.same_or_not y x)

sorted : (e b a n u : Bool) → (e && (b && (a && (n && u)))) ≡ (b && ((n && a) && (e && u)))
sorted true true a true u = refl
sorted true true a false u = and-false a
sorted true false a n u = refl
sorted false true a n u = sym (and-false (n && a))
sorted false false a n u = refl

fresh_is : (marks : List Bool) (n : ℕ) (l : List ℕ) → n ≤ length marks → fresh marks n l ≡ (below n l && (apart l && unmarked marks l))
unfolding fresh below apart unmarked
fresh_is marks n [] h = refl
fresh_is marks n (x ∷ l) h =
    ⊎_elim
    (λ b.
    let t = lt-ltb x n b in
    let next = fresh_is (set marks x true) n l (omega (arith, length-set marks x true)) in
    let marked = mark_more marks x l (omega arith) in
    ap₂ (λ (p q : Bool). p && (not (get_or marks x false) && q)) t
    (next ∙ ap (λ (q : Bool). below n l && (apart l && q)) marked)
    ∙ sorted (not (get_or marks x false)) (below n l) (apart l) (not (stands x l)) (unmarked marks l)
    ∙ ap (λ (p : Bool). p && below n l && (not (stands x l) && apart l && (not (get_or marks x false) && unmarked marks l))) (sym t))
    (λ b.
    let t = le-ltb x n b in
    ap (λ (p : Bool). p && (not (get_or marks x false) && fresh (set marks x true) n l)) t
    ∙ ap (λ (p : Bool). p && below n l && (not (stands x l) && apart l && (not (get_or marks x false) && unmarked marks l))) (sym t))
    (lt_cases x n)

no_mark : (m x : ℕ) → get_or (replicate m false) x false ≡ false
no_mark zero x = refl
no_mark (suc m) zero = refl
no_mark (suc m) (suc x) = no_mark m x

none_marked : (m : ℕ) (l : List ℕ) → unmarked (replicate m false) l ≡ true
unfolding unmarked
none_marked m [] = refl
none_marked m (x ∷ l) = ap₂ (λ (a b : Bool). not a && b) (no_mark m x) (none_marked m l)

pub fresh_all : (n : ℕ) (l : List ℕ) → n ≤ 16 → fresh (replicate 16 false) n l ≡ (below n l && apart l)
fresh_all n l h =
    fresh_is (replicate 16 false) n l h
    ∙ ap (λ (t : Bool). below n l && t) (ap (λ (t : Bool). apart l && t) (none_marked 16 l) ∙ and-true (apart l))

-- one index on
module _ (row : List ℕ) (marks : List Bool) (n k : ℕ) where
  pub fresh_ends : length row ≤ k → fresh marks n (drop k row) ≡ true
  unfolding fresh
  fresh_ends h = ap (fresh marks n) (drop_of_length-le row {i = k} h)

  module _ (h : k < length row) where
    abbrev x : ℕ
    x = get_or row k 0

    abbrev rest : Bool
    rest = fresh (set marks x true) n (drop (suc k) row)

    opened : fresh marks n (drop k row) ≡ (ltb x n && (not (get_or marks x false) && rest))
    unfolding fresh
    opened = ap (fresh marks n) (drop-cons row k 0 h)

    pub too_high : n ≤ get_or row k 0 → fresh marks n (drop k row) ≡ false
    too_high b = opened ∙ first_not (ltb x n) (not (get_or marks x false) && rest) (le-ltb x n b)

    pub twice : get_or marks (get_or row k 0) false ≡ true → fresh marks n (drop k row) ≡ false
    twice b =
        opened ∙ last_not (ltb x n) (not (get_or marks x false) && rest) (first_not (not (get_or marks x false)) rest (ap not b))

    pub goes_on : get_or row k 0 < n → get_or marks (get_or row k 0) false ≡ false
        → fresh marks n (drop k row) ≡ fresh (set marks (get_or row k 0) true) n (drop (k + 1) row)
    goes_on b z =
        opened
        ∙ ap₂ (λ (p q : Bool). p && (not q && rest)) (lt-ltb x n b) z
        ∙ ap (λ (j : ℕ). fresh (set marks x true) n (drop j row)) (sym (add-one k))
