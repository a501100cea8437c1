-- Laws of the grades: no two channels that wait have one, the one with the least stands before all others of its line that are ready, and where
-- all that stand are ready it is the head.
-- Assumes nothing.
use mathlib.Core.Path.{◌≡◌, refl, sym, ap, ap₂, ◌∙◌}
use mathlib.Core.Bool.{Bool, true, false, ◌&&◌}
use mathlib.Core.Logic.{◌⊎◌, inl, inr, ⊎_elim}
use mathlib.Core.List.{List, ◌∷◌}
use Prim.Native.Nat.{ℕ, ◌+◌, ◌*◌, ◌≤◌, ◌<◌}
use native.Mathlib.Omega.{arith}
use Rattle.laws.proofs.Choice.{either_way, both, chosen, passed_by}
use Rattle.laws.proofs.Numbers.{lt_cases}
use lib.ListN.{length, get_or, take, drop, length-take, length-drop}
use Rattle.lines.specs.Lines.{stands, before, line_in, part_at, line_at, of_rank}
use Rattle.lines.specs.Grades.{place_in, grade_in, grade_of}
use Rattle.lines.proofs.LineLaws as line
use Rattle.lines.proofs.FitLaws as fit

-- ---- the place

pub place_there : (i : ℕ) (l : List ℕ) → stands i l ≡ true → place_in i l ≡ before i l
unfolding place_in
place_there i l e = chosen (stands i l) (before i l) 16 e

pub place_none : (i : ℕ) (l : List ℕ) → stands i l ≡ false → place_in i l ≡ 16
unfolding place_in
place_none i l e = passed_by (stands i l) (before i l) 16 e

-- it stands at a place below 16, or not at all
pub place_cases : (i : ℕ) (l : List ℕ) → length l ≤ 16
    → ((stands i l ≡ true) × (place_in i l ≡ before i l) × (place_in i l < 16)) ⊎ ((stands i l ≡ false) × (place_in i l ≡ 16))
place_cases i l short =
    either_way (stands i l)
    (λ e. inl (e, place_there i l e, omega (arith, place_there i l e, line.before_lt i l e, short)))
    (λ e. inr (e, place_none i l e))

-- whatever the octets are, a line has 16 at most
pub short_line : (rank : ℕ) (s : List ℕ) → length (line_at rank s) ≤ 16
unfolding line_in part_at
short_line rank s =
    let o = take 17 (drop (17 * rank) s) in
    omega (arith, length-take (get_or o 0 0) (drop 1 o), length-drop 1 o, length-take 17 (drop (17 * rank) s))

-- ---- the grade in one line

module _ (rank i : ℕ) (ready : Bool) (s : List ℕ) where
  pub grade_waits : ready ≡ true → stands i (line_at rank s) ≡ true → grade_in rank i ready s ≡ rank * 16 + before i (line_at rank s)
  unfolding grade_in
  grade_waits r e =
      chosen (ready && stands i (line_at rank s)) (rank * 16 + place_in i (line_at rank s)) 48 (ap₂ (λ (u v : Bool). u && v) r e)
      ∙ ap (λ (p : ℕ). rank * 16 + p) (place_there i (line_at rank s) e)

  pub grade_not : (ready && stands i (line_at rank s)) ≡ false → grade_in rank i ready s ≡ 48
  unfolding grade_in
  grade_not e = passed_by (ready && stands i (line_at rank s)) (rank * 16 + place_in i (line_at rank s)) 48 e

-- channel i waits in the line of a rank, and that gives its grade
pub record Waiting (rank i : ℕ) (ready : Bool) (s : List ℕ) (g : ℕ) : Type 0 where
  pub is_ready_lem : ready ≡ true
  pub standing : stands i (line_at rank s) ≡ true
  pub grade : g ≡ rank * 16 + before i (line_at rank s)
  pub near : before i (line_at rank s) < 16

pub in_cases : (rank i : ℕ) (ready : Bool) (s : List ℕ) → Waiting rank i ready s (grade_in rank i ready s) ⊎ (grade_in rank i ready s ≡ 48)
in_cases rank i ready s =
    either_way (ready && stands i (line_at rank s))
    (λ e.
    let h = both ready (stands i (line_at rank s)) e in
    inl
    (record {
      is_ready_lem = h.0;
      standing = h.1;
      grade = grade_waits rank i ready s h.0 h.1;
      near = omega (arith, line.before_lt i (line_at rank s) h.1, short_line rank s);
    }))
    (λ e. inr (grade_not rank i ready s e))

-- the grades of a rank, or 48
pub record Range (rank g : ℕ) : Type 0 where
  pub low : rank * 16 ≤ g
  pub high : g ≤ 48
  pub near : g < 48 → g < rank * 16 + 16

pub in_range : (rank i : ℕ) (ready : Bool) (s : List ℕ) → rank < 3 → Range rank (grade_in rank i ready s)
in_range rank i ready s known =
    ⊎_elim
    (λ w.
    let g = w.grade in
    let p = w.near in
    record { low = omega arith; high = omega arith; near = λ h. omega arith })
    (λ e. record { low = omega arith; high = omega arith; near = λ h. omega arith })
    (in_cases rank i ready s)

-- ---- the grade of a channel

module _ (i : ℕ) (r0 r1 r2 : Bool) (s : List ℕ) where
  -- it is none above that in any line
  pub grade_least : (rank : ℕ) → rank < 3 → grade_of i r0 r1 r2 s ≤ grade_in rank i (of_rank rank r0 r1 r2) s
  unfolding grade_of
  grade_least =
      fit.of_three (λ (k : ℕ). grade_of i r0 r1 r2 s ≤ grade_in k i (of_rank k r0 r1 r2) s) (omega arith) (omega arith) (omega arith)

  -- and where it is below 48, that in one of them
  pub record Found : Type 0 where
    pub rank : ℕ
    pub known : rank < 3
    pub waiting : Waiting rank i (of_rank rank r0 r1 r2) s (grade_of i r0 r1 r2 s)

  one : (rank : ℕ) → rank < 3 → grade_of i r0 r1 r2 s ≡ grade_in rank i (of_rank rank r0 r1 r2) s
      → Waiting rank i (of_rank rank r0 r1 r2) s (grade_in rank i (of_rank rank r0 r1 r2) s)
      → Found
  one rank known e w =
      record { rank = rank; known = known; waiting = record { is_ready_lem = w.is_ready_lem; standing = w.standing; grade = e ∙ w.grade; near = w.near } }

  -- the first rank of which it waits gives it
  a0 : Range 0 (grade_in 0 i r0 s)
  a0 = in_range 0 i r0 s (omega arith)

  a1 : Range 1 (grade_in 1 i r1 s)
  a1 = in_range 1 i r1 s (omega arith)

  a2 : Range 2 (grade_in 2 i r2 s)
  a2 = in_range 2 i r2 s (omega arith)

  pub first_rank : grade_in 0 i r0 s < 48 → grade_in 0 i r0 s ≡ grade_of i r0 r1 r2 s
  unfolding grade_of
  first_rank h = omega (arith, a0.near h, a1.low, a2.low)

  pub second_rank : 48 ≤ grade_in 0 i r0 s → grade_in 1 i r1 s < 48 → grade_in 1 i r1 s ≡ grade_of i r0 r1 r2 s
  unfolding grade_of
  second_rank g h = omega (arith, a1.near h, a2.low)

  pub third_rank : 48 ≤ grade_in 0 i r0 s → 48 ≤ grade_in 1 i r1 s → grade_in 2 i r2 s ≡ grade_of i r0 r1 r2 s
  unfolding grade_of
  third_rank g h = omega (arith, a2.high)

  pub found : grade_of i r0 r1 r2 s < 48 → Found
  unfolding grade_of
  found h =
      ⊎_elim
      (λ a. one 0 (omega arith) (sym (first_rank (omega (arith, a.grade, a.near)))) a)
      (λ a.
      ⊎_elim
      (λ b. one 1 (omega arith) (sym (second_rank (omega arith) (omega (arith, b.grade, b.near)))) b)
      (λ b.
      ⊎_elim
      (λ d. one 2 (omega arith) (sym (third_rank (omega arith) (omega arith))) d)
      (λ d. absurd (omega arith))
      (in_cases 2 i r2 s))
      (in_cases 1 i r1 s))
      (in_cases 0 i r0 s)

-- no two that wait have one grade
pub grades_apart : (i j : ℕ) (r0 r1 r2 q0 q1 q2 : Bool) (s : List ℕ)
    → grade_of i r0 r1 r2 s < 48
    → grade_of i r0 r1 r2 s ≡ grade_of j q0 q1 q2 s
    → i ≡ j
grades_apart i j r0 r1 r2 q0 q1 q2 s h e =
    let a = found i r0 r1 r2 s h in
    let b = found j q0 q1 q2 s (omega arith) in
    let u = a.waiting in
    let v = b.waiting in
    let same : b.rank ≡ a.rank = omega (arith, u.grade, v.grade, u.near, v.near) in
    let p : before i (line_at a.rank s) ≡ before j (line_at b.rank s) = omega (arith, u.grade, v.grade, u.near, v.near) in
    line.places_apart i j (line_at a.rank s) u.standing (p ∙ ap (λ (k : ℕ). before j (line_at k s)) same)

-- ---- who is served: j waits in a line, with a grade that is none above c's

module _ (rank j g : ℕ) (r : Bool) (s : List ℕ) (w : Waiting rank j r s g) (known : rank < 3) (c : ℕ) (c0 c1 c2 : Bool) where
  -- it stands before c, if c stands in that line and is ready
  pub served_before : g ≤ grade_of c c0 c1 c2 s → of_rank rank c0 c1 c2 ≡ true → stands c (line_at rank s) ≡ true → (j ≡ c → ⊥)
      → before j (line_at rank s) < before c (line_at rank s)
  served_before h ready e n =
      let at_most : before j (line_at rank s) ≤ before c (line_at rank s) =
      omega (arith, w.grade, grade_least c c0 c1 c2 s rank known, grade_waits rank c (of_rank rank c0 c1 c2) s ready e) in
      let not : before j (line_at rank s) ≡ before c (line_at rank s) → ⊥ = λ q. n (line.places_apart j c (line_at rank s) w.standing q) in
      ⊎_elim (λ l. l) (λ l. absurd (not (omega arith))) (lt_cases (before j (line_at rank s)) (before c (line_at rank s)))

  -- so it is the head, if the head is ready
  pub head_served : (t : List ℕ) → line_at rank s ≡ c ∷ t → g ≤ grade_of c c0 c1 c2 s → of_rank rank c0 c1 c2 ≡ true → j ≡ c
  head_served t e h ready =
      let first : before c (line_at rank s) ≡ 0 = ap (before c) e ∙ line.before_head c c t refl in
      let there : stands c (line_at rank s) ≡ true = ap (stands c) e ∙ line.stands_head c c t refl in
      ⊎_elim (λ q. q) (λ n. absurd (omega (arith, served_before h ready there n))) (line.same_or_not j c)
