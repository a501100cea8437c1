-- The test of the lines and the facts are one; whatever a call does keeps them; and what the lines are afterwards.
-- Assumes nothing.
use mathlib.Core.Path.{◌≡◌, refl, sym, ap, ap₂, ◌∙◌, subst}
use mathlib.Core.Bool.{Bool, true, ◌&&◌}
use mathlib.Core.Logic.{⊎_elim}
use mathlib.Core.List.{List, [], ◌∷◌, ◌++◌}
use Prim.Native.Nat.{ℕ, zero, suc, ◌+◌, ◌-◌, ◌≤◌, ◌<◌}
use native.Mathlib.Numerals.{add-one}
use native.Mathlib.Omega.{arith}
use borrow.Author.Tests.{lt-ltb, le-leb, leb-true, eq-eqb, eqb-true}
use lib.Dec.{eqb, leb, ltb}
use lib.ListN.{length, get_or, take, drop, replicate, take-append-drop, length-drop}
use lib.Seq.{length-take-le, drop-append_seam}
use Rattle.laws.proofs.Choice.{both, chosen}
use Rattle.lines.specs.Lines.{stands, without, relisted, line_octets, line_in, part_at, line_at, with_line, no_lines, relist_in, left_from, of_rank, relist_all, served_from}
use Rattle.lines.specs.Fit.{below, apart, blank, fit_line, fit_lines, relist_fit, Line, FitLine, Fit}
use Rattle.lines.proofs.LineLaws as line
use Rattle.lines.proofs.OctetLaws as octets

-- ---- zeros

blank_zeros : (t : List ℕ) → blank t ≡ true → t ≡ replicate (length t) 0
unfolding blank
blank_zeros [] e = refl
blank_zeros (x ∷ t) e =
    let h = both (eqb x 0) (blank t) e in
    ap₂ (λ (a : ℕ) (b : List ℕ). a ∷ b) (eqb-true x 0 h.0) (blank_zeros t h.1)

zeros_blank : (n : ℕ) → blank (replicate n 0) ≡ true
unfolding blank
zeros_blank zero = refl
zeros_blank (suc n) = zeros_blank n

-- ---- one line: its test and its facts

past : (x : ℕ) (t : List ℕ) → drop (x + 1) (x ∷ t) ≡ drop x t
past x t = ap (λ (k : ℕ). drop k (x ∷ t)) (add-one x)

pub fit_line_facts : (n : ℕ) (o : List ℕ) → n ≤ 16 → length o ≡ 17 → fit_line n o ≡ true → FitLine n o
unfolding fit_line line_in line_octets
fit_line_facts n [] few size e = absurd (omega arith)
fit_line_facts n (x ∷ t) few size e =
    let a = both (leb x 16 && (below n (take x t) && apart (take x t))) (blank (drop (x + 1) (x ∷ t))) e in
    let b = both (leb x 16) (below n (take x t) && apart (take x t)) a.0 in
    let c = both (below n (take x t)) (apart (take x t)) b.1 in
    let count : x ≤ 16 = leb-true x 16 b.0 in
    let as_long : length (take x t) ≡ x = length-take-le x t (omega arith) in
    let left : length (drop x t) ≡ 16 - length (take x t) = length-drop x t ∙ (omega arith) in
    let zeros : drop x t ≡ replicate (16 - length (take x t)) 0 =
    blank_zeros (drop x t) (ap blank (sym (past x t)) ∙ a.1) ∙ ap (λ (k : ℕ). replicate k 0) left in
    record {
      few = few;
      written = ap₂ (λ (p : ℕ) (q : List ℕ). p ∷ q) (sym as_long) (sym (take-append-drop x t) ∙ ap (λ (q : List ℕ). take x t ++ q) zeros);
      line = record { inside = c.0; once = c.1 };
    }

past_all : (l z : List ℕ) → drop (length l + 1) (length l ∷ (l ++ z)) ≡ z
past_all l z = past (length l) (l ++ z) ∙ drop-append_seam l z

octets_pass : (n : ℕ) (l : List ℕ) → length l ≤ 16 → Line n l → fit_line n (line_octets l) ≡ true
unfolding fit_line line_octets
octets_pass n l short h =
    let zeros = ap blank (past_all l (replicate (16 - length l) 0)) ∙ zeros_blank (16 - length l) in
    let lined = ap (λ (t : List ℕ). below n t && apart t) (octets.read_back l) ∙ ap₂ (λ (u v : Bool). u && v) h.inside h.once in
    ap₂ (λ (u v : Bool). u && v) (ap₂ (λ (u v : Bool). u && v) (le-leb (length l) 16 short) lined) zeros

pub short : (n : ℕ) (o : List ℕ) → FitLine n o → length (line_in o) ≤ 16
short n o h = omega (arith, h.few, line.at_most n (line_in o) h.line)

pub fit_line_test : (n : ℕ) (o : List ℕ) → FitLine n o → fit_line n o ≡ true
fit_line_test n o h = ap (fit_line n) h.written ∙ octets_pass n (line_in o) (short n o h) h.line

-- the octets of any line of n
pub fit_octets : (n : ℕ) (l : List ℕ) → n ≤ 16 → Line n l → FitLine n (line_octets l)
fit_octets n l few h =
    record { few = few; written = ap line_octets (sym (octets.read_back l)); line = rw (octets.read_back l) h }

-- what the code reads of one
pub count_of : (n : ℕ) (o : List ℕ) → FitLine n o → get_or o 0 0 ≡ length (line_in o)
unfolding line_octets
count_of n o h = ap (λ (t : List ℕ). get_or t 0 0) h.written

pub size_of : (n : ℕ) (o : List ℕ) → FitLine n o → length o ≡ 17
size_of n o h = ap length h.written ∙ octets.octets_length (line_in o) (short n o h)

pub record Counted (o : List ℕ) : Type 0 where
  pub count : get_or o 0 0 ≡ length (line_in o)
  pub few : length (line_in o) ≤ 16
  pub size : length o ≡ 17

pub counted : (o : List ℕ) → FitLine 16 o → Counted o
counted o h = record { count = count_of 16 o h; few = short 16 o h; size = size_of 16 o h }

-- ---- the three lines: their test and their facts

pub of_three : (P : ℕ → Type 0) → P 0 → P 1 → P 2 → (rank : ℕ) → rank < 3 → P rank
of_three P a b c zero h = a
of_three P a b c (suc zero) h = b
of_three P a b c (suc (suc zero)) h = c
of_three P a b c (suc (suc (suc k))) h = absurd (omega arith)

pub fit_facts : (n : ℕ) (s : List ℕ) → fit_lines n s ≡ true → Fit n s
unfolding fit_lines
fit_facts n s e =
    let d = both (leb n 16 && eqb (length s) 51 && fit_line n (part_at 0 s) && fit_line n (part_at 1 s)) (fit_line n (part_at 2 s)) e in
    let c = both (leb n 16 && eqb (length s) 51 && fit_line n (part_at 0 s)) (fit_line n (part_at 1 s)) d.0 in
    let b = both (leb n 16 && eqb (length s) 51) (fit_line n (part_at 0 s)) c.0 in
    let a = both (leb n 16) (eqb (length s) 51) b.0 in
    let few = leb-true n 16 a.0 in
    let size = eqb-true (length s) 51 a.1 in
    let one : (rank : ℕ) → rank < 3 → fit_line n (part_at rank s) ≡ true → FitLine n (part_at rank s) = λ rank h p.
    fit_line_facts n (part_at rank s) few (octets.part_length s rank size h) p in
    record { size = size; each = of_three (λ (k : ℕ). FitLine n (part_at k s)) (one 0 (omega arith) b.1) (one 1 (omega arith) c.1) (one 2 (omega arith) d.1) }

pub fit_test : (n : ℕ) (s : List ℕ) → Fit n s → fit_lines n s ≡ true
unfolding fit_lines
fit_test n s h =
    let first = h.each 0 (omega arith) in
    let a = ap₂ (λ (u v : Bool). u && v) (le-leb n 16 first.few) (eq-eqb (length s) 51 h.size) in
    let b = ap₂ (λ (u v : Bool). u && v) a (fit_line_test n (part_at 0 s) first) in
    let c = ap₂ (λ (u v : Bool). u && v) b (fit_line_test n (part_at 1 s) (h.each 1 (omega arith))) in
    ap₂ (λ (u v : Bool). u && v) c (fit_line_test n (part_at 2 s) (h.each 2 (omega arith)))

pub few_of : (n : ℕ) (s : List ℕ) → Fit n s → n ≤ 16
few_of n s h = (h.each 0 (omega arith)).few

pub line_of : (n : ℕ) (s : List ℕ) → Fit n s → (rank : ℕ) → rank < 3 → Line n (line_at rank s)
line_of n s h rank k = (h.each rank k).line

-- where nobody waits, as settings leave it
pub none_fit : (n : ℕ) → n ≤ 16 → fit_lines n no_lines ≡ true
unfolding fit_lines fit_line part_at line_in below apart blank
none_fit n h = ap (λ (t : Bool). t && true && true && true && true) (le-leb n 16 h)

-- lines of n records are lines of more
pub wider : (n m : ℕ) (s : List ℕ) → n ≤ m → m ≤ 16 → Fit n s → Fit m s
wider n m s h few f =
    record {
      size = f.size;
      each = λ rank k.
          let e = f.each rank k in
          record { few = few; written = e.written; line = record { inside = line.below_wider n m (line_at rank s) h e.line.inside; once = e.line.once } };
    }

-- what the steps ask, of lines that passed the test
pub tested : (n : ℕ) (s : List ℕ) → fit_lines n s ≡ true → Fit 16 s
tested n s e = let f = fit_facts n s e in wider n 16 s (few_of n s f) (omega arith) f

-- ---- what a call does keeps them

pub with_fit : (n : ℕ) (s : List ℕ) (rank : ℕ) (l : List ℕ) → Fit n s → rank < 3 → Line n l → Fit n (with_line rank l s)
with_fit n s rank l f known h =
    let few = few_of n s f in
    let short : length l ≤ 16 = omega (arith, line.at_most n l h) in
    record {
      size = octets.with_size s f.size rank known l short;
      each = λ q k.
          ⊎_elim
          (λ e.
          subst (FitLine n) (sym (ap (λ (r : ℕ). part_at r (with_line rank l s)) e ∙ octets.part_here s f.size rank known l short)) (fit_octets n l few h))
          (λ m. rw (octets.part_elsewhere s f.size rank known l short q m) (f.each q k))
          (line.same_or_not q rank);
    }

module _ (n : ℕ) (s : List ℕ) (f : Fit n s) (rank : ℕ) (known : rank < 3) (i : ℕ) where
  pub left_fit : Fit n (left_from rank i s)
  left_fit = with_fit n s rank (without i (line_at rank s)) f known (line.line_without n i (line_at rank s) (line_of n s f rank known))

  pub relist_fit_lem : (ready : Bool) → i < n → Fit n (relist_in rank i ready s)
  relist_fit_lem ready b =
      with_fit n s rank (relisted i ready (line_at rank s)) f known (line.line_relisted n i ready (line_at rank s) b (line_of n s f rank known))

  -- the line itself, and the others
  pub left_here : line_at rank (left_from rank i s) ≡ without i (line_at rank s)
  left_here =
      octets.line_here s f.size rank known (without i (line_at rank s))
      (omega (arith, few_of n s f, line.at_most n _ (line.line_without n i (line_at rank s) (line_of n s f rank known))))

  pub left_elsewhere : (q : ℕ) → (q ≡ rank → ⊥) → line_at q (left_from rank i s) ≡ line_at q s
  left_elsewhere =
      octets.line_elsewhere s f.size rank known (without i (line_at rank s))
      (omega (arith, few_of n s f, line.at_most n _ (line.line_without n i (line_at rank s) (line_of n s f rank known))))

  module _ (ready : Bool) (b : i < n) where
    pub short_then : length (relisted i ready (line_at rank s)) ≤ 16
    short_then = omega (arith, few_of n s f, line.at_most n _ (line.line_relisted n i ready (line_at rank s) b (line_of n s f rank known)))

    pub relist_here : line_at rank (relist_in rank i ready s) ≡ relisted i ready (line_at rank s)
    relist_here = octets.line_here s f.size rank known (relisted i ready (line_at rank s)) short_then

    pub relist_elsewhere : (q : ℕ) → (q ≡ rank → ⊥) → line_at q (relist_in rank i ready s) ≡ line_at q s
    relist_elsewhere = octets.line_elsewhere s f.size rank known (relisted i ready (line_at rank s)) short_then

module _ (n : ℕ) (s : List ℕ) (f : Fit n s) (i : ℕ) (b : i < n) (r0 r1 r2 : Bool) where
  after_0 : List ℕ
  after_0 = relist_in 0 i r0 s

  fit_0 : Fit n after_0
  unfolding after_0
  fit_0 = relist_fit_lem n s f 0 (omega arith) i r0 b

  after_1 : List ℕ
  after_1 = relist_in 1 i r1 after_0

  fit_1 : Fit n after_1
  unfolding after_1
  fit_1 = relist_fit_lem n after_0 fit_0 1 (omega arith) i r1 b

  pub relisted_fit : Fit n (relist_all i r0 r1 r2 s)
  unfolding relist_all after_0 after_1
  relisted_fit = relist_fit_lem n after_1 fit_1 2 (omega arith) i r2 b

  -- each line is relisted, by the readiness of its own rank
  pub relisted_line : (rank : ℕ) → rank < 3 → line_at rank (relist_all i r0 r1 r2 s) ≡ relisted i (of_rank rank r0 r1 r2) (line_at rank s)
  unfolding relist_all after_0 after_1
  relisted_line =
      of_three (λ (k : ℕ). line_at k (relist_all i r0 r1 r2 s) ≡ relisted i (of_rank k r0 r1 r2) (line_at k s))
      (relist_elsewhere n after_1 fit_1 2 (omega arith) i r2 b 0 (λ e. omega arith)
      ∙ relist_elsewhere n after_0 fit_0 1 (omega arith) i r1 b 0 (λ e. omega arith)
      ∙ relist_here n s f 0 (omega arith) i r0 b)
      (relist_elsewhere n after_1 fit_1 2 (omega arith) i r2 b 1 (λ e. omega arith)
      ∙ relist_here n after_0 fit_0 1 (omega arith) i r1 b
      ∙ ap (relisted i r1) (relist_elsewhere n s f 0 (omega arith) i r0 b 1 (λ e. omega arith)))
      (relist_here n after_1 fit_1 2 (omega arith) i r2 b
      ∙ ap (relisted i r2)
      (relist_elsewhere n after_0 fit_0 1 (omega arith) i r1 b 2 (λ e. omega arith)
      ∙ relist_elsewhere n s f 0 (omega arith) i r0 b 2 (λ e. omega arith)))

  -- so i stands in a line exactly if it is ready of that rank, and whether another stands is as it was
  pub standing_is_ready : (rank : ℕ) → rank < 3 → stands i (line_at rank (relist_all i r0 r1 r2 s)) ≡ of_rank rank r0 r1 r2
  standing_is_ready rank h = ap (stands i) (relisted_line rank h) ∙ line.stands_iff_ready i (of_rank rank r0 r1 r2) (line_at rank s)

  pub standing_stays : (j rank : ℕ) → rank < 3 → (i ≡ j → ⊥) → stands j (line_at rank (relist_all i r0 r1 r2 s)) ≡ stands j (line_at rank s)
  standing_stays j rank h m = ap (stands j) (relisted_line rank h) ∙ line.others_stand j i (of_rank rank r0 r1 r2) (line_at rank s) m

-- the same of a hand-out
module _ (n : ℕ) (s : List ℕ) (f : Fit n s) (rank : ℕ) (known : rank < 3) (i : ℕ) (b : i < n) (r0 r1 r2 : Bool) where
  pub served_fit : Fit n (served_from rank i r0 r1 r2 s)
  unfolding served_from
  served_fit = relisted_fit n (left_from rank i s) (left_fit n s f rank known i) i b r0 r1 r2

  pub served_line : (q : ℕ) → q < 3 → line_at q (served_from rank i r0 r1 r2 s) ≡ relisted i (of_rank q r0 r1 r2) (line_at q (left_from rank i s))
  unfolding served_from
  served_line = relisted_line n (left_from rank i s) (left_fit n s f rank known i) i b r0 r1 r2

  -- the line that it is handed out of, and the others
  pub served_here : line_at rank (served_from rank i r0 r1 r2 s) ≡ relisted i (of_rank rank r0 r1 r2) (without i (line_at rank s))
  served_here = served_line rank known ∙ ap (relisted i (of_rank rank r0 r1 r2)) (left_here n s f rank known i)

  pub served_elsewhere : (q : ℕ) → q < 3 → (q ≡ rank → ⊥) → line_at q (served_from rank i r0 r1 r2 s) ≡ relisted i (of_rank q r0 r1 r2) (line_at q s)
  served_elsewhere q h m = served_line q h ∙ ap (relisted i (of_rank q r0 r1 r2)) (left_elsewhere n s f rank known i q m)

  pub served_is_ready : (q : ℕ) → q < 3 → stands i (line_at q (served_from rank i r0 r1 r2 s)) ≡ of_rank q r0 r1 r2
  unfolding served_from
  served_is_ready = standing_is_ready n (left_from rank i s) (left_fit n s f rank known i) i b r0 r1 r2

  pub served_stays : (j q : ℕ) → q < 3 → (i ≡ j → ⊥) → stands j (line_at q (served_from rank i r0 r1 r2 s)) ≡ stands j (line_at q s)
  served_stays j q h m =
      ⊎_elim
      (λ e.
      ap (stands j) (ap (λ (k : ℕ). line_at k (served_from rank i r0 r1 r2 s)) e ∙ served_here)
      ∙ line.others_stand j i (of_rank rank r0 r1 r2) (without i (line_at rank s)) m
      ∙ line.others_stand_without j i (line_at rank s) m
      ∙ ap (λ (k : ℕ). stands j (line_at k s)) (sym e))
      (λ e. ap (stands j) (served_elsewhere q h e) ∙ line.others_stand j i (of_rank q r0 r1 r2) (line_at q s) m)
      (line.same_or_not q rank)

-- the test, kept
pub relist_keeps : (n : ℕ) (s : List ℕ) (i : ℕ) (r0 r1 r2 : Bool) → i < n → fit_lines n s ≡ true → fit_lines n (relist_all i r0 r1 r2 s) ≡ true
relist_keeps n s i r0 r1 r2 b e = fit_test n (relist_all i r0 r1 r2 s) (relisted_fit n s (fit_facts n s e) i b r0 r1 r2)

pub serve_keeps : (n : ℕ) (s : List ℕ) (rank i : ℕ) (r0 r1 r2 : Bool) → rank < 3 → i < n → fit_lines n s ≡ true
    → fit_lines n (served_from rank i r0 r1 r2 s) ≡ true
serve_keeps n s rank i r0 r1 r2 known b e =
    fit_test n (served_from rank i r0 r1 r2 s) (served_fit n s (fit_facts n s e) rank known i b r0 r1 r2)

-- ---- octets that may be no lines

module _ (i : ℕ) (r0 r1 r2 : Bool) (s : List ℕ) where
  pub listed_lines : i < 16 → fit_lines 16 s ≡ true → relist_fit i r0 r1 r2 s ≡ relist_all i r0 r1 r2 s
  unfolding relist_fit
  listed_lines h e =
      chosen (ltb i 16 && fit_lines 16 s) (relist_all i r0 r1 r2 s) s (ap₂ (λ (a b : Bool). a && b) (lt-ltb i 16 h) e)
