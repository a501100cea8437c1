-- What a tick does to the lines, channel by channel.
-- Assumes nothing.
use mathlib.Core.Path.{◌≡◌, refl, sym, ap, ◌∙◌}
use mathlib.Core.Bool.{true}
use mathlib.Core.Logic.{⊎_elim}
use mathlib.Core.List.{List, [], ◌∷◌}
use Prim.Native.Nat.{ℕ, zero, suc, ◌+◌, ◌≤◌, ◌<◌}
use native.Mathlib.Nat.{not-suc-le-zero, le_of_suc-le-suc, le_refl}
use native.Mathlib.Omega.{arith}
use lib.ListN.{length}
use Rattle.lines.specs.Lines.{stands, before, line_at}
use Rattle.lines.specs.Fit.{fit_lines}
use Rattle.lines.proofs.FitLaws.{relist_keeps}
use Rattle.lines.proofs.LineLaws.{same_or_not}
use Rattle.channel.specs.declared.record.Channel.{Channel}
use Rattle.table.specs.declared.looking.Sought.{Sought}
use Rattle.table.specs.declared.looking.Sought.TheVariants.{Index}
use Rattle.table.specs.Waiting.{waits, relisted_for}
use Rattle.table.specs.Serving.{record_at}
use Rattle.ticks.specs.Ticks.{relisted_from}
use Rattle.fairness.proofs.Moving.{moved_self, moved_other, moved_place}

-- a relisting is what a request does
abbrev asked : Sought
asked = Index 0

module _ (n : ℕ) where
  pub from_fit : (j : ℕ) (t : List Channel) (lines : List ℕ) → j + length t ≤ n → fit_lines n lines ≡ true → fit_lines n (relisted_from j t lines) ≡ true
  unfolding relisted_from
  from_fit j [] lines h e = e
  from_fit j (c ∷ t) lines h e =
      from_fit (j + 1) t (relisted_for j c lines) (omega (arith, h)) (relist_keeps n lines j (waits 0 c) (waits 1 c) (waits 2 c) (omega (arith, h)) e)

  module _ (q : ℕ) (known : q < 3) where
    kept : (j : ℕ) (c : Channel) (t : List Channel) (lines : List ℕ) → j + length (c ∷ t) ≤ n → fit_lines n lines ≡ true → fit_lines n (relisted_for j c lines) ≡ true
    kept j c t lines h e = relist_keeps n lines j (waits 0 c) (waits 1 c) (waits 2 c) (omega (arith, h)) e

    -- those before it are left alone
    pub earlier_stay : (j : ℕ) (t : List Channel) (lines : List ℕ) → j + length t ≤ n → fit_lines n lines ≡ true → (i : ℕ) → i < j
        → stands i (line_at q (relisted_from j t lines)) ≡ stands i (line_at q lines)
    unfolding relisted_from
    earlier_stay j [] lines h e i less = refl
    earlier_stay j (c ∷ t) lines h e i less =
        earlier_stay (j + 1) t (relisted_for j c lines) (omega (arith, h)) (kept j c t lines h e) i (omega arith)
        ∙ moved_other n lines e 0 (omega arith) j (omega (arith, h)) c asked i q known (λ p. omega arith)

    -- each stands where it waits
    pub each_stands_lem : (j : ℕ) (t : List Channel) (lines : List ℕ) → j + length t ≤ n → fit_lines n lines ≡ true → (i : ℕ) → i < length t
        → stands (j + i) (line_at q (relisted_from j t lines)) ≡ waits q (record_at t i)
    unfolding relisted_from
    each_stands_lem j [] lines h e i less = absurd (not-suc-le-zero less)
    each_stands_lem j (c ∷ t) lines h e zero less =
        let first : j + 0 ≡ j = omega arith in
        ap (λ (k : ℕ). stands k (line_at q (relisted_from (j + 1) t (relisted_for j c lines)))) first
        ∙ earlier_stay (j + 1) t (relisted_for j c lines) (omega (arith, h)) (kept j c t lines h e) j (omega arith)
        ∙ moved_self n lines e 0 (omega arith) j (omega (arith, h)) c asked refl q known
    each_stands_lem j (c ∷ t) lines h e (suc i) less =
        let next : j + suc i ≡ j + 1 + i = omega arith in
        ap (λ (k : ℕ). stands k (line_at q (relisted_from (j + 1) t (relisted_for j c lines)))) next
        ∙ each_stands_lem (j + 1) t (relisted_for j c lines) (omega (arith, h)) (kept j c t lines h e) i (le_of_suc-le-suc less)

    -- who was in the line and still is, is not put back
    pub from_place : (j : ℕ) (t : List Channel) (lines : List ℕ) → j + length t ≤ n → fit_lines n lines ≡ true → (d : ℕ)
        → stands d (line_at q lines) ≡ true
        → stands d (line_at q (relisted_from j t lines)) ≡ true
        → before d (line_at q (relisted_from j t lines)) ≤ before d (line_at q lines)
    unfolding relisted_from
    from_place j [] lines h e d there still = le_refl (before d (line_at q lines))
    from_place j (c ∷ t) lines h e d there still =
        let fits = kept j c t lines h e in
        let here : stands d (line_at q (relisted_for j c lines)) ≡ true =
        ⊎_elim
        (λ p. sym (earlier_stay (j + 1) t (relisted_for j c lines) (omega (arith, h)) fits d (omega (arith, p))) ∙ still)
        (λ p. moved_other n lines e 0 (omega arith) j (omega (arith, h)) c asked d q known p ∙ there)
        (same_or_not j d) in
        let one = moved_place n lines e 0 (omega arith) j (omega (arith, h)) c d q known there asked refl here in
        let rest = from_place (j + 1) t (relisted_for j c lines) (omega (arith, h)) fits d here still in
        omega (arith, one, rest)
