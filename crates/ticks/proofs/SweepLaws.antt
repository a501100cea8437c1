-- The tick of a table: the sweep amounts to each channel ticked alone, and a table that passes the test for 13 may be swept.
-- Assumes nothing.
use mathlib.Core.Path.{◌≡◌, refl, sym, ap, ap₂, ◌∙◌}
use mathlib.Core.Bool.{Bool, true, false}
use mathlib.Core.List.{List, [], ◌∷◌, map}
use Prim.Native.Nat.{ℕ, suc, ◌+◌, ◌≤◌}
use native.Mathlib.Nat.{zero-add}
use native.Mathlib.Omega.{arith}
use borrow.Author.Tests.{lt-ltb, eq-eqb}
use lib.Dec.{ltb, eqb}
use lib.ListN.{length, get_or}
use Rattle.walks.specs.Sweep.{sweep_t, sweep_a, Every}
use Rattle.walks.specs.Serving.{Changed, changes, telling, done_by}
use Rattle.channel.specs.declared.record.Channel.{Channel}
use Rattle.channel.specs.declared.answer.Answer.TheVariants.{Done, Inactive, Refused}
use Rattle.channel.specs.declared.answer.Refusal.TheVariants as refusal
use Rattle.channel.proofs.StandingLaws.{stands_is, ringed}
use Rattle.lines.specs.Lines.{no_lines}
use Rattle.lines.specs.Fit.{fit_lines}
use Rattle.lines.proofs.FitLaws.{few_of, fit_facts, fit_test, tested, listed_lines, relist_keeps}
use Rattle.std.specs.Prelude.{Some, is_some}
use Rattle.laws.proofs.Choice.{chosen}
use Rattle.table.specs.Waiting.{waits, relisted_for}
use Rattle.table.specs.declared.looking.Sought.TheVariants.{Nobody}
use Rattle.table.specs.Looking.{seeking}
use Rattle.table.specs.Lent.{passes}
use Rattle.table.specs.declared.deciding.Told.{Told}
use Rattle.table.specs.Serving.{blank, told_of}
use Rattle.table.specs.Surveying.{begun, surveyed, is_sound}
use Rattle.table.proofs.SurveyLaws.{each_stands_lem}
use Rattle.table.proofs.ServeLaws.{sound_passes, passing_is}
use Rattle.ticks.specs.declared.ticking.First.{First}
use Rattle.ticks.specs.declared.ticking.Round.{Round}
use Rattle.ticks.specs.Ticking.{ticked_by, quiet, first_by, next_at, lined_by, round_by}
use Rattle.ticks.proofs.TickLaws.{round_told, round_first, round_on}
use Rattle.ticks.specs.Ticks.{tick_of, any_inactive, first_inactive, tick_answer, ticked, tick_index, ticks, swept_table, swept_round, relisted_from, tick_start, tick_end, end_lines}

add_zero : (i : ℕ) → i + 0 ≡ i
add_zero i = omega arith

add_suc_one : (i n : ℕ) → i + 1 + n ≡ i + suc n
add_suc_one i n = omega arith

pub swept_table_lem : (t : List Channel) (r : Round) → swept_table t r ≡ map tick_of t
unfolding sweep_t
swept_table_lem [] r = refl
swept_table_lem (c ∷ t) r = ap (λ (l : List Channel). tick_of c ∷ l) (swept_table_lem t (round_by (ticked_by c) r))

-- the first that went inactive, whatever the place and the lines are
abbrev first_round : First → ℕ → List ℕ → Round
first_round f at lines = record { first = f; at = at; lines = lines }

-- once one is told, nothing after it changes that
swept_told : (t : List Channel) (r : Round) → is_some r.first.reason ≡ true → (swept_round t r).first ≡ r.first
unfolding sweep_a
swept_told [] r e = refl
swept_told (c ∷ t) r e =
    let same = round_told (ticked_by c) r.first e in
    swept_told t (round_by (ticked_by c) r) (ap (λ (f : First). is_some f.reason) same ∙ e) ∙ same

-- of a sweep before whose channels, i of them, none went inactive: what it tells
pub swept_end : (t : List Channel) (i at : ℕ) (lines : List ℕ) → i + length t ≤ 16
    → tick_end (swept_round t (first_round (quiet i) at lines)) ≡ told_of (i + first_inactive t) (tick_answer t)
unfolding sweep_a any_inactive first_inactive
swept_end [] i at lines h = ap (λ (n : ℕ). told_of n (Done 0 0)) (omega arith)
swept_end (c ∷ t) i at lines h = go (ticked_by c).inactive refl (swept_end t (i + 1) (next_at at) then (omega (arith, h)))
  where
    then : List ℕ
    then = lined_by at (ticked_by c).channel lines

    first : First
    first = record { index = i; reason = Some (ticked_by c).channel.phase.reason }

    go : (b : Bool) → (ticked_by c).inactive ≡ b
        → tick_end (swept_round t (first_round (quiet (i + 1)) (next_at at) then)) ≡ told_of (i + 1 + first_inactive t) (tick_answer t)
        → tick_end (swept_round (c ∷ t) (first_round (quiet i) at lines)) ≡ told_of (i + first_inactive (c ∷ t)) (tick_answer (c ∷ t))
    go true e next =
        ap (λ (f : First). tick_end (swept_round t (first_round f (next_at at) then))) (round_first (ticked_by c) (quiet i) refl e)
        ∙ ap (λ (f : First). tick_end (first_round f 0 [])) (swept_told t (first_round first (next_at at) then) refl)
        ∙ sym (simp (e) (ap (λ (n : ℕ). told_of n (Inactive (ticked_by c).channel.phase.reason)) (add_zero i)))
    go false e next =
        ap (λ (f : First). tick_end (swept_round t (first_round f (next_at at) then))) (round_on (ticked_by c) (quiet i) refl e (omega (arith, h)))
        ∙ next
        ∙ ap (λ (n : ℕ). told_of n (tick_answer t)) (add_suc_one i (first_inactive t))
        ∙ sym (simp (e) refl)

-- the lines, channel by channel
swept_lines : (n : ℕ) (t : List Channel) (f : First) (i : ℕ) (lines : List ℕ) → i + length t ≤ n → fit_lines n lines ≡ true
    → (swept_round t (first_round f i lines)).lines ≡ relisted_from i (map tick_of t) lines
unfolding sweep_a relisted_from
swept_lines n [] f i lines h e = refl
swept_lines n (c ∷ t) f i lines h e =
    let few = few_of n lines (fit_facts n lines e) in
    let d = tick_of c in
    let here : lined_by i d lines ≡ relisted_for i d lines =
    listed_lines i (waits 0 d) (waits 1 d) (waits 2 d) lines (omega (arith, few, h)) (fit_test 16 lines (tested n lines e)) in
    let on : next_at i ≡ i + 1 = chosen (ltb i 16) (i + 1) i (lt-ltb i 16 (omega (arith, few, h))) in
    ap₂ (λ (k : ℕ) (l : List ℕ). (swept_round t (first_round (first_by (ticked_by c) f) k l)).lines) on here
    ∙ swept_lines n t (first_by (ticked_by c) f) (i + 1) (relisted_for i d lines) (omega (arith, h))
    (relist_keeps n lines i (waits 0 d) (waits 1 d) (waits 2 d) (omega (arith, h)) e)

pub may_tick : (t : List Channel) (mem lens lines : List ℕ)
    → is_sound (surveyed t lens (begun (seeking (Nobody refusal.NoChannel)) lines)) (length t) (length mem) (length lens) ≡ true → Every blank ticks t
may_tick t mem lens lines e i l =
    let h = (passing_is t mem lens lines (sym (sound_passes (seeking (Nobody refusal.NoChannel)) t lens lines mem) ∙ e)).lawful in
    ringed (get_or t i blank) _ (stands_is (get_or t i blank) _ (each_stands_lem t lens h.stand i l))

-- what is told of a table that does not pass the test
abbrev refused : List Channel → Told
refused t = told_of (length t) (Refused refusal.Settings)

pub tick_agreed : (t : List Channel) (mem lens lines : List ℕ)
    → done_by (refused t) (is_sound (surveyed t lens (begun (seeking (Nobody refusal.NoChannel)) lines)) (length t) (length mem) (length lens)) t lines
    (changes (tick_end (swept_round t (tick_start lines))) (swept_table t (tick_start lines)) (end_lines (swept_round t (tick_start lines)) lines))
    ≡ telling (told_of (tick_index t mem lens lines)) (ticked t mem lens lines)
unfolding done_by ticked tick_index
tick_agreed t mem lens lines =
    ap (λ (b : Bool). done_by (refused t) b t lines swept) (sound_passes (seeking (Nobody refusal.NoChannel)) t lens lines mem)
    ∙ go (passes t mem lens lines) refl
  where
    swept : Changed Told Channel
    swept = changes (tick_end (swept_round t (tick_start lines))) (swept_table t (tick_start lines)) (end_lines (swept_round t (tick_start lines)) lines)

    go : (b : Bool) → passes t mem lens lines ≡ b
        → done_by (refused t) (passes t mem lens lines) t lines swept ≡ telling (told_of (tick_index t mem lens lines)) (ticked t mem lens lines)
    go true e =
        let p = passing_is t mem lens lines e in
        let few = p.lawful.few in
        let size = eq-eqb (length lines) 51 (fit_facts (length t) lines p.lined).size in
        let from : tick_start lines ≡ first_round (quiet 0) 0 lines = ap (first_round (quiet 0) 0) (chosen (eqb (length lines) 51) lines no_lines size) in
        let end = ap (λ (r : Round). tick_end (swept_round t r)) from ∙ swept_end t 0 0 lines (omega (arith, few)) ∙ ap (λ (n : ℕ). told_of n (tick_answer t)) (zero-add (first_inactive t)) in
        let lined =
        chosen (eqb (length lines) 51) (swept_round t (tick_start lines)).lines lines size
        ∙ ap (λ (r : Round). (swept_round t r).lines) from
        ∙ swept_lines (length t) t (quiet 0) 0 lines (omega arith) p.lined in
        simp (e)
        (ap₂ (λ (x : Told) (l : List Channel). changes x l (end_lines (swept_round t (tick_start lines)) lines)) end (swept_table_lem t (tick_start lines))
        ∙ ap (changes (told_of (first_inactive t) (tick_answer t)) (map tick_of t)) lined)
    go false e = simp (e)
