-- Two that join in the same call stand by index: but for a tick only one can join, and a tick goes by index.
-- Assumes nothing.
use mathlib.Core.Path.{◌≡◌, sym, ap, ◌∙◌, subst}
use mathlib.Core.Bool.{Bool, true, false, false≢true}
use mathlib.Core.Logic.{⊎_elim}
use mathlib.Core.List.{List, [], ◌∷◌, map}
use Prim.Native.Nat.{ℕ, ◌+◌, ◌≤◌, ◌<◌}
use native.Mathlib.Omega.{arith}
use lib.ListN.{length}
use Rattle.laws.proofs.Choice.{either_way, by_test}
use Rattle.laws.proofs.Numbers.{lt_cases}
use Rattle.walks.specs.Serving.{Called, Changed}
use Rattle.lines.specs.Lines.{stands, joined, without, relisted, before, line_at, of_rank}
use Rattle.lines.specs.Fit.{fit_lines}
use Rattle.lines.proofs.FitLaws as fit
use Rattle.lines.proofs.LineLaws as line
use Rattle.lines.proofs.FairLaws.{joiner_behind, in_order}
use Rattle.channel.specs.declared.record.Channel.{Channel}
use Rattle.channel.specs.declared.answer.Answer.{Answer}
use Rattle.table.specs.declared.looking.Look.{Look}
use Rattle.table.specs.Waiting.{waits, rank_in, relisted_for, moved_by, may_move, moved}
use Rattle.table.specs.Looking.{chosen as choice}
use Rattle.table.specs.Lent.{passes}
use Rattle.table.specs.Serving.{Step, stored, serve_one}
use Rattle.table.proofs.ServeLaws.{passing_is}
use Rattle.table.proofs.WaitingLaws.{rank_known}
use Rattle.settings.specs.Configuring.{settled}
use Rattle.settings.proofs.Promises.{settings_done, settings_refused}
use Rattle.ticks.specs.Ticks.{tick_of, relisted_from}
use Rattle.node.specs.Calls.{look_in, step_for}
use Rattle.keeps.proofs.Serving.{worked, serve_cases}
use Rattle.fairness.specs.Fairness.{asks, tick, settings, ByIndex}
use Rattle.fairness.proofs.Moving.{moved_other}
use Rattle.fairness.proofs.Ticking.{earlier_stay}
use Rattle.fairness.proofs.Standing.{nobody_stands, ticked_lines, many, fits_now}

-- ---- others who leave or join do not change who stands first

order_without : (m i k : ℕ) (l : List ℕ) → (m ≡ i → ⊥) → (m ≡ k → ⊥) → before i l < before k l → before i (without m l) < before k (without m l)
unfolding without before
order_without m i k [] mi mk h = absurd (omega arith)
order_without m i k (x ∷ l) mi mk h =
    ⊎_elim
    (λ e.
    let xi = line.before_past x i l (λ q. mi (sym e ∙ q)) in
    let xk = line.before_past x k l (λ q. mk (sym e ∙ q)) in
    let rest = order_without m i k l mi mk (omega (arith, h, xi, xk)) in
    subst (λ (z : List ℕ). before i z < before k z) (sym (line.without_head x m l e)) rest)
    (λ n.
    subst (λ (z : List ℕ). before i z < before k z) (sym (line.without_past x m l n))
    (⊎_elim
    (λ e.
    let apart : x ≡ k → ⊥ = λ q. omega (arith, h, line.before_head x k l q) in
    omega (arith, line.before_head x i (without m l) e, line.before_past x k (without m l) apart))
    (λ e.
    let apart : x ≡ k → ⊥ = λ q. omega (arith, h, line.before_head x k l q) in
    let rest = order_without m i k l mi mk (omega (arith, h, line.before_past x i l e, line.before_past x k l apart)) in
    omega (arith, rest, line.before_past x i (without m l) e, line.before_past x k (without m l) apart))
    (line.same_or_not x i)))
    (line.same_or_not x m)

order_relisted : (m i k : ℕ) (ready : Bool) (l : List ℕ) → (m ≡ i → ⊥) → (m ≡ k → ⊥) → stands i l ≡ true → stands k l ≡ true → before i l < before k l
    → before i (relisted m ready l) < before k (relisted m ready l)
order_relisted m i k ready l mi mk si sk h =
    line.by_relisting (λ z. before i z < before k z) m ready l
    (λ r. line.by_joining (λ z. before i z < before k z) m l (λ s. h) (λ s. omega (arith, h, joiner_behind i l (m ∷ []) si, joiner_behind k l (m ∷ []) sk)))
    (λ r. order_without m i k l mi mk h)

-- ---- a tick

module _ (n q : ℕ) (known : q < 3) (i k : ℕ) (less : i < k) where
  abbrev First : List ℕ → Type 0
  First lines = before i (line_at q lines) < before k (line_at q lines)

  module _ (j : ℕ) (c : Channel) (t : List Channel) (lines : List ℕ) (h : j + length (c ∷ t) ≤ n) (e : fit_lines n lines ≡ true) where
    abbrev then : List ℕ
    then = relisted_for j c lines

    abbrev ready : Bool
    ready = of_rank q (waits 0 c) (waits 1 c) (waits 2 c)

    kept : fit_lines n then ≡ true
    kept = fit.relist_keeps n lines j (waits 0 c) (waits 1 c) (waits 2 c) (omega (arith, h)) e

    as_line : line_at q then ≡ relisted j ready (line_at q lines)
    as_line = fit.relisted_line n lines (fit.fit_facts n lines e) j (omega (arith, h)) (waits 0 c) (waits 1 c) (waits 2 c) q known

    others : (m : ℕ) → (j ≡ m → ⊥) → stands m (line_at q then) ≡ stands m (line_at q lines)
    others m apart = ap (stands m) as_line ∙ line.others_stand m j ready (line_at q lines) apart

    -- who stands at last stands as soon as its own turn is over
    at_last : (m : ℕ) → m ≤ j → stands m (line_at q (relisted_from (j + 1) t then)) ≡ true → stands m (line_at q then) ≡ true
    at_last m le y = sym (earlier_stay n q known (j + 1) t then (omega (arith, h)) kept m (omega (arith, le))) ∙ y

  -- both have had their turn
  both_stand : (j : ℕ) (t : List Channel) (lines : List ℕ) → j + length t ≤ n → fit_lines n lines ≡ true → k < j
      → stands i (line_at q lines) ≡ true → stands k (line_at q lines) ≡ true → First lines → First (relisted_from j t lines)
  unfolding relisted_from
  both_stand j [] lines h e past si sk f = f
  both_stand j (c ∷ t) lines h e past si sk f =
      let ni : j ≡ i → ⊥ = λ p. omega (arith, p, past, less) in
      let nk : j ≡ k → ⊥ = λ p. omega (arith, p, past) in
      both_stand (j + 1) t (relisted_for j c lines) (omega (arith, h)) (kept j c t lines h e) (omega (arith, past)) (others j c t lines h e i ni ∙ si) (others j c t lines h e k nk ∙ sk)
      (subst (λ (z : List ℕ). before i z < before k z) (sym (as_line j c t lines h e)) (order_relisted j i k (ready j c t lines h e) (line_at q lines) ni nk si sk f))

  -- i has joined, and k has not had its turn
  one_stands : (j : ℕ) (t : List Channel) (lines : List ℕ) → j + length t ≤ n → fit_lines n lines ≡ true → i < j → j ≤ k
      → stands i (line_at q lines) ≡ true → stands k (line_at q lines) ≡ false
      → stands k (line_at q (relisted_from j t lines)) ≡ true → First (relisted_from j t lines)
  unfolding relisted_from
  one_stands j [] lines h e past to si sk y = absurd (false≢true (sym sk ∙ y))
  one_stands j (c ∷ t) lines h e past to si sk y =
      ⊎_elim
      (λ p.
      let ni : j ≡ i → ⊥ = λ r. omega (arith, r, past) in
      let here : stands k (line_at q (relisted_for j c lines)) ≡ true = at_last j c t lines h e k (omega (arith, p)) y in
      let own : stands k (relisted k (ready j c t lines h e) (line_at q lines)) ≡ true =
      ap (λ (m : ℕ). stands k (relisted m (ready j c t lines h e) (line_at q lines))) (sym p) ∙ sym (ap (stands k) (as_line j c t lines h e)) ∙ here in
      let is = sym (line.stands_iff_ready k (ready j c t lines h e) (line_at q lines)) ∙ own in
      let joins : line_at q (relisted_for j c lines) ≡ joined k (line_at q lines) =
      as_line j c t lines h e ∙ ap (λ (m : ℕ). relisted m (ready j c t lines h e) (line_at q lines)) p ∙ line.relisted_ready k (ready j c t lines h e) (line_at q lines) is in
      both_stand (j + 1) t (relisted_for j c lines) (omega (arith, h)) (kept j c t lines h e) (omega (arith, p)) (others j c t lines h e i ni ∙ si) here
      (subst (λ (z : List ℕ). before i z < before k z) (sym joins) (in_order i k (line_at q lines) si sk)))
      (λ nk.
      let ni : j ≡ i → ⊥ = λ r. omega (arith, r, past) in
      one_stands (j + 1) t (relisted_for j c lines) (omega (arith, h)) (kept j c t lines h e) (omega (arith, past)) (apart_below nk to) (others j c t lines h e i ni ∙ si) (others j c t lines h e k nk ∙ sk) y)
      (line.same_or_not j k)
    where
      apart_below : (j ≡ k → ⊥) → j ≤ k → j + 1 ≤ k
      apart_below nk le = ⊎_elim (λ l. omega (arith, l)) (λ l. absurd (nk (omega (arith, l, le)))) (lt_cases j k)

  -- neither has had its turn
  none_stands : (j : ℕ) (t : List Channel) (lines : List ℕ) → j + length t ≤ n → fit_lines n lines ≡ true → j ≤ i
      → stands i (line_at q lines) ≡ false → stands k (line_at q lines) ≡ false
      → stands i (line_at q (relisted_from j t lines)) ≡ true → stands k (line_at q (relisted_from j t lines)) ≡ true → First (relisted_from j t lines)
  unfolding relisted_from
  none_stands j [] lines h e to si sk yi yk = absurd (false≢true (sym si ∙ yi))
  none_stands j (c ∷ t) lines h e to si sk yi yk =
      let nk : j ≡ k → ⊥ = λ r. omega (arith, r, to, less) in
      ⊎_elim
      (λ p.
      one_stands (j + 1) t (relisted_for j c lines) (omega (arith, h)) (kept j c t lines h e) (omega (arith, p)) (omega (arith, p, less)) (at_last j c t lines h e i (omega (arith, p)) yi) (others j c t lines h e k nk ∙ sk) yk)
      (λ ni.
      none_stands (j + 1) t (relisted_for j c lines) (omega (arith, h)) (kept j c t lines h e) (apart_below ni to) (others j c t lines h e i ni ∙ si) (others j c t lines h e k nk ∙ sk) yi yk)
      (line.same_or_not j i)
    where
      apart_below : (j ≡ i → ⊥) → j ≤ i → j + 1 ≤ i
      apart_below ni le = ⊎_elim (λ l. omega (arith, l)) (λ l. absurd (ni (omega (arith, l, le)))) (lt_cases j i)

-- ---- a call that serves one channel: no other joins

module _ (look : Look) (step : Step) (t : List Channel) (mem lens lines out : List ℕ) (e : passes t mem lens lines ≡ true) (i q : ℕ) (known : q < 3) (no : stands i (line_at q lines) ≡ false) where
  abbrev Joined : List ℕ → Type 0
  Joined l = stands i (line_at q l) ≡ true → (choice look lines t).at ≡ i

  stays_out : Joined lines
  stays_out y = absurd (false≢true (sym no ∙ y))

  one_joins : Joined (serve_one look step t mem lens lines out).lines
  unfolding stored moved
  one_joins =
      serve_cases look step t mem lens lines out (λ (g : Called Answer Channel). Joined g.lines) stays_out stays_out
      (λ lawful below g.
      let x = choice look lines t in
      let w = worked look step t mem lens lines out in
      by_test Joined (may_move w.made.answer) (moved_by look.sought (rank_in x.grade) x.at w.made.channel lines) lines
      (λ p y.
      ⊎_elim (λ r. r)
      (λ r.
      absurd (false≢true
      (sym (moved_other (length t) lines (passing_is t mem lens lines e).lined (rank_in x.grade) (rank_known x.grade) x.at below w.made.channel look.sought i q known r ∙ no) ∙ y)))
      (line.same_or_not x.at i))
      (λ p. stays_out))

-- ---- every call

pub by_index : ByIndex
by_index s sound (asks m x out) i k rank known less si sk yi yk =
    let look = look_in m x (length out) in
    let a = one_joins look (step_for m x) s.table s.mem s.lens s.lines out sound.tested i rank known si yi in
    let b = one_joins look (step_for m x) s.table s.mem s.lens s.lines out sound.tested k rank known sk yk in
    absurd (omega (arith, a, b, less))
by_index s sound tick i k rank known less si sk yi yk =
    subst (λ (l : List ℕ). stands i (line_at rank l) ≡ true → stands k (line_at rank l) ≡ true → before i (line_at rank l) < before k (line_at rank l)) (sym (ticked_lines s sound))
    (none_stands (length s.table) rank known i k less 0 (map tick_of s.table) s.lines (many s sound) (fits_now s sound) (omega arith) si sk) yi yk
by_index s sound (settings l) i k rank known less si sk yi yk =
    either_way (settled s.table s.mem s.lens s.lines l)
    (λ e.
    absurd (false≢true
    (sym (ap (λ (g : Changed Answer Channel). stands i (line_at rank g.lines)) (settings_done s.table s.mem s.lens s.lines l e) ∙ nobody_stands i rank known) ∙ yi)))
    (λ e.
    absurd (false≢true
    (sym (ap (λ (g : Changed Answer Channel). stands i (line_at rank g.lines)) (settings_refused s.table s.mem s.lens s.lines l e) ∙ si) ∙ yi)))
