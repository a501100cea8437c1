-- At most fifteen: one call after another, whoever is handed out of the rank stood before c, and nobody else comes before it.
-- Assumes nothing.
use mathlib.Core.Path.{◌≡◌, refl, sym, ap, ◌∙◌, subst}
use mathlib.Core.Bool.{Bool, true, false, ◌&&◌, true≢false}
use mathlib.Core.Logic.{◌⊎◌, inl, inr, ⊎_elim}
use mathlib.Core.List.{List, [], ◌∷◌, map}
use Prim.Native.Nat.{ℕ, ◌+◌, ◌≤◌, ◌<◌}
use native.Mathlib.Omega.{arith}
use borrow.Author.Tests.{eqb-true, eqb-false, ltb-true}
use lib.Dec.{ltb, eqb}
use lib.ListN.{length}
use Rattle.std.specs.Prelude.{if◌then◌else◌}
use Rattle.laws.proofs.Choice.{either_way, by_test}
use Rattle.walks.specs.Serving.{Called}
use Rattle.lines.specs.Lines.{stands, before, line_at}
use Rattle.lines.specs.Fit.{fit_lines}
use Rattle.lines.proofs.FitLaws as fit
use Rattle.lines.proofs.LineLaws as line
use Rattle.lines.proofs.GradeLaws.{Waiting, served_before}
use Rattle.channel.specs.declared.record.Node.{Node}
use Rattle.channel.specs.declared.record.Settings.{Settings}
use Rattle.channel.specs.declared.record.Channel.{Channel}
use Rattle.channel.specs.declared.answer.Answer.{Answer}
use Rattle.channel.specs.declared.answer.Refusal.TheVariants as refusal
use Rattle.channel.specs.Answers.{number_of}
use Rattle.channel.specs.Steps.{refusing, doing}
use Rattle.channel.specs.declared.step.Stepped.{Stepped}
use Rattle.sender_packets.specs.HandingOut.{next_length, next_out, hand_step}
use Rattle.table.specs.declared.looking.Look.{Look}
use Rattle.table.specs.declared.looking.Sought.TheVariants.{Ready}
use Rattle.table.specs.Waiting.{waits, rank_in, served_for, moved_by, may_move, moved}
use Rattle.table.specs.Looking.{seeking, chosen as choice, is_found}
use Rattle.table.specs.Serving.{record_at, own_lens, Step, stored, serve_one, index_served}
use Rattle.table.proofs.ServeLaws.{Lawful, passing_is, found_below, found_suits}
use Rattle.table.proofs.WaitingLaws.{of_rank_waits, rank_known, turn_is}
use Rattle.requests.specs.Handing.{next_for}
use Rattle.walks.specs.Serving.{Changed}
use Rattle.settings.specs.Configuring.{settled}
use Rattle.settings.proofs.Promises.{settings_done, settings_refused}
use Rattle.ticks.specs.Ticks.{tick_of}
use Rattle.node.specs.declared.request.Request.TheVariants.{Open, Close, Transfer, WouldTransfer, Take, Reclaim, Arrival, NextPacket, Unknown}
use Rattle.node.specs.Calls.{look_in, step_for}
use Rattle.keeps.proofs.Serving.{worked, serve_cases, serve_missing, serve_found}
use Rattle.fairness.specs.Fairness.{Lent, Call, asks, tick, settings, after, Sound, next_rank, hands_out, hands_out_of, hand_outs, WaitsThrough, Fifteen}
use Rattle.fairness.proofs.Chosen.{chosen_least}
use Rattle.fairness.proofs.Moving.{is_handing, moved_place, served_place, served_lowers}
use Rattle.fairness.proofs.Ticking.{from_place}
use Rattle.fairness.proofs.Standing.{arrival_not, nobody_stands, keeps_sound, ticked_lines, many, fits_now}

-- ---- who is next stands before everybody else who is ready

module _ (s : Lent) (sound : Sound s) where
  abbrev t : List Channel
  t = s.table

  abbrev lines : List ℕ
  lines = s.lines

  abbrev pub next : ℕ
  next = (choice (seeking Ready) lines t).at

  abbrev pub grade : ℕ
  grade = (choice (seeking Ready) lines t).grade

  pub fits : fit_lines (length t) lines ≡ true
  fits = (passing_is t s.mem s.lens lines sound.tested).lined

  h : Lawful t s.mem s.lens
  h = (passing_is t s.mem s.lens lines sound.tested).lawful

  module _ (found : grade < 48) where
    pub next_waiting : Waiting (rank_in grade) next (waits (rank_in grade) (record_at t next)) lines grade
    next_waiting =
        let e = found_suits (seeking Ready) lines t s.mem s.lens h found in
        subst (λ (g : ℕ). Waiting (rank_in g) next (waits (rank_in g) (record_at t next)) lines g) (sym e)
        (turn_is next (record_at t next) lines (subst (λ (g : ℕ). g < 48) e found)).waiting

    pub next_first : (c : ℕ) → stands c (line_at (rank_in grade) lines) ≡ true → (next ≡ c → ⊥)
        → before next (line_at (rank_in grade) lines) < before c (line_at (rank_in grade) lines)
    next_first c there apart =
        let known = rank_known grade in
        let below = line.below_stands (length t) c (line_at (rank_in grade) lines) (fit.line_of (length t) lines (fit.fit_facts (length t) lines fits) (rank_in grade) known).inside there in
        let k = record_at t c in
        served_before (rank_in grade) next grade (waits (rank_in grade) (record_at t next)) lines next_waiting known c (waits 0 k) (waits 1 k) (waits 2 k)
        (chosen_least (seeking Ready) lines t c below)
        (of_rank_waits k (rank_in grade) known ∙ sym (sound.stood c (rank_in grade) below known) ∙ there)
        there apart

-- ---- what one call does to c's place, so many being handed out

module _ (s : Lent) (sound : Sound s) (c rank : ℕ) (known : rank < 3) (there : stands c (line_at rank s.lines) ≡ true) where
  abbrev place : ℕ
  place = before c (line_at rank s.lines)

  abbrev Fair : ℕ → List ℕ → Type 0
  Fair n l = (n ≤ place) × (stands c (line_at rank l) ≡ true → n + before c (line_at rank l) ≤ place)

  unmoved : Fair 0 s.lines
  unmoved = (omega arith, λ q. omega arith)

  by_request : (look : Look) (step : Step) (out : List ℕ) → is_handing look.sought ≡ false
      → Fair 0 (serve_one look step s.table s.mem s.lens s.lines out).lines
  unfolding stored moved
  by_request look step out m =
      serve_cases look step s.table s.mem s.lens s.lines out (λ (g : Called Answer Channel). Fair 0 g.lines) unmoved unmoved
      (λ lawful below g.
      let x = choice look s.lines s.table in
      let w = worked look step s.table s.mem s.lens s.lines out in
      by_test (Fair 0) (may_move w.made.answer) (moved_by look.sought (rank_in x.grade) x.at w.made.channel s.lines) s.lines
      (λ p. (
        omega arith,
        λ q.
            let k = moved_place (length s.table) s.lines (fits s sound) (rank_in x.grade) (rank_known x.grade) x.at below w.made.channel c rank known there look.sought m q in
            omega (arith, k),
      ))
      (λ p. unmoved))

  -- ---- the next packet, by what its step has made

  abbrev handed : Stepped → Bool
  handed m = eqb (number_of m.answer) 0 && eqb (next_rank s) rank

  abbrev one : Bool → ℕ
  one b = if b then 1 else 0

  Made : Stepped → Type 0
  Made m = (handed m && eqb (next s sound) c) ≡ false → Fair (one (handed m)) (moved Ready (next_rank s) (next s sound) m s.lines)

  module _ (found : grade s sound < 48) where
    below : next s sound < length s.table
    below = found_below (seeking Ready) s.lines s.table s.mem s.lens (h s sound) found

    -- a packet of the rank goes out, of one that stood before c
    handed_fair : (k : Channel) → next_rank s ≡ rank → (next s sound ≡ c → ⊥) → Fair 1 (served_for (next_rank s) (next s sound) k s.lines)
    handed_fair k e apart =
        subst (λ (r : ℕ). stands c (line_at r s.lines) ≡ true → Placed r) e own there
      where
        Placed : ℕ → Type 0
        Placed r =
            (1 ≤ before c (line_at r s.lines))
            × (stands c (line_at r (served_for (next_rank s) (next s sound) k s.lines)) ≡ true
            → 1 + before c (line_at r (served_for (next_rank s) (next s sound) k s.lines)) ≤ before c (line_at r s.lines))

        own : stands c (line_at (next_rank s) s.lines) ≡ true → Placed (next_rank s)
        own here =
            let ahead = next_first s sound found c here apart in
            let lower = served_lowers (length s.table) s.lines (fits s sound) (next_rank s) (rank_known (grade s sound)) (next s sound) below k c here ahead in
            (omega (arith, lower), λ q. omega (arith, lower))

    made_done : (k : Channel) (n : ℕ) → Made (doing k n)
    unfolding Made moved
    made_done k n = by_rank (eqb (next_rank s) rank) refl
      where
        by_rank : (b : Bool) → eqb (next_rank s) rank ≡ b
            → (b && eqb (next s sound) c) ≡ false → Fair (one b) (served_for (next_rank s) (next s sound) k s.lines)
        by_rank true e own = handed_fair k (eqb-true _ _ e) (eqb-false (next s sound) c own)
        by_rank false e own = (
          omega arith,
          λ q.
              let k2 = served_place (length s.table) s.lines (fits s sound) (next_rank s) (rank_known (grade s sound)) (next s sound) below k c rank known there (λ p. eqb-false _ _ e (sym p)) q in
              omega (arith, k2),
        )

    made_refused : (k : Channel) (n : ℕ) → Made (refusing k (refusal.Small n))
    unfolding Made moved
    made_refused k n own = unmoved

    made_step : (lens : List ℕ) (n : ℕ) → Made (hand_step (record_at s.table (next s sound)) lens (next_rank s) n)
    unfolding hand_step
    made_step lens n =
        let k = record_at s.table (next s sound) in
        let m = next_length k lens (next_rank s) in
        by_test Made (ltb n m) (refusing k (refusal.Small m)) (doing (next_out k (next_rank s)) m) (λ p. made_refused k m) (λ p. made_done (next_out k (next_rank s)) m)

  abbrev Wanted : Called Answer Channel → ℕ → Type 0
  Wanted g i =
      ((eqb (number_of g.answer) 0 && eqb (next_rank s) rank) && eqb i c) ≡ false → Fair (one (eqb (number_of g.answer) 0 && eqb (next_rank s) rank)) g.lines

  stored_fair : (node : Node) (out : List ℕ) → grade s sound < 48
      → Wanted (stored Ready s.table s.mem s.lens s.lines (choice (seeking Ready) s.lines s.table) (worked (seeking Ready) (next_for node) s.table s.mem s.lens s.lines out)) (next s sound)
  unfolding stored next_for Made
  stored_fair node out found = made_step found (own_lens s.table (next s sound) s.lens) (length out)

  by_next : (node : Node) (x out : List ℕ) → hands_out_of c rank (asks (NextPacket node) x out) s ≡ false
      → Fair (one (hands_out rank (asks (NextPacket node) x out) s)) (after (asks (NextPacket node) x out) s).lines
  unfolding index_served
  by_next node x out = by_found (is_found (choice (seeking Ready) s.lines s.table)) refl
    where
      done : Called Answer Channel
      done = serve_one (seeking Ready) (next_for node) s.table s.mem s.lens s.lines out

      index : ℕ
      index = index_served (seeking Ready) s.table s.mem s.lens s.lines

      by_found : (b : Bool) → is_found (choice (seeking Ready) s.lines s.table) ≡ b → Wanted done index
      by_found true f =
          let found = ltb-true (grade s sound) 48 f in
          let told : index ≡ next s sound = simp (sound.tested, f) in
          subst (Wanted done) (sym told)
          (subst (λ (g : Called Answer Channel). Wanted g (next s sound)) (sym (serve_found (seeking Ready) (next_for node) s.table s.mem s.lens s.lines out sound.tested f))
          (stored_fair node out found))
      by_found false f =
          subst (λ (g : Called Answer Channel). Wanted g index) (sym (serve_missing (seeking Ready) (next_for node) s.table s.mem s.lens s.lines out sound.tested f))
          (λ own. unmoved)

  -- ---- a tick, and settings

  by_tick : Fair 0 (after tick s).lines
  by_tick =
      subst (Fair 0) (sym (ticked_lines s sound))
      (omega arith, λ q. omega (arith, from_place (length s.table) rank known 0 (map tick_of s.table) s.lines (many s sound) (fits_now s sound) c there q))

  by_settings : (l : List Settings) → Fair 0 (after (settings l) s).lines
  by_settings l =
      either_way (settled s.table s.mem s.lens s.lines l)
      (λ e.
      subst (Fair 0) (sym (ap (λ (g : Changed Answer Channel). g.lines) (settings_done s.table s.mem s.lens s.lines l e)))
      (omega arith, λ q. absurd (true≢false (sym q ∙ nobody_stands c rank known))))
      (λ e. subst (Fair 0) (sym (ap (λ (g : Changed Answer Channel). g.lines) (settings_refused s.table s.mem s.lens s.lines l e))) unmoved)

  -- ---- every call

  call_fair : (x : Call) → hands_out_of c rank x s ≡ false → Fair (one (hands_out rank x s)) (after x s).lines
  call_fair (asks (Open index) x out) own = by_request (look_in (Open index) x (length out)) (step_for (Open index) x) out refl
  call_fair (asks (Close index) x out) own = by_request (look_in (Close index) x (length out)) (step_for (Close index) x) out refl
  call_fair (asks (Transfer index) x out) own = by_request (look_in (Transfer index) x (length out)) (step_for (Transfer index) x) out refl
  call_fair (asks (WouldTransfer index count) x out) own = by_request (look_in (WouldTransfer index count) x (length out)) (step_for (WouldTransfer index count) x) out refl
  call_fair (asks (Take index) x out) own = by_request (look_in (Take index) x (length out)) (step_for (Take index) x) out refl
  call_fair (asks (Reclaim index) x out) own = by_request (look_in (Reclaim index) x (length out)) (step_for (Reclaim index) x) out refl
  call_fair (asks (Arrival node) x out) own =
      by_request (look_in (Arrival node) x (length out)) (step_for (Arrival node) x) out (arrival_not is_handing (λ f start n. refl) (λ why. refl) node x (length out))
  call_fair (asks (NextPacket node) x out) own = by_next node x out own
  call_fair (asks Unknown x out) own = by_request (look_in Unknown x (length out)) (step_for Unknown x) out refl
  call_fair tick own = by_tick
  call_fair (settings l) own = by_settings l

-- ---- one call after another

module _ (c rank : ℕ) (known : rank < 3) where
  -- nothing more happens, or c stands
  goes_on : (calls : List Call) (s : Lent) → WaitsThrough c rank calls s → (hand_outs rank calls s ≡ 0) ⊎ (stands c (line_at rank s.lines) ≡ true)
  goes_on [] s w = inl refl
  goes_on (x ∷ l) s w = inr w.0

  as_many : (calls : List Call) (s : Lent) → Sound s → WaitsThrough c rank calls s → hand_outs rank calls s ≤ before c (line_at rank s.lines)
  as_many [] s sound w = omega arith
  as_many (x ∷ l) s sound w =
      let f = call_fair s sound c rank known w.0 x w.1 in
      let rest = as_many l (after x s) (keeps_sound x s sound) w.2 in
      ⊎_elim (λ z. omega (arith, f.0, z)) (λ q. omega (arith, f.1 q, rest)) (goes_on l (after x s) w.2)

-- document 02, A4: 'at most fifteen packets of that rank are handed out before its own'
pub fifteen : Fifteen
fifteen s sound c rank known calls w =
    let p = as_many c rank known calls s sound w in
    let l = line_at rank s.lines in
    let f = fit.fit_facts (length s.table) s.lines (fits s sound) in
    (p, ⊎_elim (λ z. omega (arith, z)) (λ q. omega (arith, p, line.before_lt c l q, line.at_most (length s.table) l (fit.line_of (length s.table) s.lines f rank known), (h s sound).few)) (goes_on c rank known calls s w))
