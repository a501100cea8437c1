-- Settings make a node sound, and every call keeps it so: the test for 13, and standing exactly if ready.
-- Assumes nothing.
use mathlib.Core.Path.{◌≡◌, refl, sym, ap, ap₂, ◌∙◌, subst}
use mathlib.Core.Bool.{Bool, true, false, ◌&&◌, ◌||◌, true≢false}
use mathlib.Core.Logic.{⊎_elim}
use mathlib.Core.List.{List, [], ◌∷◌, map}
use Prim.Native.Nat.{ℕ, zero, suc, ◌+◌, ◌≤◌, ◌<◌}
use native.Mathlib.Nat.{zero-add, not-suc-le-zero, le_of_suc-le-suc}
use native.Mathlib.Omega.{arith}
use borrow.Author.Tests.{ne_eqb}
use lib.Dec.{ltb, eqb}
use lib.ListN.{length, set, length-set, length-map, take, drop}
use lib.Seq.{get_or-set_same, get_or-set_other}
use Rattle.laws.proofs.Choice.{either, either_way, chosen, passed_by, first_not}
use Rattle.std.specs.Prelude.{Result, Ok, Err, if◌then◌else◌}
use Rattle.walks.specs.Serving.{Worked, Called, Changed}
use Rattle.lines.specs.Lines.{stands, line_in, part_at, line_at, no_lines}
use Rattle.lines.specs.Fit.{fit_lines}
use Rattle.lines.proofs.FitLaws.{of_three}
use Rattle.lines.proofs.LineLaws.{same_or_not}
use Rattle.channel.specs.declared.record.Settings.{Settings}
use Rattle.channel.specs.declared.record.Channel.{Channel}
use Rattle.channel.specs.declared.answer.Answer.{Answer}
use Rattle.channel.specs.declared.answer.Answer.TheVariants.{Done, Repeated, Inactive, Refused}
use Rattle.channel.specs.declared.answer.Refusal.{Refusal}
use Rattle.channel.specs.declared.answer.Refusal.TheVariants as refusal
use Rattle.channel.specs.Answers.{number_of, refusal_of}
use Rattle.channel.specs.Record.{sends, closed, opened}
use Rattle.channel.specs.Lone.{is_ready}
use Rattle.channel.specs.declared.record.Node.{Node}
use Rattle.packet.specs.declared.fields.Fields.{Fields}
use Rattle.channel.specs.Prefixes.{prefix_with}
use Rattle.packet.specs.declared.reading.Found.{Found}
use Rattle.packet.specs.declared.reading.ReadError.{ReadError}
use Rattle.packet.specs.Layout.{least, prefix_from}
use Rattle.packet.specs.Reading.{read_of}
use Rattle.sender_packets.proofs.HandLaws.{control_other}
use Rattle.channel.specs.declared.step.Stepped.{Stepped}
use Rattle.channel.specs.Flow.{may_follow}
use Rattle.sender_packets.specs.HandingOut.{again_at, next_in_window, ready_control, ready_beside, ready_open, ready_single, ready_again, ready_new, ready}
use Rattle.table.specs.declared.looking.Look.{Look}
use Rattle.table.specs.declared.looking.Sought.{Sought}
use Rattle.table.specs.declared.looking.Sought.TheVariants.{Index, Question, Packet, Ready, Nobody}
use Rattle.table.specs.Waiting.{waits, rank_in, moved_by, may_move, moved}
use Rattle.table.specs.Looking.{seeking, chosen as choice}
use Rattle.table.specs.Lent.{passes}
use Rattle.table.specs.Serving.{blank, record_at, Step, stored, serve_one}
use Rattle.table.proofs.ServeLaws.{is_lawful, lawful_is, passing_is, is_passing}
use Rattle.table.proofs.WaitingLaws.{moves, rank_known}
use Rattle.arrivals.specs.Finding.{is_ours, look_by, look_of}
use Rattle.arrivals.proofs.FindLaws.{no_one}
use Rattle.settings.specs.Configuring.{settled, made_table}
use Rattle.settings.proofs.Promises.{settings_done, settings_refused, settings_lawful, settings_lined, settings_closed}
use Rattle.ticks.specs.Ticks.{tick_of, ticked, relisted_from}
use Rattle.node.specs.declared.request.Request.{Request}
use Rattle.node.specs.declared.request.Request.TheVariants.{Open, Close, Transfer, WouldTransfer, Take, Reclaim, Arrival, NextPacket, Unknown}
use Rattle.node.specs.Calls.{look_in, step_for, served}
use Rattle.keeps.specs.Keeping.{Wide, Given, MayChange, RefusalsChangeNothing}
use Rattle.keeps.proofs.Serving.{worked, serve_cases}
use Rattle.keeps.proofs.Staying.{question_changes_nothing, question_lines_stay}
use Rattle.keeps.proofs.CallsKeep.{tick_lawful}
use Rattle.keeps.proofs.CallsRefuse.{served_refusals_change_nothing}
use Rattle.keeps.proofs.Marks.{tick_wide}
use Rattle.keeps.proofs.DoorKeeps.{served_lawful, served_wide}
use Rattle.fairness.specs.Fairness.{Lent, asks, tick, settings, left_of, after, Stood, Sound, SettingsSound, KeepsSound}
use Rattle.fairness.proofs.Moving.{is_moving, moved_self, moved_other, moved_fit}
use Rattle.fairness.proofs.Ticking.{from_fit, each_stands_lem}

-- ---- an answer that moves nobody is a refusal

refused_number : (why : Refusal) → (eqb (number_of (Refused why)) 0 || eqb (number_of (Refused why)) 9 || eqb (number_of (Refused why)) 15) ≡ false
refused_number refusal.Short = refl
refused_number refusal.Damaged = refl
refused_number refusal.Strange = refl
refused_number refusal.Lacking = refl
refused_number refusal.State = refl
refused_number refusal.Long = refl
refused_number refusal.NoRoom = refl
refused_number refusal.Full = refl
refused_number refusal.Untaken = refl
refused_number (refusal.Small n) = refl
refused_number refusal.Nothing = refl
refused_number refusal.Settings = refl
refused_number refusal.NoChannel = refl
refused_number refusal.Ignored = refl

pub stays_put : (a : Answer) → may_move a ≡ false → MayChange a → ⊥
stays_put (Done length confirmed) e m = true≢false e
stays_put (Repeated length) e m = true≢false e
stays_put (Inactive reason) e m = true≢false e
stays_put (Refused why) e m =
    ⊎_elim (λ p. told 0 p refl) (⊎_elim (λ p. told 9 p refl) (λ p. told 15 p refl)) m
  where
    may : ℕ → Bool
    may n = eqb n 0 || eqb n 9 || eqb n 15

    told : (n : ℕ) → number_of (Refused why) ≡ n → may n ≡ true → ⊥
    told n p q = true≢false (sym (ap may p ∙ q) ∙ refused_number why)

-- ---- a call that serves one channel

module _ (look : Look) (step : Step) (t : List Channel) (mem lens lines out : List ℕ) (e : passes t mem lens lines ≡ true) where
  fits : fit_lines (length t) lines ≡ true
  fits = (passing_is t mem lens lines e).lined

  pub serve_lined : fit_lines (length (serve_one look step t mem lens lines out).table) (serve_one look step t mem lens lines out).lines ≡ true
  unfolding stored
  serve_lined =
      serve_cases look step t mem lens lines out (λ (g : Called Answer Channel). fit_lines (length g.table) g.lines ≡ true) fits fits
      (λ h below g.
      let x = choice look lines t in
      let w = worked look step t mem lens lines out in
      ap (λ (n : ℕ). fit_lines n (moved look.sought (rank_in x.grade) x.at w.made lines)) (length-set t x.at w.made.channel)
      ∙ moved_fit (length t) lines fits (rank_in x.grade) (rank_known x.grade) x.at below look.sought w.made)

  -- what is asked by a question apart, and what was found a channel: it moves that channel
  moving : (at rank : ℕ) (c : Channel) (m l : List ℕ) → Given look at rank c m l → (z : Sought) → look.sought ≡ z → ((i : ℕ) → z ≡ Question i → ⊥) → is_moving z ≡ true
  moving at rank c m l g (Index i) p q = refl
  moving at rank c m l g (Question i) p q = absurd (q i refl)
  moving at rank c m l g (Packet f start x) p q = refl
  moving at rank c m l g Ready p q = refl
  moving at rank c m l g (Nobody why) p q = absurd (no_one look why g.lines at c p (subst (λ (k : ℕ). k < 48) g.suits g.found))

  pub serve_stood : ((i : ℕ) → look.sought ≡ Question i → ⊥) → RefusalsChangeNothing t mem lens lines out (serve_one look step t mem lens lines out) → Stood t lines
      → Stood (serve_one look step t mem lens lines out).table (serve_one look step t mem lens lines out).lines
  unfolding stored moved
  serve_stood not-asked still stood =
      serve_cases look step t mem lens lines out Wanted (λ n. stood) (λ n. stood)
      (λ h below g n. by_answer below (moving _ _ _ _ _ g look.sought refl not-asked) n (may_move w.made.answer) refl)
      (λ n. let s = still n in (s.0, s.3))
    where
      Wanted : Called Answer Channel → Type 0
      Wanted g = ((MayChange g.answer → ⊥) → (g.table ≡ t) × (g.lines ≡ lines)) → Stood g.table g.lines

      w : Worked Stepped
      w = worked look step t mem lens lines out

      at : ℕ
      at = (choice look lines t).at

      rank : ℕ
      rank = rank_in (choice look lines t).grade

      by_answer : at < length t → is_moving look.sought ≡ true
          → ((MayChange w.made.answer → ⊥) → (set t at w.made.channel ≡ t) × (moved look.sought rank at w.made lines ≡ lines))
          → (b : Bool) → may_move w.made.answer ≡ b
          → Stood (set t at w.made.channel) (moved look.sought rank at w.made lines)
      by_answer below m n false p =
          let s = n (stays_put w.made.answer p) in
          subst (λ (t2 : List Channel). Stood t2 (moved look.sought rank at w.made lines)) (sym s.0)
          (subst (λ (l : List ℕ). Stood t l) (sym s.1) stood)
      by_answer below m n true p =
          subst (λ (l : List ℕ). Stood (set t at w.made.channel) l) (moves look.sought rank at w.made lines p)
          (λ i q less known.
          ⊎_elim
          (λ same.
          subst (λ (k : ℕ). stands k (line_at q (moved_by look.sought rank at w.made.channel lines)) ≡ waits q (record_at (set t at w.made.channel) k)) same
          (moved_self (length t) lines fits rank (rank_known (choice look lines t).grade) at below w.made.channel look.sought m q known
          ∙ ap (waits q) (sym (get_or-set_same t at w.made.channel blank below))))
          (λ apart.
          moved_other (length t) lines fits rank (rank_known (choice look lines t).grade) at below w.made.channel look.sought i q known apart
          ∙ stood i q (subst (λ (k : ℕ). i < k) (length-set t at w.made.channel) less) known
          ∙ ap (waits q) (sym (get_or-set_other t at i w.made.channel blank (λ r. apart (sym r)))))
          (same_or_not at i))

-- ---- whatever is asked

abbrev is_question : Sought → Bool
is_question (Index i) = false
is_question (Question i) = true
is_question (Packet f start x) = false
is_question Ready = false
is_question (Nobody why) = false

-- an arrival looks for a packet, or for nobody
pub arrival_not : (is : Sought → Bool) → ((f : Fields) (start x : ℕ) → is (Packet f start x) ≡ false) → ((why : Refusal) → is (Nobody why) ≡ false)
    → (node : Node) (packet : List ℕ) (room : ℕ) → is (look_of node packet room).sought ≡ false
unfolding look_of
arrival_not is not-packet not-nobody node packet room = by_room (ltb room least) (read_of packet)
  where
    by_read : (r : Result Found ReadError) → is (look_by node packet r).sought ≡ false
    by_read (Ok r) = by_ours (is_ours node r.fields)
      where
        by_ours : (b : Bool)
            → is (if b then record { sought = Packet r.fields r.start r.length; prefix = prefix_with r.prefix (take r.prefix (drop prefix_from packet)) } else seeking (Nobody refusal.Strange)).sought ≡ false
        by_ours true = not-packet r.fields r.start r.length
        by_ours false = not-nobody refusal.Strange
    by_read (Err why) = not-nobody (refusal_of why)

    by_room : (b : Bool) (r : Result Found ReadError) → is (if b then seeking (Nobody (refusal.Small least)) else look_by node packet r).sought ≡ false
    by_room true r = not-nobody (refusal.Small least)
    by_room false r = by_read r

module _ (s : Lent) (sound : Sound s) (n : Request) (x out : List ℕ) where
  abbrev done : Called Answer Channel
  done = served s.table s.mem s.lens s.lines n x out

  served_tested : passes done.table done.mem done.lens done.lines ≡ true
  served_tested =
      let p = passing_is s.table s.mem s.lens s.lines sound.tested in
      is_passing done.table done.mem done.lens done.lines
      (record {
        lawful =
            lawful_is done.table done.mem done.lens
            (served_lawful s.table s.mem s.lens s.lines n x out sound.wide (is_lawful s.table s.mem s.lens p.lawful));
        lined = serve_lined (look_in n x (length out)) (step_for n x) s.table s.mem s.lens s.lines out sound.tested;
      })

-- a question moves nobody, and every other request moves its channel
module _ (s : Lent) (sound : Sound s) (x out : List ℕ) where
  by_serving : (n : Request) → is_question (look_in n x (length out)).sought ≡ false
      → Stood (served s.table s.mem s.lens s.lines n x out).table (served s.table s.mem s.lens s.lines n x out).lines
  by_serving n not-asked =
      serve_stood (look_in n x (length out)) (step_for n x) s.table s.mem s.lens s.lines out sound.tested
      (λ i p. true≢false (sym (ap is_question p) ∙ not-asked))
      (served_refusals_change_nothing s.table s.mem s.lens s.lines n x out) sound.stood

  served_stood : (n : Request) → Stood (served s.table s.mem s.lens s.lines n x out).table (served s.table s.mem s.lens s.lines n x out).lines
  served_stood (Open index) = by_serving (Open index) refl
  served_stood (Close index) = by_serving (Close index) refl
  served_stood (Transfer index) = by_serving (Transfer index) refl
  served_stood (WouldTransfer index count) =
      subst (λ (t : List Channel). Stood t (served s.table s.mem s.lens s.lines (WouldTransfer index count) x out).lines)
      (sym (question_changes_nothing s.table s.mem s.lens s.lines x out index count))
      (subst (λ (l : List ℕ). Stood s.table l) (sym (question_lines_stay s.table s.mem s.lens s.lines x out index count)) sound.stood)
  served_stood (Take index) = by_serving (Take index) refl
  served_stood (Reclaim index) = by_serving (Reclaim index) refl
  served_stood (Arrival node) = by_serving (Arrival node) (arrival_not is_question (λ f start n. refl) (λ why. refl) node x (length out))
  served_stood (NextPacket node) = by_serving (NextPacket node) refl
  served_stood Unknown = by_serving Unknown refl

-- ---- a tick

module _ (s : Lent) (sound : Sound s) where
  ticked_as : (ticked s.table s.mem s.lens s.lines).table ≡ map tick_of s.table
  unfolding ticked
  ticked_as = ap (λ (g : Changed Answer Channel). g.table) (chosen (passes s.table s.mem s.lens s.lines) _ _ sound.tested)

  pub ticked_lines : (ticked s.table s.mem s.lens s.lines).lines ≡ relisted_from 0 (map tick_of s.table) s.lines
  unfolding ticked
  ticked_lines = ap (λ (g : Changed Answer Channel). g.lines) (chosen (passes s.table s.mem s.lens s.lines) _ _ sound.tested)

  pub many : 0 + length (map tick_of s.table) ≤ length s.table
  many = omega (arith, length-map s.table tick_of)

  pub fits_now : fit_lines (length s.table) s.lines ≡ true
  fits_now = (passing_is s.table s.mem s.lens s.lines sound.tested).lined

  pub tick_stood : Stood (after tick s).table (after tick s).lines
  tick_stood =
      subst (λ (t : List Channel). Stood t (after tick s).lines) (sym ticked_as)
      (subst (λ (l : List ℕ). Stood (map tick_of s.table) l) (sym ticked_lines)
      (λ i q less known.
      ap (λ (k : ℕ). stands k (line_at q (relisted_from 0 (map tick_of s.table) s.lines))) (sym (zero-add i))
      ∙ each_stands_lem (length s.table) q known 0 (map tick_of s.table) s.lines many fits_now i less))

  tick_tested : passes (after tick s).table s.mem s.lens (after tick s).lines ≡ true
  tick_tested =
      let p = passing_is s.table s.mem s.lens s.lines sound.tested in
      is_passing (after tick s).table s.mem s.lens (after tick s).lines
      (record {
        lawful =
            lawful_is (after tick s).table s.mem s.lens
            (tick_lawful s.table s.mem s.lens s.lines (is_lawful s.table s.mem s.lens p.lawful));
        lined =
            ap₂ (λ (n : ℕ) (l : List ℕ). fit_lines n l) (ap length ticked_as ∙ length-map s.table tick_of) ticked_lines
            ∙ from_fit (length s.table) 0 (map tick_of s.table) s.lines many fits_now;
      })

-- ---- settings

-- in CLOSED nothing is ready
closed_waits : (c : Channel) → c.phase.state ≡ closed → (q : ℕ) → q < 3 → waits q c ≡ false
unfolding waits ready
closed_waits c e =
    let is = eqb c.addresses.direction sends in
    let not : eqb c.phase.state opened ≡ false = ne_eqb c.phase.state opened (λ p. omega (arith, p, e)) in
    of_three (λ (q : ℕ). waits q c ≡ false)
    (either IsFalse is (ready_single c) (ready_open c)
    (passed_by (eqb c.phase.state opened) (ready_beside c) (ready_control c) not
    ∙ control_other c.phase.state (is_ready c.phase.control) (λ p. omega (arith, p, e)) (λ p. omega (arith, p, e)))
    (first_not (eqb c.phase.state opened) (ready_beside c) not))
    (either IsFalse is (ready_again c) false (first_not (eqb c.phase.state opened) (ltb (again_at c) c.window.flight) not) refl)
    (either IsFalse is (ready_new c) false (first_not (eqb c.phase.state opened) (next_in_window c.limits c.window && may_follow c.limits c.window c.pulse.flow.recorded) not) refl)
  where
    IsFalse : Bool → Type 0
    IsFalse b = b ≡ false

pub nobody_stands : (i q : ℕ) → q < 3 → stands i (line_at q no_lines) ≡ false
unfolding stands line_in part_at
nobody_stands i = of_three (λ (q : ℕ). stands i (line_at q no_lines) ≡ false) refl refl refl

made_wide : (l : List Settings) → Wide (made_table l)
made_wide [] i h = absurd (not-suc-le-zero h)
made_wide (s ∷ l) zero h = refl
made_wide (s ∷ l) (suc i) h = made_wide l i (le_of_suc-le-suc h)

pub settings_sound : SettingsSound
settings_sound s l e =
    let t = s.table in
    let made : (after (settings l) s).table ≡ made_table l = ap (λ (g : Changed Answer Channel). g.table) (settings_done t s.mem s.lens s.lines l e) in
    let empty : (after (settings l) s).lines ≡ no_lines = ap (λ (g : Changed Answer Channel). g.lines) (settings_done t s.mem s.lens s.lines l e) in
    let closed_all = settings_closed t s.mem s.lens s.lines l e in
    record {
      tested =
          is_passing (after (settings l) s).table s.mem s.lens (after (settings l) s).lines
          (record {
            lawful = lawful_is (after (settings l) s).table s.mem s.lens (settings_lawful t s.mem s.lens s.lines l e);
            lined = settings_lined t s.mem s.lens s.lines l e;
          });
      wide = subst Wide (sym made) (made_wide l);
      stood = λ i q less known.
          ap (λ (k : List ℕ). stands i (line_at q k)) empty
          ∙ nobody_stands i q known
          ∙ sym (closed_waits (record_at (after (settings l) s).table i) (closed_all.1 i (subst (λ (n : ℕ). i < n) closed_all.0 less)).state q known);
    }

-- ---- every call

refused_sound : (s : Lent) (l : List Settings) → Sound s → settled s.table s.mem s.lens s.lines l ≡ false → Sound (after (settings l) s)
refused_sound s l sound e =
    let same = settings_refused s.table s.mem s.lens s.lines l e in
    subst (λ (g : Changed Answer Channel). Sound (left_of s g)) (sym same)
    (record { tested = sound.tested; wide = sound.wide; stood = sound.stood })

pub keeps_sound : KeepsSound
keeps_sound (asks n x out) s sound =
    record {
      tested = served_tested s sound n x out;
      wide = served_wide s.table s.mem s.lens s.lines n x out sound.wide;
      stood = served_stood s sound x out n;
    }
keeps_sound tick s sound =
    record { tested = tick_tested s sound; wide = tick_wide s.table s.mem s.lens s.lines sound.wide; stood = tick_stood s sound }
keeps_sound (settings l) s sound =
    either_way (settled s.table s.mem s.lens s.lines l) (λ e. settings_sound s l e) (λ e. refused_sound s l sound e)
