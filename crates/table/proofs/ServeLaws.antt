-- The survey and what is decided of it amount to `serve_one`, for any step; and the record that is served has what its step asks.
-- Assumes nothing.
use mathlib.Core.Path.{◌≡◌, refl, sym, ap, ap₂, ◌∙◌, subst}
use mathlib.Core.Bool.{Bool, true, false, ◌&&◌, true≢false, false≢true}
use mathlib.Core.List.{List, [], ◌∷◌}
use Prim.Native.Nat.{ℕ, ◌+◌, ◌≤◌, ◌<◌}
use native.Mathlib.Nat.{zero-add, lt_irrefl}
use native.Mathlib.Omega.{arith}
use borrow.Author.Tests.{ltb-true, ltb-false, lt-ltb, le-ltb, le-leb, leb-true, eqb-true, eq-eqb}
use lib.Dec.{ltb, leb, eqb}
use lib.ListN.{length, get_or, set, take, drop, length-drop}
use lib.Seq.{length-take-le}
use Rattle.laws.proofs.Choice.{both, chosen}
use Rattle.slots.specs.Slots.{laid}
use Rattle.lines.specs.Lines.{no_lines}
use Rattle.lines.specs.Fit.{fit_lines}
use Rattle.lines.proofs.FitLaws.{fit_test, fit_facts, tested}
use Rattle.walks.specs.Serving.{Worked, Called, leaves, served_by, saying}
use Rattle.channel.specs.declared.record.Channel.{Channel}
use Rattle.channel.specs.declared.answer.Answer.{Answer}
use Rattle.channel.specs.declared.answer.Answer.TheVariants.{Refused}
use Rattle.channel.specs.declared.answer.Refusal.{Refusal}
use Rattle.channel.specs.declared.answer.Refusal.TheVariants as refusal
use Rattle.channel.specs.declared.step.Stepped.{Stepped}
use Rattle.channel.specs.Standing.{standing}
use Rattle.channel.specs.Tables.{most_records}
use Rattle.channel.proofs.SettingsLaws.{fit_is}
use Rattle.channel.proofs.StandingLaws.{stands_is}
use Rattle.table.specs.declared.looking.Look.{Look}
use Rattle.table.specs.declared.surveying.Survey.{Survey}
use Rattle.table.specs.declared.surveying.Spot.{Spot}
use Rattle.table.specs.declared.deciding.Decision.{Decision}
use Rattle.table.specs.Looking.{graded, missing, chosen_from, chosen as choice}
use Rattle.table.specs.Lent.{area_of, part_of, all_slots, all_octets, slot_at, octet_at, each_stands, lawful, passes}
use Rattle.table.specs.Waiting.{rank_in, moved}
use Rattle.table.specs.Serving.{blank, record_at, Step, stored, worked, serve_one, index_served, told_of}
use Rattle.table.specs.Surveying.{begun, better, surveyed, is_sound, decided, refused_by, served_by as served, told_roles, placed, mine_lens, stepping, Served, Lined}
use Rattle.table.proofs.OneLaws.{decided_bad, decided_found, decided_none}
use Rattle.table.proofs.Spots.{spot_from, far, spot_grade, chosen_at, spot_lies, chosen_suits}
use Rattle.table.proofs.SurveyLaws.{each_stands_lem, slots_within, octets_within, Going, stays_spoilt, survey_good, survey_bad, finally}

-- ---- the test for 13

pub record Lawful (t : List Channel) (mem lens : List ℕ) : Type 0 where
  pub some : 1 ≤ length t
  pub few : length t ≤ most_records
  pub slots : length lens ≡ all_slots t
  pub octets : length mem ≡ all_octets t
  pub stand : each_stands t lens ≡ true

pub lawful_is : (t : List Channel) (mem lens : List ℕ) → lawful t mem lens ≡ true → Lawful t mem lens
unfolding lawful
lawful_is t mem lens e =
    let p4 = both _ _ e in
    let p3 = both _ _ p4.0 in
    let p2 = both _ _ p3.0 in
    let p1 = both _ _ p2.0 in
    record { some = leb-true _ _ p1.0; few = leb-true _ _ p1.1; slots = eqb-true _ _ p2.1; octets = eqb-true _ _ p3.1; stand = p4.1 }

pub is_lawful : (t : List Channel) (mem lens : List ℕ) → Lawful t mem lens → lawful t mem lens ≡ true
unfolding lawful
is_lawful t mem lens h =
    simp (le-leb 1 (length t) h.some, le-leb (length t) 16 h.few, eq-eqb (length lens) (all_slots t) h.slots, eq-eqb (length mem) (all_octets t) h.octets, h.stand)

-- with lines of the table
pub record Passing (t : List Channel) (mem lens lines : List ℕ) : Type 0 where
  pub lawful : Lawful t mem lens
  pub lined : fit_lines (length t) lines ≡ true

pub passing_is : (t : List Channel) (mem lens lines : List ℕ) → passes t mem lens lines ≡ true → Passing t mem lens lines
unfolding passes
passing_is t mem lens lines e = let p = both (lawful t mem lens) (fit_lines (length t) lines) e in record { lawful = lawful_is t mem lens p.0; lined = p.1 }

pub is_passing : (t : List Channel) (mem lens lines : List ℕ) → Passing t mem lens lines → passes t mem lens lines ≡ true
unfolding passes
is_passing t mem lens lines h = ap₂ (λ (x y : Bool). x && y) (is_lawful t mem lens h.lawful) h.lined

-- lines of a table of n records are lines of one of 16
lines_fit : (n : ℕ) (lines : List ℕ) → fit_lines n lines ≡ true → fit_lines 16 lines ≡ true
lines_fit n lines e = fit_test 16 lines (tested n lines e)

starts : (look : Look) (lines : List ℕ) → fit_lines 16 lines ≡ true → Going (begun look lines) 0
starts look lines e = record { sound = e; few = omega arith; slots = omega arith; octets = omega arith; grade = omega arith }

-- a survey that is sound has seen every record stand
module _ (look : Look) (t : List Channel) (lens lines : List ℕ) where
  pub seen_good : fit_lines 16 lines ≡ true → length t ≤ 16 → each_stands t lens ≡ true → surveyed t lens (begun look lines) ≡ finally (begun look lines) 0 t
  seen_good lined few e = survey_good lens 0 (begun look lines) t (starts look lines lined) (omega (arith, few)) e

  -- what is unsound at first is so at last
  seen_lined : (surveyed t lens (begun look lines)).sound ≡ true → fit_lines 16 lines ≡ true
  seen_lined s = go (fit_lines 16 lines) refl
    where
      go : (b : Bool) → fit_lines 16 lines ≡ b → fit_lines 16 lines ≡ true
      go true p = p
      go false p = absurd (true≢false (sym s ∙ ap (λ (w : Survey). w.sound) (stays_spoilt lens 0 (begun look lines) t p) ∙ p))

  pub seen_sound : (surveyed t lens (begun look lines)).sound ≡ true → (length t ≤ 16) × (each_stands t lens ≡ true)
  seen_sound s = go (leb (length t) 16) refl (each_stands t lens) refl
    where
      no_good : ((0 + length t ≤ 16) → each_stands t lens ≡ true → ⊥) → (length t ≤ 16) × (each_stands t lens ≡ true)
      no_good f = absurd (false≢true (sym (survey_bad lens 0 (begun look lines) t (starts look lines (seen_lined s)) f) ∙ s))

      go : (a : Bool) → leb (length t) 16 ≡ a → (b : Bool) → each_stands t lens ≡ b → (length t ≤ 16) × (each_stands t lens ≡ true)
      go true p true q = (leb-true (length t) 16 p, q)
      go true p false q = no_good (λ k e. true≢false (sym e ∙ q))
      go false p b q = no_good (λ k e. true≢false (sym (le-leb (length t) 16 (omega (arith, k))) ∙ p))

  -- the lines that are kept
  seen_lines : fit_lines 16 lines ≡ true → (begun look lines).lines ≡ lines
  seen_lines e = chosen (fit_lines 16 lines) lines no_lines e

  -- the survey is sound exactly if the table passes the test for 13
  pub sound_passes : (mem : List ℕ) → is_sound (surveyed t lens (begun look lines)) (length t) (length mem) (length lens) ≡ passes t mem lens lines
  unfolding is_sound
  sound_passes mem = go (is_sound v (length t) (length mem) (length lens)) refl (passes t mem lens lines) refl
    where
      v : Survey
      v = surveyed t lens (begun look lines)

      from_law : Passing t mem lens lines → is_sound v (length t) (length mem) (length lens) ≡ true
      from_law p =
          let h = p.lawful in
          let l = lines_fit (length t) lines p.lined in
          let e = seen_good l h.few h.stand in
          let kept : fit_lines (length t) v.lines ≡ true = ap (λ (w : Survey). fit_lines (length t) w.lines) e ∙ ap (λ (x : List ℕ). fit_lines (length t) x) (seen_lines l) ∙ p.lined in
          let sound : v.sound ≡ true = ap (λ (w : Survey). w.sound) e in
          let slots : eqb v.slots (length lens) ≡ true = eq-eqb _ _ (ap (λ (w : Survey). w.slots) e ∙ zero-add (all_slots t) ∙ sym h.slots) in
          let octets : eqb v.octets (length mem) ≡ true = eq-eqb _ _ (ap (λ (w : Survey). w.octets) e ∙ zero-add (all_octets t) ∙ sym h.octets) in
          simp (le-leb 1 (length t) h.some, sound, slots, octets, kept)

      from_sound : is_sound v (length t) (length mem) (length lens) ≡ true → Passing t mem lens lines
      from_sound s =
          let p4 = both _ _ s in
          let p3 = both _ _ p4.0 in
          let p2 = both _ _ p3.0 in
          let p1 = both _ _ p2.0 in
          let l = seen_lined p1.1 in
          let q = seen_sound p1.1 in
          let e = seen_good l q.0 q.1 in
          record {
            lawful =
                record {
                  some = leb-true _ _ p1.0;
                  few = q.0;
                  slots = sym (eqb-true _ _ p2.1) ∙ ap (λ (w : Survey). w.slots) e ∙ zero-add (all_slots t);
                  octets = sym (eqb-true _ _ p3.1) ∙ ap (λ (w : Survey). w.octets) e ∙ zero-add (all_octets t);
                  stand = q.1;
                };
            lined = ap (λ (x : List ℕ). fit_lines (length t) x) (sym (seen_lines l)) ∙ ap (λ (w : Survey). fit_lines (length t) w.lines) (sym e) ∙ p4.1;
          }

      go : (a : Bool) → is_sound v (length t) (length mem) (length lens) ≡ a → (b : Bool) → passes t mem lens lines ≡ b
          → is_sound v (length t) (length mem) (length lens) ≡ passes t mem lens lines
      go true p true q = p ∙ sym q
      go false p false q = p ∙ sym q
      go true p false q = absurd (true≢false (sym (is_passing t mem lens lines (from_sound p)) ∙ q))
      go false p true q = absurd (true≢false (sym (from_law (passing_is t mem lens lines q)) ∙ p))

-- no grade is over 48
pub capped : (look : Look) (lines : List ℕ) (j : ℕ) (t : List Channel) → 48 ≤ (chosen_from look lines j t).grade → 48 ≡ (chosen_from look lines j t).grade
unfolding chosen_from
capped look lines j [] h = refl
capped look lines j (c ∷ t) h = go (leb (graded look lines j c) (chosen_from look lines (j + 1) t).grade) refl (capped look lines (j + 1) t) h
  where
    go : (b : Bool) → leb (graded look lines j c) (chosen_from look lines (j + 1) t).grade ≡ b
        → (48 ≤ (chosen_from look lines (j + 1) t).grade → 48 ≡ (chosen_from look lines (j + 1) t).grade)
        → 48 ≤ (chosen_from look lines j (c ∷ t)).grade → 48 ≡ (chosen_from look lines j (c ∷ t)).grade
    go true e next =
        let l = leb-true (graded look lines j c) (chosen_from look lines (j + 1) t).grade e in
        simp (e) (λ k. let q = next (omega (arith, k, l)) in omega (arith, k, l, q))
    go false e next = simp (e) next

-- a call by what is decided and what the step makes, the index not told
unfoldable pub served_with : Bool → Decision → List Channel → List ℕ → List ℕ → List ℕ → List ℕ → Worked Stepped → Called Answer Channel
served_with true d t mem lens lines out w =
    leaves
    w.made.answer
    (set t d.at w.made.channel)
    w.mem
    w.lens
    (moved d.look.sought (rank_in d.spot.grade) d.spot.at w.made lines)
    w.out
served_with false d t mem lens lines out w = leaves d.told.answer t mem lens lines out

-- ---- a table that passes it: what is found, and what the step asks

-- the choice alone
module _ (look : Look) (lines : List ℕ) (t : List Channel) where
  at_far : (choice look lines t).at ≡ far look lines 0 t
  at_far = chosen_at look lines 0 t ∙ zero-add (far look lines 0 t)

module _ (look : Look) (lines : List ℕ) (t : List Channel) (mem lens : List ℕ) (h : Lawful t mem lens) where
  pub found_below : (choice look lines t).grade < 48 → (choice look lines t).at < length t
  found_below f = rw (at_far look lines t) (chosen_suits look lines 0 t f).0

  pub found_suits : (choice look lines t).grade < 48 → (choice look lines t).grade ≡ graded look lines (choice look lines t).at (record_at t (choice look lines t).at)
  found_suits f =
      (chosen_suits look lines 0 t f).1
      ∙ ap₂ (λ (i k : ℕ). graded look lines i (get_or t k blank)) (sym (chosen_at look lines 0 t)) (sym (at_far look lines t))

module _ (look : Look) (t : List Channel) (mem lens lines : List ℕ) (p : Passing t mem lens lines) where
  h : Lawful t mem lens
  h = p.lawful

  good : surveyed t lens (begun look lines) ≡ finally (begun look lines) 0 t
  good = seen_good look t lens lines (lines_fit (length t) lines p.lined) h.few h.stand

  -- the survey
  abbrev pub whole : Survey
  whole = surveyed t lens (begun look lines)

  abbrev pub spot : Spot
  spot = spot_from look lines 0 0 0 t

  -- the best of all, by the lines that are lent
  good_spot : whole.spot ≡ better (begun look lines).spot spot
  good_spot =
      ap (λ (w : Survey). w.spot) good
      ∙ ap (λ (l : List ℕ). better (begun look lines).spot (spot_from look l 0 0 0 t)) (seen_lines look t lens lines (lines_fit (length t) lines p.lined))

  -- it is the best from the first on, or none is
  pub whole_grade : whole.spot.grade ≡ (choice look lines t).grade
  whole_grade = ap (λ (x : Spot). x.grade) good_spot ∙ go (ltb spot.grade 48) refl
    where
      top : spot.grade ≡ (choice look lines t).grade
      top = spot_grade look lines 0 0 0 t

      go : (b : Bool) → ltb spot.grade 48 ≡ b → (better (begun look lines).spot spot).grade ≡ (choice look lines t).grade
      go true e = simp (e) top
      go false e = simp (e) (capped look lines 0 t (omega (arith, ltb-false spot.grade 48 e, top)))

  pub found_spot : (choice look lines t).grade < 48 → whole.spot ≡ spot
  found_spot f =
      good_spot
      ∙ chosen (ltb spot.grade 48) spot (begun look lines).spot (lt-ltb spot.grade 48 (omega (arith, f, spot_grade look lines 0 0 0 t)))

  pub found_at : (choice look lines t).grade < 48 → whole.spot.at ≡ (choice look lines t).at
  found_at f = ap (λ (x : Spot). x.at) (found_spot f) ∙ (spot_lies look lines 0 0 0 t).at ∙ sym (chosen_at look lines 0 t)

  pub found_slot : (choice look lines t).grade < 48 → whole.spot.slot ≡ slot_at t (choice look lines t).at
  found_slot f =
      ap (λ (x : Spot). x.slot) (found_spot f) ∙ (spot_lies look lines 0 0 0 t).slot ∙ zero-add (all_slots (take (far look lines 0 t) t))
      ∙ ap (λ (k : ℕ). all_slots (take k t)) (sym (at_far look lines t))

  pub found_octet : (choice look lines t).grade < 48 → whole.spot.octet ≡ octet_at t (choice look lines t).at
  found_octet f =
      ap (λ (x : Spot). x.octet) (found_spot f) ∙ (spot_lies look lines 0 0 0 t).octet ∙ zero-add (all_octets (take (far look lines 0 t) t))
      ∙ ap (λ (k : ℕ). all_octets (take k t)) (sym (at_far look lines t))

  -- ---- the two cases of a table that passes the test

  abbrev pub decision : Decision
  decision = decided whole (length t) (length mem) (length lens)

  sound : is_sound whole (length t) (length mem) (length lens) ≡ true
  sound = sound_passes look t lens lines mem ∙ is_passing t mem lens lines p

  look_kept : whole.look ≡ look
  look_kept = ap (λ (w : Survey). w.look) good

  pub is_served : (choice look lines t).grade < 48 → decision ≡ served whole
  is_served f = decided_found whole (length t) (length mem) (length lens) sound (rw whole_grade f)

  pub is_missing : 48 ≤ (choice look lines t).grade → decision ≡ refused_by whole (length t) (missing look.sought)
  is_missing f =
      decided_none whole (length t) (length mem) (length lens) sound (rw whole_grade f)
      ∙ ap (λ (l : Look). refused_by whole (length t) (missing l.sought)) look_kept

  -- the record that is served has what its step asks
  pub serves : (choice look lines t).grade < 48 → Served (record_at t (choice look lines t).at) (served whole) mem lens
  serves f =
      let at = (choice look lines t).at in
      let c = record_at t at in
      let below = found_below look lines t mem lens h f in
      let st = each_stands_lem t lens h.stand at below in
      let slot = found_slot f in
      let octet = found_octet f in
      let lens_is : part_of (slot_at t at) c.limits.slots lens ≡ mine_lens c (served whole) lens = ap (λ (k : ℕ). part_of k c.limits.slots lens) (sym slot) in
      let stand = stands_is c (mine_lens c (served whole) lens) (ap (λ (l : List ℕ). standing c l) (sym lens_is) ∙ st) in
      let fit = fit_is c.limits stand.fit in
      let in_lens : whole.spot.slot + c.limits.slots ≤ length lens = omega (arith, slot, slots_within t at below, h.slots) in
      let in_mem : whole.spot.octet + area_of c.limits ≤ length mem = omega (arith, octet, octets_within t at below, h.octets) in
      record {
        standing = stand;
        sized =
            record {
              few = fit.most;
              short = fit.payload;
              each = stand.count;
              exact = length-take-le (area_of c.limits) (drop whole.spot.octet mem) (omega (arith, length-drop whole.spot.octet mem, in_mem));
            };
        slots = in_lens;
        octets = in_mem;
        lines = lines;
        suits = whole_grade ∙ found_suits look lines t mem lens h f ∙ ap₂ (λ (l : Look) (i : ℕ). graded l lines i c) (sym look_kept) (sym (found_at f));
        found = rw whole_grade f;
      }

  -- the lines are lines, and it is one of 16
  pub lined : (choice look lines t).grade < 48 → Lined (served whole) lines
  lined f =
      record {
        fit = fit_facts 16 lines (lines_fit (length t) lines p.lined);
        at = omega (arith, found_at f, found_below look lines t mem lens h f, h.few);
      }

  -- the step's outcome, stored at an index, over the parts that begin at a slot and at an octet
  abbrev laid_at : Step → List ℕ → ℕ → ℕ → ℕ → ℕ → Look → Called Answer Channel
  laid_at step out at slot octet grade sought =
      let w = step (record_at t at) (rank_in grade) (part_of octet (area_of (record_at t at).limits) mem) (part_of slot (record_at t at).limits.slots lens) out in
      leaves
      w.made.answer
      (set t at w.made.channel)
      (laid mem octet w.mem)
      (laid lens slot w.lens)
      (moved sought.sought (rank_in grade) at w.made lines)
      w.out

  pub in_place : (step : Step) (out : List ℕ) → (choice look lines t).grade < 48
      → served_with (ltb whole.spot.at (length t)) (served whole) t mem lens lines out (stepping step (record_at t whole.spot.at) (served whole) mem lens out)
      ≡ stored look.sought t mem lens lines (choice look lines t) (worked step t mem lens out (choice look lines t))
  unfolding served_with stored
  in_place step out f =
      let at = found_at f in
      let x = (choice look lines t).at in
      ap (λ (b : Bool). served_with b (served whole) t mem lens lines out (stepping step (record_at t whole.spot.at) (served whole) mem lens out))
      (lt-ltb whole.spot.at (length t) (rw at (found_below look lines t mem lens h f)))
      ∙ ap (λ (i : ℕ). laid_at step out i whole.spot.slot whole.spot.octet whole.spot.grade whole.look) at
      ∙ ap (λ (i : ℕ). laid_at step out x i whole.spot.octet whole.spot.grade whole.look) (found_slot f)
      ∙ ap (λ (i : ℕ). laid_at step out x (slot_at t x) i whole.spot.grade whole.look) (found_octet f)
      ∙ ap (λ (i : ℕ). laid_at step out x (slot_at t x) (octet_at t x) i whole.look) whole_grade
      ∙ ap (laid_at step out x (slot_at t x) (octet_at t x) (choice look lines t).grade) look_kept

-- what was looked for is told with the decision
decided_look : (v : Survey) (n m l : ℕ) → (decided v n m l).look ≡ v.look
unfolding decided
decided_look v n m l = go (is_sound v n m l) refl (ltb v.spot.grade 48) refl
  where
    go : (a : Bool) → is_sound v n m l ≡ a → (b : Bool) → ltb v.spot.grade 48 ≡ b → (decided v n m l).look ≡ v.look
    go false p b q = simp (p)
    go true p true q = simp (p, q)
    go true p false q = simp (p, q)

-- ---- any table

module _ (look : Look) (t : List Channel) (mem lens lines : List ℕ) where
  abbrev pub decision_of : Decision
  decision_of = decided (surveyed t lens (begun look lines)) (length t) (length mem) (length lens)

  is_unlawful : passes t mem lens lines ≡ false → decision_of ≡ refused_by (surveyed t lens (begun look lines)) (length t) refusal.Settings
  is_unlawful e = decided_bad (surveyed t lens (begun look lines)) (length t) (length mem) (length lens) (sound_passes look t lens lines mem ∙ e)

  -- where the decision is an index of the table, the step may be called
  pub may_serve : decision_of.at < length t → Served (record_at t decision_of.at) decision_of mem lens × Lined decision_of lines
  may_serve l = go (passes t mem lens lines) refl (ltb (choice look lines t).grade 48) refl
    where
      not_n : (v : Survey) (why : Refusal) → decision_of ≡ refused_by v (length t) why → Served (record_at t decision_of.at) decision_of mem lens × Lined decision_of lines
      not_n v why e = absurd (lt_irrefl (length t) (subst (λ (d : Decision). d.at < length t) e l))

      go : (a : Bool) → passes t mem lens lines ≡ a → (b : Bool) → ltb (choice look lines t).grade 48 ≡ b
          → Served (record_at t decision_of.at) decision_of mem lens × Lined decision_of lines
      go false p b q = not_n (surveyed t lens (begun look lines)) refusal.Settings (is_unlawful p)
      go true p false q =
          not_n (surveyed t lens (begun look lines)) (missing look.sought) (is_missing look t mem lens lines (passing_is t mem lens lines p) (ltb-false (choice look lines t).grade 48 q))
      go true p true q =
          let h = passing_is t mem lens lines p in
          let f = ltb-true (choice look lines t).grade 48 q in
          let e = is_served look t mem lens lines h f in
          subst (λ (d : Decision). Served (record_at t d.at) d mem lens × Lined d lines) (sym e) (
            subst (λ (i : ℕ). Served (record_at t i) (served (surveyed t lens (begun look lines))) mem lens) (sym (found_at look t mem lens lines h f)) (serves look t mem lens lines h f),
            lined look t mem lens lines h f,
          )

  pub look_stays : decision_of.at < length t → decision_of.look ≡ look
  look_stays l = go (passes t mem lens lines) refl
    where
      go : (a : Bool) → passes t mem lens lines ≡ a → decision_of.look ≡ look
      go true p = let h = passing_is t mem lens lines p in decided_look (surveyed t lens (begun look lines)) (length t) (length mem) (length lens) ∙ ap (λ (w : Survey). w.look) (good look t mem lens lines h)
      go false p = absurd (lt_irrefl (length t) (subst (λ (d : Decision). d.at < length t) (is_unlawful p) l))

  -- the call is what `serve_one` says
  pub agreed : (step : Step) (out : List ℕ)
      → served_with (ltb decision_of.at (length t)) decision_of t mem lens lines out (stepping step (record_at t decision_of.at) decision_of mem lens out)
      ≡ serve_one look step t mem lens lines out
  unfolding served_with serve_one stored
  agreed step out = go (passes t mem lens lines) refl (ltb (choice look lines t).grade 48) refl
    where
      -- the call, by what is decided
      by : Decision → Called Answer Channel
      by d = served_with (ltb d.at (length t)) d t mem lens lines out (stepping step (record_at t d.at) d mem lens out)

      refused : (v : Survey) (why : Refusal) → decision_of ≡ refused_by v (length t) why → by decision_of ≡ leaves (Refused why) t mem lens lines out
      refused v why e =
          ap by e
          ∙ ap (λ (b : Bool). served_with b (refused_by v (length t) why) t mem lens lines out (stepping step (record_at t (length t)) (refused_by v (length t) why) mem lens out))
          (le-ltb (length t) (length t) (omega arith))

      go : (a : Bool) → passes t mem lens lines ≡ a → (b : Bool) → ltb (choice look lines t).grade 48 ≡ b → by decision_of ≡ serve_one look step t mem lens lines out
      go false p b q = refused (surveyed t lens (begun look lines)) refusal.Settings (is_unlawful p) ∙ simp (p)
      go true p false q =
          refused (surveyed t lens (begun look lines)) (missing look.sought) (is_missing look t mem lens lines (passing_is t mem lens lines p) (ltb-false (choice look lines t).grade 48 q))
          ∙ simp (p, q)
      go true p true q =
          let h = passing_is t mem lens lines p in
          let f = ltb-true (choice look lines t).grade 48 q in
          ap by (is_served look t mem lens lines h f)
          ∙ in_place look t mem lens lines h step out f
          ∙ simp (p, q)

  -- the index that is told is that of the channel served
  pub index_told_lem : decision_of.told.index ≡ index_served look t mem lens lines
  unfolding index_served
  index_told_lem = go (passes t mem lens lines) refl (ltb (choice look lines t).grade 48) refl
    where
      told : {d : Decision} → decision_of ≡ d → decision_of.told.index ≡ d.told.index
      told e = ap (λ (d : Decision). d.told.index) e

      go : (a : Bool) → passes t mem lens lines ≡ a → (b : Bool) → ltb (choice look lines t).grade 48 ≡ b → decision_of.told.index ≡ index_served look t mem lens lines
      go false p b q = told (is_unlawful p) ∙ simp (p)
      go true p false q =
          told (is_missing look t mem lens lines (passing_is t mem lens lines p) (ltb-false (choice look lines t).grade 48 q))
          ∙ simp (p, q)
      go true p true q =
          let h = passing_is t mem lens lines p in
          let f = ltb-true (choice look lines t).grade 48 q in
          told (is_served look t mem lens lines h f) ∙ found_at look t mem lens lines h f ∙ simp (p, q)

  -- the same call, with the index told
  pub agreed_told : (step : Step) (out : List ℕ)
      → served_by told_roles (ltb decision_of.at (length t)) decision_of t mem lens lines out (placed decision_of lines (stepping step (record_at t decision_of.at) decision_of mem lens out))
      ≡ saying (told_of (index_served look t mem lens lines)) (serve_one look step t mem lens lines out)
  unfolding served_by served_with
  agreed_told step out =
      same (ltb decision_of.at (length t))
      ∙ ap (saying (told_of decision_of.told.index)) (agreed step out)
      ∙ ap (λ (i : ℕ). saying (told_of i) (serve_one look step t mem lens lines out)) index_told_lem
    where
      w : Worked Stepped
      w = stepping step (record_at t decision_of.at) decision_of mem lens out

      same : (b : Bool) → served_by told_roles b decision_of t mem lens lines out (placed decision_of lines w) ≡ saying (told_of decision_of.told.index) (served_with b decision_of t mem lens lines out w)
      same true = refl
      same false = refl
