-- What a call that serves one channel leaves: by its three cases, and the test for 13 again.
-- Assumes nothing.
use mathlib.Core.Path.{◌≡◌, refl, sym, ◌∙◌, subst}
use mathlib.Core.Bool.{Bool, true, false}
use mathlib.Core.List.{List}
use Prim.Native.Nat.{ℕ, ◌+◌, ◌≤◌, ◌<◌}
use native.Mathlib.Omega.{arith}
use borrow.Author.Tests.{ltb-true}
use lib.ListN.{length, set, drop, length-set, length-drop}
use lib.Seq.{length-take-le}
use Rattle.slots.specs.Slots.{laid}
use Rattle.slots.proofs.SlotLaws.{laid_length}
use Rattle.walks.specs.Serving.{Worked, Called, leaves}
use Rattle.channel.specs.declared.record.Channel.{Channel}
use Rattle.channel.specs.declared.answer.Answer.{Answer}
use Rattle.channel.specs.declared.answer.Answer.TheVariants.{Refused}
use Rattle.channel.specs.declared.answer.Refusal.TheVariants as refusal
use Rattle.channel.specs.declared.step.Stepped.{Stepped}
use Rattle.channel.proofs.SettingsLaws.{fit_is}
use Rattle.channel.proofs.StandingLaws.{stands_is, is_stands}
use Rattle.table.specs.declared.looking.Look.{Look}
use Rattle.table.specs.declared.looking.Sought.{Sought}
use Rattle.table.specs.Waiting.{rank_in}
use Rattle.table.specs.Looking.{Chosen, missing, is_found, chosen as choice}
use Rattle.table.specs.Lent.{area_of, slot_at, octet_at, lawful, passes}
use Rattle.table.specs.Serving.{record_at, own_mem, own_lens, Step, stored, worked as workedBy, serve_one}
use Rattle.table.proofs.SurveyLaws.{each_stands_lem, slots_within, octets_within}
use Rattle.table.proofs.ServeLaws.{Lawful, is_lawful, passing_is, found_below, found_suits}
use Rattle.keeps.specs.Keeping.{KeepsLawful, Given, Kept, Keeps}
use Rattle.keeps.proofs.Storing.{slots_stored, octets_stored, stands_stored}

-- the parts of a record of a lawful table lie within what is lent
module _ (t : List Channel) (mem lens : List ℕ) (h : Lawful t mem lens) (i : ℕ) (below : i < length t) where
  pub slots_inside : slot_at t i + (record_at t i).limits.slots ≤ length lens
  slots_inside = omega (arith, slots_within t i below, h.slots)

  pub octets_inside : octet_at t i + area_of (record_at t i).limits ≤ length mem
  octets_inside = omega (arith, octets_within t i below, h.octets)

-- stored with what was kept, the table is lawful again
module _ (t : List Channel) (mem lens : List ℕ) (h : Lawful t mem lens) (sought : Sought) (x : Chosen) (below : x.at < length t) where
  abbrev i : ℕ
  i = x.at

  pub stored_lawful : (lines : List ℕ) (w : Worked Stepped) → Kept (record_at t i) w
      → lawful (stored sought t mem lens lines x w).table (stored sought t mem lens lines x w).mem (stored sought t mem lens lines x w).lens ≡ true
  unfolding stored
  stored_lawful lines w k =
      let c = record_at t i in
      let in_mem : octet_at t i + length w.mem ≤ length mem = omega (arith, octets_inside t mem lens h i below, k.sized.exact) in
      let in_lens : slot_at t i + length w.lens ≤ length lens = omega (arith, slots_inside t mem lens h i below, k.sized.each) in
      let n = length-set t i w.made.channel in
      is_lawful (set t i w.made.channel) (laid mem (octet_at t i) w.mem) (laid lens (slot_at t i) w.lens)
      (record {
        some = omega (arith, n, h.some);
        few = omega (arith, n, h.few);
        slots = laid_length lens (slot_at t i) w.lens in_lens ∙ h.slots ∙ sym (slots_stored w.made.channel t i k.limits);
        octets = laid_length mem (octet_at t i) w.mem in_mem ∙ h.octets ∙ sym (octets_stored w.made.channel t i k.limits);
        stand =
            stands_stored w.made.channel w.lens (is_stands w.made.channel w.lens k.standing) t lens i below (omega (arith, h.slots)) k.limits k.sized.each h.stand;
      })

module _ (look : Look) (step : Step) (t : List Channel) (mem lens lines out : List ℕ) where
  -- the channel that is served, and what its step leaves
  abbrev pub served_at : ℕ
  served_at = (choice look lines t).at

  abbrev pub worked : Worked Stepped
  worked = workedBy step t mem lens out (choice look lines t)

  -- ---- the three cases

  pub serve_unlawful : passes t mem lens lines ≡ false → serve_one look step t mem lens lines out ≡ leaves (Refused refusal.Settings) t mem lens lines out
  unfolding serve_one
  serve_unlawful e = simp (e)

  pub serve_missing : passes t mem lens lines ≡ true → is_found (choice look lines t) ≡ false
      → serve_one look step t mem lens lines out ≡ leaves (Refused (missing look.sought)) t mem lens lines out
  unfolding serve_one
  serve_missing e f = simp (e, f)

  pub serve_found : passes t mem lens lines ≡ true → is_found (choice look lines t) ≡ true → serve_one look step t mem lens lines out ≡ stored look.sought t mem lens lines (choice look lines t) worked
  unfolding serve_one
  serve_found e f = simp (e, f)

  -- the step is given what it asks
  pub given : Lawful t mem lens → (choice look lines t).grade < 48
      → Given look served_at (rank_in (choice look lines t).grade) (record_at t served_at) (own_mem t served_at mem) (own_lens t served_at lens)
  given h f =
      let c = record_at t served_at in
      let below = found_below look lines t mem lens h f in
      let stand = stands_is c (own_lens t served_at lens) (each_stands_lem t lens h.stand served_at below) in
      let fit = fit_is c.limits stand.fit in
      let in_mem = octets_inside t mem lens h served_at below in
      record {
        standing = stand;
        sized =
            record {
              few = fit.most;
              short = fit.payload;
              each = stand.count;
              exact = length-take-le (area_of c.limits) (drop (octet_at t served_at) mem) (omega (arith, length-drop (octet_at t served_at) mem, in_mem));
            };
        lines = lines;
        grade = (choice look lines t).grade;
        suits = found_suits look lines t mem lens h f;
        found = f;
        ranked = refl;
      }

  -- what holds in each case holds of the call
  pub serve_cases : (P : Called Answer Channel → Type 0)
      → P (leaves (Refused refusal.Settings) t mem lens lines out)
      → P (leaves (Refused (missing look.sought)) t mem lens lines out)
      → (Lawful t mem lens → served_at < length t
      → Given look served_at (rank_in (choice look lines t).grade) (record_at t served_at) (own_mem t served_at mem) (own_lens t served_at lens)
      → P (stored look.sought t mem lens lines (choice look lines t) worked))
      → P (serve_one look step t mem lens lines out)
  serve_cases P bad none found = go (passes t mem lens lines) refl (is_found (choice look lines t)) refl
    where
      go : (a : Bool) → passes t mem lens lines ≡ a → (b : Bool) → is_found (choice look lines t) ≡ b → P (serve_one look step t mem lens lines out)
      go false e b f = subst P (sym (serve_unlawful e)) bad
      go true e false f = subst P (sym (serve_missing e f)) none
      go true e true f =
          let h = (passing_is t mem lens lines e).lawful in
          let less = ltb-true (choice look lines t).grade 48 f in
          subst P (sym (serve_found e f)) (found h (found_below look lines t mem lens h less) (given h less))

  -- ---- the test for 13 again, of a step that keeps what it is given

  pub serve_keeps : (served_at < length t
      → Given look served_at (rank_in (choice look lines t).grade) (record_at t served_at) (own_mem t served_at mem) (own_lens t served_at lens)
      → Kept (record_at t served_at) worked)
      → KeepsLawful t mem lens (serve_one look step t mem lens lines out)
  serve_keeps keeps e =
      serve_cases (λ (g : Called Answer Channel). lawful g.table g.mem g.lens ≡ true) e e
      (λ h below g. stored_lawful t mem lens h look.sought (choice look lines t) below lines worked (keeps below g))

  pub serve_lawful : Keeps look step out → KeepsLawful t mem lens (serve_one look step t mem lens lines out)
  serve_lawful keeps =
      serve_keeps (λ below g. keeps served_at (rank_in (choice look lines t).grade) (record_at t served_at) (own_mem t served_at mem) (own_lens t served_at lens) g)
