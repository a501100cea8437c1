-- What the settings call promises beyond its contract: a table that it makes passes the test for 13, and is CLOSED and empty throughout; and what it
-- refuses it leaves as it was.
-- Assumes nothing.
use mathlib.Core.Path.{◌≡◌, refl, sym, ap, ◌∙◌}
use mathlib.Core.Bool.{Bool, true, false, not, ◌&&◌}
use mathlib.Core.List.{List, [], ◌∷◌}
use Prim.Native.Nat.{ℕ, zero, suc, ◌+◌, ◌<◌}
use native.Mathlib.Nat.{not-suc-le-zero, le_of_suc-le-suc}
use native.Mathlib.Omega.{arith}
use lib.ListN.{length, get_or, take, drop, length-map, length-drop}
use lib.Seq.{length-take-le}
use Rattle.laws.proofs.Choice.{both, chosen, passed_by}
use Rattle.walks.specs.Serving.{Changed, changes}
use Rattle.lines.specs.Lines.{no_lines}
use Rattle.lines.specs.Fit.{fit_lines}
use Rattle.lines.proofs.FitLaws.{none_fit}
use Rattle.channel.specs.declared.record.Settings.{Settings}
use Rattle.channel.specs.declared.record.Channel.{Channel}
use Rattle.channel.specs.declared.answer.Answer.{Answer}
use Rattle.channel.specs.declared.answer.Answer.TheVariants.{Done, Refused}
use Rattle.channel.specs.declared.answer.Refusal.TheVariants as refusal
use Rattle.channel.specs.Answers.{number_of}
use Rattle.channel.specs.Record.{closed, made_of, held_in}
use Rattle.channel.specs.Settings.{fit}
use Rattle.channel.specs.Tables.{clashes, each_fit}
use Rattle.channel.proofs.StandingLaws.{is_stands}
use Rattle.channel.proofs.MadeLaws.{made_stands}
use Rattle.table.specs.Lent.{all_slots, each_stands, lawful}
use Rattle.table.specs.Serving.{unset, record_at}
use Rattle.table.proofs.ServeLaws.{is_lawful}
use Rattle.table.proofs.SurveyLaws.{stands_none, stands_both}
use Rattle.settings.specs.Configuring.{made_table, settled, configured}
use Rattle.settings.proofs.AgreeLaws.{settled_is}

-- ---- each record that fit settings make stands with its own lengths

slots_first : (s : Settings) (l : List Settings) → all_slots (made_table (s ∷ l)) ≡ s.limits.slots + all_slots (made_table l)
unfolding all_slots
slots_first s l = refl

fit_first : (s : Settings) (l : List Settings) → each_fit (s ∷ l) ≡ true → (fit s ≡ true) × (each_fit l ≡ true)
unfolding each_fit
fit_first s l e =
    let p = both (fit s && not (clashes s.addresses l)) (each_fit l) e in
    ((both (fit s) (not (clashes s.addresses l)) p.0).0, p.1)

made_each : (s : List Settings) (lens : List ℕ) → each_fit s ≡ true → length lens ≡ all_slots (made_table s) → each_stands (made_table s) lens ≡ true
made_each [] lens f e = stands_none lens
made_each (s ∷ l) lens f e =
    let p = fit_first s l f in
    let n = e ∙ slots_first s l in
    let own : length (take s.limits.slots lens) ≡ s.limits.slots = length-take-le s.limits.slots lens (omega (arith, n)) in
    let rest : length (drop s.limits.slots lens) ≡ all_slots (made_table l) = omega (arith, length-drop s.limits.slots lens, n) in
    stands_both (made_of s) (made_table l) lens
    (is_stands (made_of s) (take s.limits.slots lens) (made_stands s (take s.limits.slots lens) p.0 own))
    (made_each l (drop s.limits.slots lens) p.1 rest)

-- ---- the call

module _ (t : List Channel) (mem lens lines : List ℕ) (s : List Settings) where
  pub settings_done : settled t mem lens lines s ≡ true → configured t mem lens lines s ≡ changes (Done 0 0) (made_table s) no_lines
  unfolding configured
  settings_done e = chosen (settled t mem lens lines s) (changes (Done 0 0) (made_table s) no_lines) (changes (Refused refusal.Settings) t lines) e

  pub settings_refused : settled t mem lens lines s ≡ false → configured t mem lens lines s ≡ changes (Refused refusal.Settings) t lines
  unfolding configured
  settings_refused e = passed_by (settled t mem lens lines s) (changes (Done 0 0) (made_table s) no_lines) (changes (Refused refusal.Settings) t lines) e

  -- the table that is made passes the test for 13, with the same memory and lengths, whatever these hold
  pub settings_lawful : settled t mem lens lines s ≡ true → lawful (configured t mem lens lines s).table mem lens ≡ true
  settings_lawful e =
      let h = settled_is t mem lens lines s e in
      let n = length-map s made_of in
      ap (λ (w : Changed Answer Channel). lawful w.table mem lens) (settings_done e)
      ∙ is_lawful (made_table s) mem lens
      (record { some = omega (arith, n, h.some); few = omega (arith, n, h.few); slots = h.slots; octets = h.octets; stand = made_each s lens h.fit h.slots })

  -- and so do the lines, where nobody waits
  pub settings_lined : settled t mem lens lines s ≡ true → fit_lines (length (configured t mem lens lines s).table) (configured t mem lens lines s).lines ≡ true
  settings_lined e =
      ap (λ (w : Changed Answer Channel). fit_lines (length w.table) w.lines) (settings_done e)
      ∙ none_fit (length (made_table s)) (omega (arith, length-map s made_of, (settled_is t mem lens lines s e).few))

  -- every answer but 0 is 13, and leaves each record and the lines as they were
  pub settings_refusal_changes_nothing : (number_of (configured t mem lens lines s).answer ≡ 0 → ⊥)
      → (number_of (configured t mem lens lines s).answer ≡ 13) × ((configured t mem lens lines s).table ≡ t) × ((configured t mem lens lines s).lines ≡ lines)
  settings_refusal_changes_nothing n = go (settled t mem lens lines s) refl
    where
      go : (b : Bool) → settled t mem lens lines s ≡ b → (number_of (configured t mem lens lines s).answer ≡ 13) × ((configured t mem lens lines s).table ≡ t) × ((configured t mem lens lines s).lines ≡ lines)
      go true e = absurd (n (ap (λ (w : Changed Answer Channel). number_of w.answer) (settings_done e)))
      go false e =
          (ap (λ (w : Changed Answer Channel). number_of w.answer) (settings_refused e), ap (λ (w : Changed Answer Channel). w.table) (settings_refused e), ap (λ (w : Changed Answer Channel). w.lines) (settings_refused e))

-- a record as its settings make it: CLOSED, nothing held, and their addresses and limits
pub record ClosedBy (s : Settings) (c : Channel) : Type 0 where
  pub state : c.phase.state ≡ closed
  pub held : held_in c.window ≡ 0
  pub addresses : c.addresses ≡ s.addresses
  pub limits : c.limits ≡ s.limits

made_closed : (s : List Settings) (i : ℕ) → i < length s → ClosedBy (get_or s i unset) (record_at (made_table s) i)
made_closed [] i h = absurd (not-suc-le-zero h)
made_closed (s ∷ l) zero h = record { state = refl; held = refl; addresses = refl; limits = refl }
made_closed (s ∷ l) (suc i) h = made_closed l i (le_of_suc-le-suc h)

-- as many records as settings, and each is so made of those with its index
pub settings_closed : (t : List Channel) (mem lens lines : List ℕ) (s : List Settings) → settled t mem lens lines s ≡ true
    → (length (configured t mem lens lines s).table ≡ length s)
    × ((i : ℕ) → i < length s → ClosedBy (get_or s i unset) (record_at (configured t mem lens lines s).table i))
settings_closed t mem lens lines s e =
    let d : (configured t mem lens lines s).table ≡ made_table s = ap (λ (w : Changed Answer Channel). w.table) (settings_done t mem lens lines s e) in
    (rw d (length-map s made_of), rw d (made_closed s))

-- two outcomes that the contract admits are equal
pub settings_one_outcome : (t : List Channel) (mem lens lines : List ℕ) (s : List Settings) (r r2 : Answer) (u u2 : List Channel) (i i2 : List ℕ)
    → changes r u i ≡ configured t mem lens lines s
    → changes r2 u2 i2 ≡ configured t mem lens lines s
    → (r ≡ r2) × (u ≡ u2) × (i ≡ i2)
settings_one_outcome t mem lens lines s r r2 u u2 i i2 e f =
    let same = e ∙ sym f in
    (ap (λ (x : Changed Answer Channel). x.answer) same, ap (λ (x : Changed Answer Channel). x.table) same, ap (λ (x : Changed Answer Channel). x.lines) same)
