-- What holds of each record of a table, and is kept by the step of a call, is kept by the call.
-- Assumes nothing.
use mathlib.Core.Path.{◌≡◌, refl, sym, ap, ◌∙◌, subst}
use mathlib.Core.Bool.{Bool, true, false}
use mathlib.Core.List.{List, map}
use Prim.Native.Nat.{ℕ, ◌<◌}
use borrow.Author.Tests.{eqb-true, eqb-false}
use lib.Dec.{eqb}
use lib.ListN.{length, set, length-set, length-map}
use lib.Seq.{get_or-set_same, get_or-set_other}
use Rattle.std.specs.Prelude.{if◌then◌else◌}
use Rattle.walks.specs.Serving.{Called, changes}
use Rattle.channel.specs.declared.record.Channel.{Channel}
use Rattle.channel.specs.declared.answer.Answer.{Answer}
use Rattle.channel.specs.declared.answer.Answer.TheVariants.{Refused}
use Rattle.channel.specs.declared.answer.Refusal.TheVariants as refusal
use Rattle.table.specs.declared.looking.Look.{Look}
use Rattle.table.specs.Looking.{chosen as choice}
use Rattle.table.specs.Waiting.{rank_in}
use Rattle.table.specs.Lent.{passes}
use Rattle.table.specs.Serving.{blank, record_at, own_mem, own_lens, Step, stored, serve_one}
use Rattle.ticks.specs.Ticks.{tick_of, tick_answer, ticked, relisted_from}
use Rattle.keeps.proofs.Serving.{served_at, worked, serve_cases}
use Rattle.keeps.proofs.CallsAlone.{mapped_at}

module _ (P : Channel → Type 0) where
  abbrev pub Each : List Channel → Type 0
  Each t = (i : ℕ) → i < length t → P (record_at t i)

  -- a step keeps it
  abbrev pub Steps : Step → List ℕ → Type 0
  Steps step out = (c : Channel) (rank : ℕ) (mem lens : List ℕ) → P c → P (step c rank mem lens out).made.channel

  stored_each : (t : List Channel) (i : ℕ) (k : Channel) → Each t → P k → Each (set t i k)
  stored_each t i k each full j less = go (eqb j i) refl
    where
      below : j < length t
      below = subst (λ (n : ℕ). j < n) (length-set t i k) less

      go : (b : Bool) → eqb j i ≡ b → P (record_at (set t i k) j)
      go true e =
          let p = eqb-true j i e in
          subst P (sym (ap (record_at (set t i k)) p ∙ get_or-set_same t i k blank (subst (λ (n : ℕ). n < length t) p below))) full
      go false e = subst P (sym (get_or-set_other t i j k blank (eqb-false j i e))) (each j below)

  pub serve_each : (look : Look) (step : Step) (t : List Channel) (mem lens lines out : List ℕ) → Steps step out → Each t → Each (serve_one look step t mem lens lines out).table
  unfolding stored
  serve_each look step t mem lens lines out steps each =
      serve_cases look step t mem lens lines out (λ (g : Called Answer Channel). Each g.table) each each
      (λ h below g.
      let i = served_at look step t mem lens lines out in
      stored_each t i (worked look step t mem lens lines out).made.channel each
      (steps (record_at t i) (rank_in (choice look lines t).grade) (own_mem t i mem) (own_lens t i lens) (each i below)))

  pub tick_each : ((c : Channel) → P c → P (tick_of c)) → (t : List Channel) (mem lens lines : List ℕ) → Each t → Each (ticked t mem lens lines).table
  unfolding ticked
  tick_each ticks t mem lens lines each = go (passes t mem lens lines)
    where
      every : Each (map tick_of t)
      every i less =
          let below = subst (λ (n : ℕ). i < n) (length-map t tick_of) less in
          subst P (sym (mapped_at tick_of t i below)) (ticks (record_at t i) (each i below))

      go : (b : Bool) → Each (if b then changes (tick_answer t) (map tick_of t) (relisted_from 0 (map tick_of t) lines) else changes (Refused refusal.Settings) t lines).table
      go true = every
      go false = each
