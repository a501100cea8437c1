-- A tick, seen at the channel that is watched: its record is ticked, and its octets and lengths lie where they lay.
-- Assumes nothing.
use mathlib.Core.Path.{◌≡◌, refl, sym, ap, ap₂, ◌∙◌, subst}
use mathlib.Core.Bool.{Bool, true, false}
use mathlib.Core.List.{List, [], ◌∷◌}
use Prim.Native.Nat.{ℕ, zero, suc, ◌+◌, ◌<◌}
use lib.ListN.{length, take}
use Rattle.walks.specs.Serving.{Changed}
use Rattle.channel.specs.declared.record.Limits.{Limits}
use Rattle.channel.specs.declared.record.Channel.{Channel}
use Rattle.channel.specs.declared.answer.Answer.{Answer}
use Rattle.channel.specs.declared.answer.Answer.TheVariants.{Refused}
use Rattle.channel.specs.declared.answer.Refusal.TheVariants as refusal
use Rattle.table.specs.Lent.{area_of, part_of, all_slots, all_octets, passes}
use Rattle.table.specs.Serving.{record_at, own_mem, own_lens}
use Rattle.ticks.specs.Ticks.{ticked, tick_of}
use Rattle.keeps.specs.Keeping.{SettingsStay, limits_in, staying}
use Rattle.keeps.proofs.CallsAlone.{tick_alone}
use Rattle.keeps.proofs.CallsKeep.{tick_unlawful_changes_nothing}
use Rattle.keeps.proofs.Settled.{tick_settings_stay}
use Rattle.delivery.proofs.Own.{View, Seen}
use Rattle.delivery.proofs.Nodes.{same_at}

-- what the first records have together, by their limits
abbrev total_of : (Limits → ℕ) → List Limits → ℕ → ℕ
total_of f [] i = 0
total_of f (k ∷ ks) zero = 0
total_of f (k ∷ ks) (suc i) = f k + total_of f ks i

octets_total : (t : List Channel) (i : ℕ) → all_octets (take i t) ≡ total_of area_of (limits_in t) i
unfolding all_octets
octets_total [] zero = refl
octets_total [] (suc i) = refl
octets_total (c ∷ t) zero = refl
octets_total (c ∷ t) (suc i) = ap (λ (k : ℕ). area_of c.limits + k) (octets_total t i)

slots_total : (t : List Channel) (i : ℕ) → all_slots (take i t) ≡ total_of (λ k. k.slots) (limits_in t) i
unfolding all_slots
slots_total [] zero = refl
slots_total [] (suc i) = refl
slots_total (c ∷ t) zero = refl
slots_total (c ∷ t) (suc i) = ap (λ (k : ℕ). c.limits.slots + k) (slots_total t i)

-- with the same limits all parts lie where they lay
module _ (t u : List Channel) (e : SettingsStay t u) (i : ℕ) where
  limits_at : (record_at u i).limits ≡ (record_at t i).limits
  limits_at = same_at (λ c. c.limits) u t i e.1

  mem_at : (mem : List ℕ) → own_mem u i mem ≡ own_mem t i mem
  mem_at mem =
      ap₂ (λ (from : ℕ) (k : Limits). part_of from (area_of k) mem)
      (octets_total u i ∙ ap (λ (ks : List Limits). total_of area_of ks i) e.1 ∙ sym (octets_total t i)) limits_at

  lens_at : (lens : List ℕ) → own_lens u i lens ≡ own_lens t i lens
  lens_at lens =
      ap₂ (λ (from : ℕ) (k : Limits). part_of from k.slots lens)
      (slots_total u i ∙ ap (λ (ks : List Limits). total_of (λ k. k.slots) ks i) e.1 ∙ sym (slots_total t i)) limits_at

-- a tick that is refused leaves what was there
pub tick_seen : (P : View) (t : List Channel) (mem lens lines : List ℕ) (i : ℕ) → i < length t
    → P (Refused refusal.Settings) [] (record_at t i) (own_mem t i mem) (own_lens t i lens)
    → P (ticked t mem lens lines).answer [] (tick_of (record_at t i)) (own_mem t i mem) (own_lens t i lens)
    → Seen P i (staying (ticked t mem lens lines) mem lens)
tick_seen P t mem lens lines i below bad x = go (passes t mem lens lines) refl
  where
    u : List Channel
    u = (ticked t mem lens lines).table

    stay : SettingsStay t u
    stay = tick_settings_stay t mem lens lines

    go : (b : Bool) → passes t mem lens lines ≡ b → Seen P i (staying (ticked t mem lens lines) mem lens)
    go false e = subst (λ (g : Changed Answer Channel). Seen P i (staying g mem lens)) (sym (tick_unlawful_changes_nothing t mem lens lines e)) bad
    go true e =
        subst (λ (z : Channel). P (ticked t mem lens lines).answer [] z (own_mem u i mem) (own_lens u i lens)) (sym (tick_alone t mem lens lines e i below))
        (subst (λ (z : List ℕ). P (ticked t mem lens lines).answer [] (tick_of (record_at t i)) z (own_lens u i lens)) (sym (mem_at t u stay i mem))
        (subst (λ (z : List ℕ). P (ticked t mem lens lines).answer [] (tick_of (record_at t i)) (own_mem t i mem) z) (sym (lens_at t u stay i lens)) x))
