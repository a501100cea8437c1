-- The pairs that are seen, one after another, are those of the settings.
-- Assumes nothing.
use Rattle.std.proofs.Common.{◌≡◌, ◌∙◌, refl, sym, ap, ℕ, List, length, get_or, arith}
use native.Mathlib.Nat.{zero-add}
use Rattle.channel.specs.declared.record.Settings.{Settings}
use Rattle.channel.specs.Pairs.{pairs_from, pairs_fit, spares_of, leads_of, ways_of}
use Rattle.channel.proofs.PairLaws.{pairs_same}
use Rattle.settings.specs.Seeing.{Seen, begun, seen}
use Rattle.settings.proofs.SeenLaws.{Good, starts, noted_routes}

module _ (lens lines : List ℕ) (s : List Settings) where
  abbrev whole : Seen
  whole = seen s lens (begun lines)

  -- the pairs that are seen are those of the settings
  pub pairs_seen : length lines ≡ 51 → Good (begun lines) 0 s
      → pairs_from whole.routes.spares whole.routes.leads whole.routes.ways (length s) (length s) 0 ≡ pairs_fit s
  pairs_seen e g =
      let going = starts lines e in
      pairs_same whole.routes.spares whole.routes.leads whole.routes.ways (spares_of s) (leads_of s) (ways_of s) (length s)
      (λ i h. ap (λ (k : ℕ). get_or whole.routes.spares k 0) (sym (zero-add i)) ∙ noted_routes (λ r. r.spares) (λ x. x.limits.spare) (λ r x j. refl) lens 0 (begun lines) s going g refl i h)
      (λ i h. ap (λ (k : ℕ). get_or whole.routes.leads k 0) (sym (zero-add i)) ∙ noted_routes (λ r. r.leads) (λ x. x.limits.lead) (λ r x j. refl) lens 0 (begun lines) s going g refl i h)
      (λ i h. ap (λ (k : ℕ). get_or whole.routes.ways k 0) (sym (zero-add i)) ∙ noted_routes (λ r. r.ways) (λ x. x.addresses.direction) (λ r x j. refl) lens 0 (begun lines) s going g refl i h)
      (length s) 0 (omega arith)
