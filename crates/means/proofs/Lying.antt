-- The segment at a place: by its mark and its octets.
-- Assumes nothing.
use mathlib.Core.Path.{◌≡◌, sym, ap₂, ◌∙◌}
use mathlib.Core.List.{List}
use mathlib.Core.Option.{none, some}
use Prim.Native.Nat.{ℕ}
use borrow.Author.Tests.{eq-eqb, ne_eqb, eqb-true, eqb-false}
use lib.Dec.{eqb}
use lib.ListN.{get_or}
use Rattle.laws.proofs.Choice.{either_way, chosen, passed_by}
use Rattle.channel.specs.declared.record.Channel.{Channel}
use Rattle.means.specs.Held.{octets_at}
use Rattle.means.specs.Meaning.{segment_by, lying}

module _ (c : Channel) (mem lens : List ℕ) (place : ℕ) where
  pub lying_none : get_or c.marks place 0 ≡ 0 → lying c mem lens place ≡ none
  unfolding lying
  lying_none h = chosen (eqb (get_or c.marks place 0) 0) _ _ (eq-eqb _ _ h)

  pub lying_some : (get_or c.marks place 0 ≡ 0 → ⊥) → lying c mem lens place ≡ some (segment_by (get_or c.marks place 0) (octets_at c mem lens place))
  unfolding lying
  lying_some h = passed_by (eqb (get_or c.marks place 0) 0) _ _ (ne_eqb _ _ h)

-- the same where the mark is the same, and the octets if there is one
pub lying_same : (c k : Channel) (mem lens mem₁ lens₁ : List ℕ) (place : ℕ) → get_or k.marks place 0 ≡ get_or c.marks place 0
    → ((get_or c.marks place 0 ≡ 0 → ⊥) → octets_at k mem₁ lens₁ place ≡ octets_at c mem lens place)
    → lying k mem₁ lens₁ place ≡ lying c mem lens place
lying_same c k mem lens mem₁ lens₁ place e octets =
    either_way (eqb (get_or c.marks place 0) 0)
    (λ z.
    let free : get_or c.marks place 0 ≡ 0 = eqb-true _ _ z in
    lying_none k mem₁ lens₁ place (e ∙ free) ∙ sym (lying_none c mem lens place free))
    (λ z.
    let used : get_or c.marks place 0 ≡ 0 → ⊥ = eqb-false _ _ z in
    lying_some k mem₁ lens₁ place (λ y. used (sym e ∙ y))
    ∙ ap₂ (λ (m : ℕ) (o : List ℕ). some (segment_by m o)) e (octets used)
    ∙ sym (lying_some c mem lens place used))
