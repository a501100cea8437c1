-- What has happened since, the latest first, with a number before and after each event: the numbers never fall. An arrival in order leaves the later
-- part of such a chain.
-- Assumes nothing.
use mathlib.Core.Path.{subst}
use mathlib.Core.List.{List, [], ◌∷◌, ◌++◌, append_assoc}
use Prim.Native.Nat.{ℕ, ◌≤◌}
use native.Mathlib.Omega.{arith}
use Rattle.delivery.specs.History.{Event}

-- a link of the chain: what was before the event, the event, and the numbers before and after it
module _ (R : List Event → Event → ℕ → ℕ → Type 0) where
  -- from `low` to `top`, where `older` came before
  abbrev pub Chain : List Event → ℕ → ℕ → List Event → Type 0
  Chain older top low [] = low ≤ top
  Chain older top low (e ∷ q) = (p : ℕ) × (p ≤ top) × R (q ++ older) e p top × Chain older p low q

  pub chain_rises : (older : List Event) (top low : ℕ) (q : List Event) → Chain older top low q → low ≤ top
  chain_rises older top low [] c = c
  chain_rises older top low (e ∷ q) c = omega (arith, c.1, chain_rises older c.0 low q c.3)

  pub chain_from : (older : List Event) (top low from : ℕ) (q : List Event) → from ≤ low → Chain older top low q → Chain older top from q
  chain_from older top low from [] h c = omega (arith, h, c)
  chain_from older top low from (e ∷ q) h c = (c.0, c.1, c.2, chain_from older c.0 low from q h c.3)

  -- cut at an event: its link, and the later part
  pub record Cut (older : List Event) (top low : ℕ) (later : List Event) (source : Event) (before : List Event) : Type 0 where
    pub from : ℕ
    pub to : ℕ
    pub after : low ≤ from
    pub rises : from ≤ to
    pub link : R (before ++ older) source from to
    pub rest : Chain (source ∷ (before ++ older)) top to later

  pub cut : (older : List Event) (top low : ℕ) (later : List Event) (source : Event) (before : List Event)
      → Chain older top low (later ++ (source ∷ before)) → Cut older top low later source before
  cut older top low [] source before c =
      record { from = c.0; to = top; after = chain_rises older c.0 low before c.3; rises = c.1; link = c.2; rest = omega arith }
  cut older top low (e ∷ later) source before c =
      let k = cut older c.0 low later source before c.3 in
      record {
        from = k.from;
        to = k.to;
        after = k.after;
        rises = k.rises;
        link = k.link;
        rest = (c.0, c.1, subst (λ (l : List Event). R l e c.0 top) (append_assoc later (source ∷ before) older) c.2, k.rest);
      }
