-- The window's start, counted on from its 8 bits.
-- Assumes nothing.
use mathlib.Core.Path.{◌≡◌, refl, sym, ap, ◌∙◌}
use Prim.Native.Nat.{ℕ, ◌+◌, ◌-◌, ◌≤◌, ◌<◌}
use native.Mathlib.Omega.{arith}
use lib.Dec.{eqb}
use borrow.Author.Tests.{eqb-true, eqb-false}
use Rattle.laws.proofs.Choice.{by_test}
use Rattle.channel.specs.declared.record.Channel.{Channel}
use Rattle.channel.specs.Record as state
use Rattle.protocol.specs.Numbers.{number_at, distance}
use Rattle.delivery.specs.Calls.{counted_on}

-- where it has not moved
pub distance_none : (z : ℕ) → distance z z ≡ 0
unfolding distance
distance_none z = omega arith

-- where it has moved by less than a turn
pub distance_on : (a d : ℕ) → d < 256 → distance (number_at (a + d)) (number_at a) ≡ d
unfolding distance number_at
distance_on a d h = omega arith

-- a call that leaves the start
pub counted_same : (n : ℕ) (before c : Channel) → (c.phase.state ≡ state.opened → c.window.start ≡ before.window.start) → counted_on n before c ≡ n
counted_same n before c e =
    by_test (λ (k : ℕ). k ≡ n) (eqb c.phase.state state.opened) _ n
    (λ q.
    let z : distance c.window.start before.window.start ≡ 0
    = ap (λ (w : ℕ). distance w before.window.start) (e (eqb-true c.phase.state state.opened q)) ∙ distance_none before.window.start
    in omega (arith, z))
    (λ q. refl)

-- a call that moves it from the a-th to the b-th segment, in OPEN
pub counted_on_lem : (n a b : ℕ) (before c : Channel) → n ≡ a → a ≤ b → b < a + 256
    → (c.phase.state ≡ state.opened → before.window.start ≡ number_at a)
    → (c.phase.state ≡ state.opened → c.window.start ≡ number_at b)
    → ((c.phase.state ≡ state.opened → ⊥) → a ≡ b)
    → counted_on n before c ≡ b
counted_on_lem n a b before c at low high old new still =
    by_test (λ (k : ℕ). k ≡ b) (eqb c.phase.state state.opened) _ n
    (λ q.
    let is : c.phase.state ≡ state.opened = eqb-true c.phase.state state.opened q in
    let sum : a + (b - a) ≡ b = omega arith in
    let z : distance c.window.start before.window.start ≡ b - a
    = ap (λ (w : ℕ). distance w before.window.start) (new is ∙ ap number_at (sym sum))
    ∙ ap (λ (w : ℕ). distance (number_at (a + (b - a))) w) (old is)
    ∙ distance_on a (b - a) (omega arith)
    in omega (arith, z))
    (λ q. at ∙ still (eqb-false c.phase.state state.opened q))
