-- Laws of a choice: where its test is settled, what its test was where its value is known, and what holds of both its answers.
-- Assumes nothing.
use mathlib.Core.Path.{◌≡◌, refl, sym, ap, ◌∙◌}
use mathlib.Core.Bool.{Bool, true, false, ◌||◌, ◌&&◌, true≢false, false≢true}
use Rattle.std.specs.Prelude.{if◌then◌else◌}

-- a test holds or fails
pub either_way {ℓ} : {A : Type ℓ} (t : Bool) → (t ≡ true → A) → (t ≡ false → A) → A
either_way true p q = p refl
either_way false p q = q refl

module _ {A : Type 0} (t : Bool) (a b : A) where
  pub chosen : t ≡ true → (if t then a else b) ≡ a
  chosen e = ap (λ (x : Bool). if x then a else b) e

  pub passed_by : t ≡ false → (if t then a else b) ≡ b
  passed_by e = ap (λ (x : Bool). if x then a else b) e

  -- the value is not the first: the test failed
  pub not_first : (r : A) → (if t then a else b) ≡ r → (a ≡ r → ⊥) → (t ≡ false) × (b ≡ r)
  not_first r e n = either_way t (λ p. absurd (n (sym (chosen p) ∙ e))) (λ p. (p, sym (passed_by p) ∙ e))

-- both answers of a choice
pub either : {A : Type 0} (P : A → Type 0) (t : Bool) (a b : A) → P a → P b → P (if t then a else b)
either P true a b p q = p
either P false a b p q = q

-- and where the test counts
pub by_test : {A : Type 0} (P : A → Type 0) (t : Bool) (a b : A) → (t ≡ true → P a) → (t ≡ false → P b) → P (if t then a else b)
by_test P true a b p q = p refl
by_test P false a b p q = q refl

-- none of two tests held
pub neither : (a b : Bool) → (a || b) ≡ false → (a ≡ false) × (b ≡ false)
neither false b e = (refl, e)
neither true b e = absurd (true≢false e)

-- both of two tests held
pub both : (a b : Bool) → (a && b) ≡ true → (a ≡ true) × (b ≡ true)
both true b e = (refl, e)
both false b e = absurd (false≢true e)

-- one of two tests failed
pub first_not : (a b : Bool) → a ≡ false → (a && b) ≡ false
first_not a b e = ap (λ (z : Bool). z && b) e

pub last_not : (a b : Bool) → b ≡ false → (a && b) ≡ false
last_not true b e = e
last_not false b e = refl
