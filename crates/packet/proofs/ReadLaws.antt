-- Laws of `read_of`: the answer from the tests, and the tests from the answer.
-- Assumes nothing.
use mathlib.Core.Path.{◌≡◌, ap}
use mathlib.Core.Bool.{true, false}
use mathlib.Core.List.{List}
use Prim.Native.Nat.{ℕ}
use native.Mathlib.Omega.{arith}
use Rattle.std.specs.Prelude.{Result, Err}
use Rattle.laws.proofs.Choice.{not_first}
use Rattle.packet.specs.declared.fields.Fields.{Fields}
use Rattle.packet.specs.declared.reading.Found.{Found}
use Rattle.packet.specs.declared.reading.ReadError.{ReadError}
use Rattle.packet.specs.declared.reading.ReadError.TheVariants.{Short, Damaged, Lacking, Strange}
use Rattle.packet.specs.Layout.{fields_at, prefix_at, length_at, payload_at}
use Rattle.packet.specs.Tests.{short, damaged, lacking, strange}
use Rattle.packet.specs.Reading.{finds, read_of, read_number}

module _ (s : List ℕ) where
  pub read_short : short s ≡ true → read_of s ≡ Err Short
  unfolding read_of
  read_short a = rw a

  pub read_damaged : short s ≡ false → damaged s ≡ true → read_of s ≡ Err Damaged
  unfolding read_of
  read_damaged a b = rw (a, b)

  pub read_lacking : short s ≡ false → damaged s ≡ false → lacking (fields_at s) (prefix_at s) ≡ true → read_of s ≡ Err Lacking
  unfolding read_of
  read_lacking a b c = rw (a, b, c)

  pub read_strange : short s ≡ false → damaged s ≡ false → lacking (fields_at s) (prefix_at s) ≡ false → strange (fields_at s) (length_at s) ≡ true → read_of s ≡ Err Strange
  unfolding read_of
  read_strange a b c d = rw (a, b, c, d)

  pub read_found : short s ≡ false
      → damaged s ≡ false
      → lacking (fields_at s) (prefix_at s) ≡ false
      → strange (fields_at s) (length_at s) ≡ false
      → read_of s ≡ finds (fields_at s) (prefix_at s) (payload_at (prefix_at s)) (length_at s)
  unfolding read_of
  read_found a b c d = rw (a, b, c, d)

-- ---- the tests from the answer

-- what an accepted packet has shown
pub record Accepted (s : List ℕ) (f : Fields) (n start x : ℕ) : Type 0 where
  pub long : short s ≡ false
  pub sealed : damaged s ≡ false
  pub base : lacking (fields_at s) (prefix_at s) ≡ false
  pub plain : strange (fields_at s) (length_at s) ≡ false
  pub fields : fields_at s ≡ f
  pub prefix : prefix_at s ≡ n
  pub place : payload_at (prefix_at s) ≡ start
  pub payload : length_at s ≡ x

-- what is then found
abbrev what : Fields → ℕ → ℕ → ℕ → Found
what f n start x = record { fields = f; prefix = n; start = start; length = x }

-- a refusal finds nothing
unfound : {r : Result Found ReadError} (f : Fields) (n start x : ℕ) → (read_number r ≡ 0 → ⊥) → r ≡ finds f n start x → ⊥
unfound f n start x refused e = refused (ap read_number e)

pub accepted : (s : List ℕ) (f : Fields) (n start x : ℕ) → read_of s ≡ finds f n start x → Accepted s f n start x
unfolding read_of
accepted s f n start x e =
    let a = not_first (short s) _ _ _ e (unfound f n start x (λ z. omega arith)) in
    let b = not_first (damaged s) _ _ _ a.1 (unfound f n start x (λ z. omega arith)) in
    let c = not_first (lacking (fields_at s) (prefix_at s)) _ _ _ b.1 (unfound f n start x (λ z. omega arith)) in
    let d = not_first (strange (fields_at s) (length_at s)) _ _ _ c.1 (unfound f n start x (λ z. omega arith)) in
    let told : finds (fields_at s) (prefix_at s) (payload_at (prefix_at s)) (length_at s) ≡ finds f n start x = d.1 in
    let found : what (fields_at s) (prefix_at s) (payload_at (prefix_at s)) (length_at s) ≡ what f n start x = cc in
    record {
      long = a.0;
      sealed = b.0;
      base = c.0;
      plain = d.0;
      fields = ap (λ (z : Found). z.fields) found;
      prefix = ap (λ (z : Found). z.prefix) found;
      place = ap (λ (z : Found). z.start) found;
      payload = ap (λ (z : Found). z.length) found;
    }
