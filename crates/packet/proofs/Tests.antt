-- What a packet has shown that passed a test.
-- Assumes nothing.
use mathlib.Core.Path.{◌≡◌, refl}
use mathlib.Core.Bool.{Bool, true, false}
use mathlib.Core.List.{List}
use Prim.Native.Nat.{ℕ, ◌≤◌, ◌<◌, ◌-◌}
use native.Mathlib.Omega.{arith}
use borrow.Author.Tests.{le-ltb, eq-eqb, ltb-false, leb-true, eqb-true, not-false}
use lib.ListN.{length, take}
use lib.Dec.{ltb, leb, eqb}
use Rattle.laws.specs.Choice.{if◌then◌else◌}
use Rattle.laws.specs.Octets.{pair_at}
use Rattle.laws.proofs.Choice.{neither}
use Rattle.crc.specs.Crc.{crc_of}
use Rattle.packet.specs.declared.fields.Fields.{Fields}
use Rattle.packet.specs.declared.kinds.Kind.{Kind}
use Rattle.packet.specs.Kinds.{kind_of, is_data, most_carried}
use Rattle.packet.specs.Layout.{least, most_prefix, whole_length, prefix_at, length_at}
use Rattle.packet.proofs.KindLaws.{carried_small, few_carried}
use Rattle.packet.specs.Tests.{short, damaged, lacking, strange, flags_allowed, payload_allowed, Sound}

-- ---- 1

module _ (s : List ℕ) (e : short s ≡ false) where
  pub long : least ≤ length s
  unfolding short
  long = ltb-false _ _ (neither _ _ e).0

  pub whole : length s ≡ whole_length (prefix_at s) (length_at s)
  unfolding short
  whole = eqb-true _ _ (not-false _ (neither (ltb (length s) least) _ e).1)

  -- the source address stands within it
  pub sourced : whole_length (prefix_at s) 0 ≤ length s
  sourced = omega (arith, whole)

pub not_short : (s : List ℕ) → least ≤ length s → length s ≡ whole_length (prefix_at s) (length_at s) → short s ≡ false
unfolding short
not_short s l w = simp (le-ltb _ _ l, eq-eqb _ _ w)

-- ---- 2

pub undamaged : (s : List ℕ) → damaged s ≡ false → crc_of (take (length s - 2) s) ≡ pair_at s (length s - 2)
unfolding damaged
undamaged s e = eqb-true _ _ (not-false _ e)

-- ---- 4 and 3

flags_small : (k : Kind) (g : ℕ) → flags_allowed k g ≡ true → g < 4
flags_small k g = go (is_data k)
  where
    go : (t : Bool) → (if t then leb g 3 else eqb g 3) ≡ true → g < 4
    go true e = omega (arith, leb-true g 3 e)
    go false e = omega (arith, eqb-true g 3 e)

payload_small : (k : Kind) (g x : ℕ) → payload_allowed k g x ≡ true → x < 65536
payload_small k g x = go (is_data k)
  where
    counted : (z : Bool) → eqb x 0 ≡ z → (if z then leb 2 g else leb x 65535) ≡ true → x < 65536
    counted true z e = omega (arith, eqb-true x 0 z)
    counted false z e = omega (arith, leb-true x 65535 e)

    go : (t : Bool) → (if t then (if eqb x 0 then leb 2 g else leb x 65535) else leb x (most_carried k)) ≡ true → x < 65536
    go true e = counted (eqb x 0) refl e
    go false e = omega (arith, leb-true x (most_carried k) e, few_carried k)

pub sound : (f : Fields) (n x : ℕ) → lacking f n ≡ false → strange f x ≡ false → Sound f n x
unfolding lacking strange
sound f n x l e =
    let l1 = neither _ _ l in
    let l2 = neither _ _ l1.0 in
    let e1 = neither _ _ e in
    let e2 = neither _ _ e1.0 in
    let e3 = neither _ _ e2.0 in
    record {
      secondary = eqb-true _ _ (not-false _ l2.0);
      prefix = ltb-false most_prefix n l2.1;
      kind = carried_small _ (not-false _ l1.1);
      version = eqb-true _ _ (not-false _ e3.0);
      reserved = eqb-true _ _ (not-false _ e3.1);
      flags = flags_small (kind_of f.kind) _ (not-false _ e2.1);
      payload = payload_small (kind_of f.kind) f.flags _ (not-false _ e1.1);
    }
