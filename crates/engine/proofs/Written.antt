-- A record that stands in a trace is read from it.
-- Assumes nothing.
use mathlib.Core.Path.{◌≡◌, ap, ap₂, ◌∙◌}
use mathlib.Core.Bool.{true, false}
use mathlib.Core.List.{List, [], ◌∷◌, ◌++◌}
use Prim.Native.Nat.{ℕ, ◌+◌, ◌*◌, ◌/◌, ◌%◌, ◌≤◌, ◌<◌}
use native.Mathlib.Nat.{div-add-mod'}
use native.Mathlib.Omega.{arith}
use borrow.Author.Tests.{eq-eqb, ne_eqb, le-ltb}
use lib.Dec.{ltb, eqb}
use lib.ListN.{length, get_or-append}
use lib.Seq.{append_snoc}
use Rattle.laws.proofs.Choice.{chosen, passed_by}
use Rattle.laws.proofs.Lists.{length_snoc}
use Rattle.engine.specs.Trace.{little_at, is_whole, entry_of, after, records_from, records_of, written_as, WrittenThenRead}

module _ (octets : List ℕ) (headed : 4 ≤ length octets) where
  whole_where : length octets ≡ 4 + little_at octets 0 → is_whole octets ≡ true
  whole_where e =
      passed_by (ltb (length octets) 4) false (eqb (length octets) (4 + little_at octets 0)) (le-ltb (length octets) 4 headed)
      ∙ eq-eqb (length octets) (4 + little_at octets 0) e

  short_where : length octets < 4 + little_at octets 0 → is_whole octets ≡ false
  short_where l =
      passed_by (ltb (length octets) 4) false (eqb (length octets) (4 + little_at octets 0)) (le-ltb (length octets) 4 headed)
      ∙ ne_eqb (length octets) (4 + little_at octets 0) (λ e. omega arith)

  length_kept : (o : ℕ) → little_at (octets ++ (o ∷ [])) 0 ≡ little_at octets 0
  length_kept o =
      ap₂ (λ (hi lo : ℕ). hi * 256 + lo) (get_or-append octets (o ∷ []) 0 1 (omega arith)) (get_or-append octets (o ∷ []) 0 0 (omega arith))

-- octets of a body come behind a head
gathered : (held : List ℕ) (o : ℕ) (body octets : List ℕ)
    → 4 ≤ length held
    → length held + length (o ∷ body) ≡ 4 + little_at held 0
    → records_from held ((o ∷ body) ++ octets) ≡ after (entry_of (held ++ (o ∷ body))) (records_from [] octets)
unfolding records_from
gathered held o [] octets h e =
    chosen (is_whole (held ++ (o ∷ []))) (after (entry_of (held ++ (o ∷ []))) (records_from [] octets)) (records_from (held ++ (o ∷ [])) octets) (
    whole_where (held ++ (o ∷ [])) (omega (arith, length_snoc held o)) (omega (arith, length_snoc held o, length_kept held h o))
    )
gathered held o (x ∷ body) octets h e =
    passed_by (is_whole (held ++ (o ∷ []))) (after (entry_of (held ++ (o ∷ []))) (records_from [] ((x ∷ body) ++ octets))) (records_from (held ++ (o ∷ [])) ((x ∷ body) ++ octets)) (
    short_where (held ++ (o ∷ [])) (omega (arith, length_snoc held o)) (omega (arith, length_snoc held o, length_kept held h o))
    )
    ∙ gathered (held ++ (o ∷ [])) x body octets (omega (arith, length_snoc held o)) (omega (arith, length_snoc held o, length_kept held h o))
    ∙ ap (λ (l : List ℕ). after (entry_of l) (records_from [] octets)) (append_snoc held o (x ∷ body))

by_body : (kind : ℕ) (body octets : List ℕ)
    → records_of (written_as (record { kind = kind; body = body }) ++ octets) ≡ after (record { kind = kind; body = body }) (records_of octets)
unfolding records_from
by_body kind [] octets = ap (λ (k : ℕ). after (record { kind = k; body = [] }) (records_from [] octets)) (div-add-mod' kind 256)
by_body kind (o ∷ body) octets =
    let n = length (o ∷ body) in
    let head = (n % 256) ∷ (n / 256) ∷ (kind % 256) ∷ (kind / 256) ∷ [] in
    let size : n / 256 * 256 + n % 256 ≡ n = div-add-mod' n 256 in
    passed_by (is_whole head) (after (entry_of head) (records_from [] ((o ∷ body) ++ octets))) (records_from head ((o ∷ body) ++ octets)) (short_where head (omega arith) (omega arith))
    ∙ gathered head o body octets (omega arith) (omega arith)
    ∙ ap (λ (k : ℕ). after (record { kind = k; body = o ∷ body }) (records_from [] octets)) (div-add-mod' kind 256)

pub written_then_read : WrittenThenRead
written_then_read e octets = by_body e.kind e.body octets
