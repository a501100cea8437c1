-- What the settings of a table have shown that are fit: each is, and no two clash.
-- Assumes nothing.
use Rattle.std.proofs.Common.{◌≡◌, ℕ, zero, suc, ◌<◌, ◌≤◌, true, false, not, ◌&&◌, leb, List, [], ◌∷◌, length, get_or, le_of_suc-le-suc, not-suc-le-zero, leb-true}
use borrow.Author.Tests.{not-true}
use Rattle.laws.proofs.Choice.{both, neither}
use Rattle.channel.specs.declared.record.Addresses.{Addresses}
use Rattle.channel.specs.declared.record.Settings.{Settings}
use Rattle.channel.specs.Settings.{fit, clash}
use Rattle.channel.specs.Tables.{most_records, clashes, each_fit, fit_table}
use Rattle.channel.specs.Pairs.{pairs_fit}

pub table_count : (l : List Settings) → fit_table l ≡ true → (1 ≤ length l) × (length l ≤ most_records)
unfolding fit_table
table_count l e =
    let p = both _ _ (both _ (pairs_fit l) e).0 in
    let q = both _ _ p.0 in
    (leb-true _ _ q.0, leb-true _ _ q.1)

first_and_rest : (s : Settings) (l : List Settings) → each_fit (s ∷ l) ≡ true
    → (fit s ≡ true) × (clashes s.addresses l ≡ false) × (each_fit l ≡ true)
unfolding each_fit
first_and_rest s l e =
    let p = both (fit s && not (clashes s.addresses l)) (each_fit l) e in
    let q = both (fit s) (not (clashes s.addresses l)) p.0 in
    (q.0, not-true (clashes s.addresses l) q.1, p.1)

each_fit_lem : (l : List Settings) (d : Settings) → each_fit l ≡ true → (i : ℕ) → i < length l → fit (get_or l i d) ≡ true
each_fit_lem [] d e i h = absurd (not-suc-le-zero h)
each_fit_lem (s ∷ l) d e zero h = (first_and_rest s l e).0
each_fit_lem (s ∷ l) d e (suc i) h = each_fit_lem l d (first_and_rest s l e).2 i (le_of_suc-le-suc h)

-- each is fit
pub table_fit : (l : List Settings) (d : Settings) → fit_table l ≡ true → (i : ℕ) → i < length l → fit (get_or l i d) ≡ true
unfolding fit_table
table_fit l d e = each_fit_lem l d (both (leb 1 (length l) && leb (length l) most_records) (each_fit l) (both _ (pairs_fit l) e).0).1

none_clashes : (a : Addresses) (l : List Settings) (d : Settings) → clashes a l ≡ false → (i : ℕ) → i < length l
    → clash a (get_or l i d).addresses ≡ false
unfolding clashes
none_clashes a [] d e i h = absurd (not-suc-le-zero h)
none_clashes a (s ∷ l) d e zero h = (neither (clash a s.addresses) (clashes a l) e).0
none_clashes a (s ∷ l) d e (suc i) h =
    none_clashes a l d (neither (clash a s.addresses) (clashes a l) e).1 i (le_of_suc-le-suc h)

apart : (l : List Settings) (d : Settings) → each_fit l ≡ true → (i j : ℕ) → i < j → j < length l
    → clash (get_or l i d).addresses (get_or l j d).addresses ≡ false
apart [] d e i j h k = absurd (not-suc-le-zero k)
apart (s ∷ l) d e i zero h k = absurd (not-suc-le-zero h)
apart (s ∷ l) d e zero (suc j) h k = none_clashes s.addresses l d (first_and_rest s l e).1 j (le_of_suc-le-suc k)
apart (s ∷ l) d e (suc i) (suc j) h k = apart l d (first_and_rest s l e).2 i j (le_of_suc-le-suc h) (le_of_suc-le-suc k)

-- no two clash
pub table_apart : (l : List Settings) (d : Settings) → fit_table l ≡ true → (i j : ℕ) → i < j → j < length l
    → clash (get_or l i d).addresses (get_or l j d).addresses ≡ false
unfolding fit_table
table_apart l d e = apart l d (both (leb 1 (length l) && leb (length l) most_records) (each_fit l) (both _ (pairs_fit l) e).0).1
