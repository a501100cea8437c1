-- What settings have shown that are those of a table, a memory, lengths and lines.
-- Assumes nothing.
use mathlib.Core.Path.{◌≡◌}
use mathlib.Core.Bool.{true, ◌&&◌}
use mathlib.Core.List.{List}
use Prim.Native.Nat.{ℕ, ◌≤◌}
use borrow.Author.Tests.{le-leb, leb-true, eqb-true, eq-eqb}
use lib.Dec.{leb, eqb}
use lib.ListN.{length}
use Rattle.laws.proofs.Choice.{both}
use Rattle.channel.specs.declared.record.Settings.{Settings}
use Rattle.channel.specs.declared.record.Channel.{Channel}
use Rattle.channel.specs.Pairs.{pairs_fit}
use Rattle.channel.specs.Tables.{most_records, each_fit, fit_table}
use Rattle.table.specs.Lent.{all_slots, all_octets}
use Rattle.settings.specs.Configuring.{made_table, settled}

pub record Settled (t : List Channel) (mem lens lines : List ℕ) (s : List Settings) : Type 0 where
  pub some : 1 ≤ length s
  pub few : length s ≤ most_records
  pub fit : each_fit s ≡ true
  pub pairs : pairs_fit s ≡ true
  pub count : length t ≡ length s
  pub slots : length lens ≡ all_slots (made_table s)
  pub octets : length mem ≡ all_octets (made_table s)
  pub lined : length lines ≡ 51

pub settled_is : (t : List Channel) (mem lens lines : List ℕ) (s : List Settings) → settled t mem lens lines s ≡ true → Settled t mem lens lines s
unfolding settled fit_table
settled_is t mem lens lines s e =
    let p4 = both _ _ e in
    let p3 = both _ _ p4.0 in
    let p2 = both _ _ p3.0 in
    let p1 = both _ _ p2.0 in
    let q3 = both (leb 1 (length s) && leb (length s) most_records && each_fit s) (pairs_fit s) p1.0 in
    let q2 = both (leb 1 (length s) && leb (length s) most_records) (each_fit s) q3.0 in
    let q1 = both (leb 1 (length s)) (leb (length s) most_records) q2.0 in
    record {
      some = leb-true _ _ q1.0;
      few = leb-true _ _ q1.1;
      fit = q2.1;
      pairs = q3.1;
      count = eqb-true _ _ p1.1;
      slots = eqb-true _ _ p2.1;
      octets = eqb-true _ _ p3.1;
      lined = eqb-true _ _ p4.1;
    }

pub is_settled_lem : (t : List Channel) (mem lens lines : List ℕ) (s : List Settings) → Settled t mem lens lines s → settled t mem lens lines s ≡ true
unfolding settled fit_table
is_settled_lem t mem lens lines s h =
    simp (
      le-leb 1 (length s) h.some,
      le-leb (length s) most_records h.few,
      h.fit,
      h.pairs,
      eq-eqb (length t) (length s) h.count,
      eq-eqb (length lens) (all_slots (made_table s)) h.slots,
      eq-eqb (length mem) (all_octets (made_table s)) h.octets,
      eq-eqb (length lines) 51 h.lined,
    )
