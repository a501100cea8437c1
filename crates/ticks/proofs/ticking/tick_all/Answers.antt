-- `ticks::ticking::tick_all` meets its contract: each turn takes one channel from those that are left.
use Rattle.std.proofs.Common.{◌≡◌, ◌∙◌, sym, subst, ◌<◌, ◌≢◌, length, set, get_or-set_other, arith}
use Rattle.std.proofs.Math.ListN.{length-set}
use Rattle.std.proofs.lemmas.List.{get_or_default}
use Rattle.table.specs.Serving.{blank}
use Rattle.ticks.specs.Ticking.{turned_by}
use Rattle.ticks.specs.Ticks.{ticks}
use Rattle.ticks.proofs.Turns.{turn_carries, turn_stores, last_carries, last_stores}
use Rattle.ticks.proofs.ticking.tick_all.Goals as goal

pub tick_next-s-requires : goal.tick_next-s-requires
tick_next-s-requires c =
    let at = c.loop-i in
    let within : at.i < length at.t = omega arith in
    subst ticks (get_or_default at.t at.i blank _ within) (at.invariant.left at.i (omega arith) within)

pub loop-i-preserved : goal.loop-i-preserved
loop-i-preserved c =
    let at = c.loop-i in
    let s = c.tick_next-s in
    let within : at.i < length at.t = omega arith in
    let same : length (set at.t at.i s.result.channel) ≡ length at.t = length-set at.t at.i s.result.channel in
    record {
      upto = omega (arith, same);
      left = λ k after below. let other : k ≢ at.i = omega arith in subst ticks (sym (get_or-set_other at.t at.i k s.result.channel blank other)) (at.invariant.left k (omega arith) (omega (arith, same)));
      table = turn_stores (λ x. x.channel) (λ x. x.round) turned_by _ at.i at.t at.a s.result within s.ensures ∙ at.invariant.table;
      round = turn_carries (λ x. x.channel) (λ x. x.round) turned_by _ at.i at.t at.a s.result within s.ensures ∙ at.invariant.round;
    }

pub returns : goal.returns
returns c =
    let at = c.loop-i in (
      sym (last_carries (λ x. x.channel) (λ x. x.round) turned_by at.i at.t at.a c.loop-i-test.false) ∙ at.invariant.round,
      sym (last_stores (λ x. x.channel) (λ x. x.round) turned_by at.i at.t at.a c.loop-i-test.false) ∙ at.invariant.table,
    )
